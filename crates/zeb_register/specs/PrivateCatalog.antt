-- What only the contracts of private functions speak of; no public clause reaches it.
-- A database as a row of their list shows it.
use Rattle.std.specs.Prelude.{ℕ, ℤ, pos, List, [], ◌∷◌, string_bytes, Option, Some, None}
use Rattle.sqlite.specs.declared.types.Value.TheVariants.{Int, Text}
use Rattle.sqlite.specs.Order.{Row}
use Rattle.sqlite.specs.Tree.{Trees}
use Rattle.zeb_register.specs.declared.catalog.DatabaseId.{DatabaseId}
use Rattle.zeb_register.specs.declared.catalog.ListedDatabase.{ListedDatabase}
use Rattle.zeb_register.specs.Store.{HasDatabase}

-- the columns of a database beside its NULL
abbrev pub listed_row : ListedDatabase → Row
listed_row database = Text (string_bytes database.name) ∷ Int database.id.0 ∷ Int (pos database.last) ∷ []

-- the id of the database of this name, or none where there is none
abbrev pub IsIdOf : Trees → List ℕ → Option DatabaseId → Type 0
IsIdOf trees name None = (id last : ℤ) → ¬ HasDatabase trees id name last
IsIdOf trees name (Some id) = (last : ℤ) × HasDatabase trees id.0 name last
