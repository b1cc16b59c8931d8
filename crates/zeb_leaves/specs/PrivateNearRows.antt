-- What only the contracts of private functions speak of; no public clause reaches it: statements that show the first rows of a list, so many
-- at most.
use Rattle.std.specs.Prelude.{◌≡◌, ◌<◌, ◌++◌, ℕ, List, [], length, reverse}
use Rattle.sqlite.specs.Order.{Row}
use Rattle.zeb_register.specs.Sql.{IsListOf}

-- the rest stands behind these rows, and there is none where they are fewer than the limit
abbrev pub IsBehind : ℕ → (rows rest : List Row) → Type 0
IsBehind limit rows rest = length rows < limit → rest ≡ []

module _ (limit : ℕ) (P : Row → Type 0) where
  -- the first of the rows that are P, rising
  abbrev pub ListsFront : List Row → Type 0
  ListsFront rows = (rest : List Row) × IsListOf P (rows ++ rest) × IsBehind limit rows rest

  -- the last of them, falling
  abbrev pub ListsBack : List Row → Type 0
  ListsBack rows = (rising : List Row) × (rest : List Row) × IsListOf P rising × (reverse rising ≡ rows ++ rest) × IsBehind limit rows rest
