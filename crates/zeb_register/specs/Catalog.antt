-- The databases that the tables stand for.
use Rattle.std.specs.Prelude.{◌≡◌, ◌≢◌, ◌↔◌, ◌⊎◌, ℕ, ℤ, pos, List, Option, Some, None, string_bytes, IsUtf8}
use Rattle.std.specs.declared.cmp.Ordering.{Ordering}
use Rattle.std.specs.Ordering.{nat_cmp}
use Rattle.std.specs.Cmp.Lexicographic.{slice_cmp}
use Rattle.std.specs.List.Sorted.{IsStrictlySortedBy}
use Rattle.sqlite.specs.Tree.{Trees}
use Rattle.sqlite_rules.specs.Lists.{Has}
use Rattle.zeb_register.specs.declared.catalog.Database.{Database}
use Rattle.zeb_register.specs.declared.catalog.ListedDatabase.{ListedDatabase}
use Rattle.zeb_register.specs.Store.{HasDatabase}

-- the database of this name, or none where there is none
abbrev pub IsDatabaseOf : Trees → List ℕ → Option Database → Type 0
IsDatabaseOf trees name None = (id last : ℤ) → ¬ HasDatabase trees id name last
IsDatabaseOf trees name (Some found) = HasDatabase trees found.id.0 name (pos found.last)

-- the last number of the database of this name is a number of 0 or more
abbrev pub AreCountedDatabases : Trees → List ℕ → Type 0
AreCountedDatabases trees name = (id last : ℤ) → HasDatabase trees id name last → (n : ℕ) × (last ≡ pos n)

-- The database of this name has this last number and this id, which it keeps where it was there, and which was no other's. Each other is as
-- it was.
pub record PutsDatabase (id : ℤ) (name : List ℕ) (last : ℤ) (tree : ℕ) (old new : Trees) : Type 0 where
  pub each : (i : ℤ) (n : List ℕ) (l : ℤ) → HasDatabase new i n l ↔ ((HasDatabase old i n l × (n ≢ name)) ⊎ ((i ≡ id) × (n ≡ name) × (l ≡ last)))
  pub kept : (i l : ℤ) → HasDatabase old i name l → i ≡ id
  pub own : (n : List ℕ) (l : ℤ) → HasDatabase old id n l → n ≡ name

-- ---- all databases

-- a database of the list has this id, this name and this last number
abbrev pub IsListed : List ListedDatabase → ℤ → List ℕ → ℤ → Type 0
IsListed list id name last =
    (database : ListedDatabase) × Has list database × (id ≡ database.id.0) × (name ≡ string_bytes database.name) × (last ≡ pos database.last)

abbrev pub listed_order : ListedDatabase → ListedDatabase → Ordering
listed_order a b = slice_cmp nat_cmp (string_bytes a.name) (string_bytes b.name)

-- these are all databases that are there, with their ids, names and last numbers, by rising names
pub record AreDatabases (trees : Trees) (list : List ListedDatabase) : Type 0 where
  pub each : (id : ℤ) (name : List ℕ) (last : ℤ) → HasDatabase trees id name last ↔ IsListed list id name last
  pub rising : IsStrictlySortedBy listed_order list

-- each last number is a number of 0 or more, and each name is UTF-8
abbrev pub AreReadableDatabases : Trees → Type 0
AreReadableDatabases trees = (id : ℤ) (name : List ℕ) (last : ℤ) → HasDatabase trees id name last → ((n : ℕ) × (last ≡ pos n)) × IsUtf8 name
