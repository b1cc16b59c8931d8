-- What a store shows that was just opened from the files of a disk.
use Rattle.std.specs.List.{AllByRecursion, starts_with}
use Rattle.std.specs.Prelude.{◌≢◌, ℕ, IsTrue, List, codes, nat_eq}
use Rattle.sqlite.specs.Effect.{Database}
use Rattle.sqlite.specs.State.{IsLive, Opens, State}
use Rattle.sqlite_trees.specs.View.{IsShaped}
use Rattle.sqlite_trees.specs.declared.store.Shape.TheVariants as shape

-- the rowids of each table are integers that rise
abbrev pub HasRisingRowids : Database → Type 0
HasRisingRowids db = AllByRecursion (λ t. IsShaped shape.Table (db.trees t.tree)) db.schema.tables

-- SQLite gives the path no other meaning than a file's
abbrev pub IsPlainPath : List ℕ → Type 0
IsPlainPath path = (path ≢ codes ":memory:") × ¬ IsTrue (starts_with nat_eq path (codes "file:"))

-- It is open with no transaction. What it shows is committed, and is a database that obeys its schema; the rowids of its tables rise.
pub record IsWellOpened (s : State) : Type 0 where
  pub opened : Opens s
  pub live : IsLive s
  pub rising : HasRisingRowids s.now
