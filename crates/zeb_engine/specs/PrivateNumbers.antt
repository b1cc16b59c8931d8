-- What only the contracts of private functions speak of; no public clause reaches it.
-- The numbers of the records of a database, which a change looks at first.
use Rattle.std.specs.Prelude.{◌+◌, ◌≤◌, ◌<◌, ◌^◌, ℕ, ℤ, pos, List, Option, Some, None}
use Rattle.sqlite.specs.Effect.{Database}
use Rattle.sqlite.specs.Tree.{Trees}
use Rattle.zeb_register.specs.declared.kept.Record.{Record}
use Rattle.zeb_register.specs.Catalog.{PutsDatabase}
use Rattle.zeb_register.specs.Kept.{AreReadable}
use Rattle.zeb_register.specs.Sql.{KeepsOthers}
use Rattle.zeb_register.specs.Store.{databases_tree}
use Rattle.zeb_register.specs.Tables.{store_schema}
use Rattle.zeb_change.specs.RecordChanges.{AreStores}
use Rattle.zeb_engine.specs.Changing.{HasNumbersTo}

-- of the record with the least number, and the first above the last number: the first one, if there is one, has no
-- number below 1, and the second isn't there
abbrev pub AreGiven : (first above : Option Record) → Type 0
AreGiven first (Some found) = ⊥
AreGiven None None = Unit {0}
AreGiven (Some found) None = 1 ≤ found.sysno

-- the records of a database can be read and have numbers that it can have given, and a column stores the number above its last one
pub record AreWellNumbered (last : ℕ) (trees : Trees) (id : ℤ) : Type 0 where
  pub numbers : HasNumbersTo last trees id
  pub readable : AreReadable trees id
  pub stored : last + 1 < 2 ^ 63

-- the row of this name gets this last number, and no other table is written
pub record PutsRow (id : ℤ) (name : List ℕ) (last : ℕ) (old new : Database) : Type 0 where
  pub store : AreStores new
  pub rows : PutsDatabase id name (pos last) databases_tree old.trees new.trees
  pub others : KeepsOthers store_schema databases_tree old.trees new.trees

-- of the database that gets the row of this name it isn't so
pub record IsMisnumbered (name : List ℕ) (last : ℕ) (old : Database) : Type 0 where
  pub id : ℤ
  pub now : Database
  pub put : PutsRow id name last old now
  pub unsound : ¬ AreWellNumbered last now.trees id
