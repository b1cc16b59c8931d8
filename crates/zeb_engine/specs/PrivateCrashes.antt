-- What only the contracts of private functions speak of; no public clause reaches it.
-- What a call may commit, which a crash may leave on the disk.
use Rattle.std.specs.Prelude.{◌≡◌, IsTrue}
use Rattle.sqlite.specs.Tree.{Trees}
use Rattle.sqlite.specs.State.{State}
use Rattle.zeb_register.specs.Store.{IsStore, LacksLists, LacksRegisters}
use Rattle.zeb_register.specs.Tables.{no_schema}
use Rattle.zeb_image.specs.Holdings.{Holdings}
use Rattle.zeb_image.specs.Image.{Keeps}
use Rattle.zeb_engine.specs.Steps.{Outcome}
use Rattle.zeb_engine.specs.Crashes.{IsStoreDisk, Stands, Accepts}

-- what an accepted outcome leaves, where the holdings are those that fit
abbrev pub Commits : (Fits : Trees → Holdings → Type 0) → (Holdings → Outcome) → State → Trees → Type 0
Commits Fits outcome old db =
    (before : Holdings) → (IsTrue old.is_open → Fits old.now.trees before) → Keeps old before
    → Accepts (outcome before).0 × Stands db (outcome before).1

-- the tables of the store, without a row
abbrev pub IsEmptyDisk : Trees → Type 0
IsEmptyDisk db = IsStoreDisk db × LacksLists db × LacksRegisters db

-- the tables that are absent: the rows that are there already, where the tables are those of the store, and none where there was no table
abbrev pub CommitsTables : State → Trees → Type 0
CommitsTables old db = IsTrue old.is_open × (IsStore old → db ≡ old.now.trees) × (old.now.schema ≡ no_schema → IsEmptyDisk db)
