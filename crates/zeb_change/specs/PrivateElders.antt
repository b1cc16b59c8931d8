-- What only the contracts of private functions speak of; no public clause reaches it.
-- What a change finds and leaves kept on its way, whatever rows the tables of the store have.
use Rattle.std.specs.Prelude.{◌≢◌, ◌≤◌, ℕ, ℤ, List}
use Rattle.sqlite.specs.Tree.{Trees}
use Rattle.sqlite.specs.State.{State}
use Rattle.zeb_register.specs.Store.{HasRecord, IsStore, KeepsRegisters}
use Rattle.zeb_change.specs.Elders.{IsUpTo, KeepsAside}
use Rattle.zeb_change.specs.UnderWay.{KeepsNames}

-- what the database keeps under this identifier, with a number up to the last one, is kept still
abbrev pub KeepsUnder : (last : ℕ) → ℤ → List ℕ → Trees → Trees → Type 0
KeepsUnder last db ident old new = (sysno : ℤ) (bytes : List ℕ) → HasRecord old db sysno ident bytes → IsUpTo last sysno
    → HasRecord new db sysno ident bytes

-- What was done for the record of one identifier: what is kept under each other one is kept still, and so is each other database, each text,
-- each row of the databases and each table of the registers. The last number never falls.
pub record KeepsOtherRecords (db : ℤ) (ident : List ℕ) (last after : ℕ) (old new : State) : Type 0 where
  pub store : IsStore new
  pub rises : last ≤ after
  pub others : (other : List ℕ) → other ≢ ident → KeepsUnder last db other old.now.trees new.now.trees
  pub aside : KeepsAside db old.now.trees new.now.trees
  pub registers : KeepsRegisters old.now.trees new.now.trees
  pub names : KeepsNames old new
