-- What only the contracts of private functions speak of; no public clause reaches it.
-- What is noted is written, in rows, on any tables of a store: all of it, or none where the rows don't allow what is noted of some key.
use Rattle.std.specs.Prelude.{◌≡◌, ℕ, ℤ, List, length, Result, OnOk}
use Rattle.std.specs.List.{AllByRecursion, AllZip}
use Rattle.sqlite.specs.State.{State}
use Rattle.sqlite.specs.Tree.{Trees}
use Rattle.sqlite_rules.specs.Lists.{Has}
use Rattle.zeb_keys.specs.declared.keys.Key.{Key}
use Rattle.zeb_register.specs.declared.faults.RegFault.{RegFault}
use Rattle.zeb_register.specs.declared.registers.KeyChanges.{KeyChanges}
use Rattle.zeb_register.specs.declared.registers.Work.{Work}
use Rattle.zeb_register.specs.Answers.{Answers, IfDamaged}
use Rattle.zeb_register.specs.Clauses.{InStore}
use Rattle.zeb_register.specs.Formats.{Format}
use Rattle.zeb_register.specs.RunChanges.{KeysRise, PutsKeys}
use Rattle.zeb_register.specs.Store.{IsStore}
use Rattle.zeb_register.specs.UnitChanges.{AllowsChanges, IsStorableChange, KeyUnits, NumbersRise}
use Rattle.zeb_change.specs.declared.key_notes.KeyNotes.{KeyNotes}
use Rattle.zeb_change.specs.declared.pending.Pending.{Pending}
use Rattle.zeb_change.specs.NoteWords.{KeyChange}
use Rattle.zeb_change.specs.Noted.{IsDueFor, IsNotedIn}
use Rattle.zeb_change.specs.PrivatePending.{AreGivenInOrder, DoKeysRise}

-- what is noted of the key, as a layout takes it
pub record IsGivenOf (entry : Key × KeyNotes) (one : KeyChanges) : Type 0 where
  pub key : one.key.now ≡ entry.0
  pub many : length one.changes.now ≡ entry.1.count
  pub rising : NumbersRise one.changes.now
  pub told : (changes : List KeyChange) → IsNotedIn entry.1 changes → AreGivenInOrder changes one.changes.now

-- the units of each of these keys are changed as is noted, and each other row is as it was
pub record PutsNotes (format : Format) (db : ℤ) (entries : List (Key × KeyNotes)) (old new : Trees) : Type 0 where
  pub run : List KeyChanges
  pub given : AllZip IsGivenOf entries run
  pub rising : KeysRise run
  pub puts : PutsKeys format db run old new

-- what is noted of one of these keys can be stored, and the rows don't allow it
pub record LacksLeaveFor (format : Format) (db : ℤ) (entries : List (Key × KeyNotes)) (trees : Trees) : Type 0 where
  pub entry : Key × KeyNotes
  pub one : KeyChanges
  pub there : Has entries entry
  pub given : IsGivenOf entry one
  pub rising : DoKeysRise entries
  pub stored : AllByRecursion IsStorableChange one.changes.now
  pub refused : (were are : KeyUnits) → ¬ AllowsChanges format db one.key.now one.changes.now trees were are

-- what a call answers that writes what is noted of these keys
abbrev pub WritesNotes : Format → ℤ → List (Key × KeyNotes) → (old new : Trees) → Result (Unit {0}) RegFault → Type 0
WritesNotes format db entries old new = Answers (IfDamaged (LacksLeaveFor format db entries old)) (λ done. PutsNotes format db entries old new)

-- it does so inside a transaction on a store
abbrev pub WritesInStore : Format → ℤ → List (Key × KeyNotes) → (old new : State) → Result (Unit {0}) RegFault → Type 0
WritesInStore format db entries old new result =
    InStore old new (λ trees. OnOk result (IsStore new) × WritesNotes format db entries trees new.now.trees result)

-- inside a transaction on a store, what was noted and is noted no longer is counted
abbrev pub CountsInStore : Format → (row_work : ℕ) → (old new : State) → (work worked : Work) → (before after : Pending) → Type 0
CountsInStore format row_work old new work worked before after =
    InStore old new (λ trees. IsDueFor format row_work 0 trees new.now.trees work worked before after)
