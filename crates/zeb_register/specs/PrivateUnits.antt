-- What only the contracts of private functions speak of; no public clause reaches it.
-- Units as parts of a list, and one unit of plain rows that is changed. zeb_packed speaks of them too.
use Rattle.std.specs.Prelude.{◌≡◌, IsUtf8, ℕ, ℤ, List, Result}
use Rattle.sqlite.specs.Order.{Row}
use Rattle.sqlite.specs.State.{State}
use Rattle.sqlite.specs.Tree.{Trees}
use Rattle.zeb_blocks.specs.declared.postings.Posting.{Posting}
use Rattle.zeb_keys.specs.declared.keys.Key.{Key}
use Rattle.zeb_register.specs.declared.faults.RegFault.{RegFault}
use Rattle.zeb_register.specs.declared.registers.Place.{Place}
use Rattle.zeb_register.specs.Answers.{Answers, IfDamaged}
use Rattle.zeb_register.specs.Clauses.{InStore}
use Rattle.zeb_register.specs.Content.{places_in}
use Rattle.zeb_register.specs.PlainUnits.{RowsRead}
use Rattle.zeb_register.specs.PrivateRowPlaces.{IsPlaceIn, KeepsBesidePostings, posting_columns}
use Rattle.zeb_register.specs.Store.{IsStore, postings_tree}
use Rattle.zeb_register.specs.UnitChanges.{KeepsBut, KeyUnits}

-- the places of each record in a list of postings, where so many records have the key
abbrev pub units_of : List Posting → ℕ → KeyUnits
units_of list records = record { places = λ sysno. places_in sysno list; records = records }

-- ---- one record's unit in plain rows

abbrev pub IsPlaceRow : ℤ → Key → ℕ → Row → Type 0
IsPlaceRow db key sysno row = (place : Place) × (row ≡ posting_columns db key sysno place)

-- it read as these places, reads as those, and each row that isn't of it is as it was
pub record TurnsRows (db : ℤ) (key : Key) (sysno : ℕ) (were are : List Place) (old new : Trees) : Type 0 where
  pub text : IsUtf8 key.term
  pub found : RowsRead old db key sysno were
  pub put : RowsRead new db key sysno are
  pub rows : KeepsBut (IsPlaceIn db key sysno) (IsPlaceRow db key sysno) postings_tree old new
  pub others : KeepsBesidePostings old new

-- a call inside a transaction does so, and tells Damaged only where it read otherwise
abbrev pub ChangesUnit : {A : Type 0} → ℤ → Key → ℕ → (were are : List Place) → (old new : State) → Result A RegFault → Type 0
ChangesUnit db key sysno were are old new result = InStore old new (λ trees.
    Answers (IfDamaged (¬ RowsRead trees db key sysno were)) (λ done. IsStore new × TurnsRows db key sysno were are trees new.now.trees) result)
