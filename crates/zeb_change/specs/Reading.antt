-- What is answered where a reader of the files has failed.
use Rattle.std.specs.Prelude.{◌≡◌, ◌≢◌, ◌+◌, ◌<◌, ◌≤◌, ℕ, Bool, true, false, List, length, slice_index_or, Result, Err}
use Rattle.std.specs.List.{AllByRecursion, AllZip}
use Rattle.zeb_marc.specs.Reading.{StaysAble}
use Rattle.zeb_change.specs.declared.refusals.Refusal.{Refusal}
use Rattle.zeb_change.specs.declared.refusals.Refusal.TheVariants.{ReadFault}

-- no read of these readers has failed
abbrev pub NoneFailed : {R : Type 0} → (R → Bool) → List R → Type 0
NoneFailed has_failed = AllByRecursion (λ reader. has_failed reader ≡ false)

-- The reader of this file has failed; files are counted from 1.
pub record HasFailedAt {R : Type 0} (has_failed : R → Bool) (readers : List R) (file : ℕ) : Type 0 where
  pub index : ℕ
  pub reader : R
  pub within : index < length readers
  pub there : reader ≡ slice_index_or readers index reader
  pub numbered : file ≡ index + 1
  pub failed : has_failed reader ≡ true

-- this refusal names the file of the first reader that has failed
abbrev pub NamesFailed : {R : Type 0} → (R → Bool) → List R → Refusal → Type 0
NamesFailed has_failed readers refusal =
    (file : ℕ) × HasFailedAt has_failed readers file × ((other : ℕ) → HasFailedAt has_failed readers other → file ≤ other) × (refusal ≡ ReadFault file)

-- a call isn't refused as for a reader that failed
abbrev pub NoReadFault : {T : Type 0} → Result T Refusal → Type 0
NoReadFault result = (file : ℕ) → result ≢ Err (ReadFault file)

-- where a reader has failed meanwhile, and none had before, a call is refused by the number of its file
abbrev pub TellsFailed : {R T : Type 0} → (R → Bool) → (old new : List R) → Result T Refusal → Type 0
TellsFailed has_failed old new result = NoneFailed has_failed old → (file : ℕ) → HasFailedAt has_failed new file → result ≡ Err (ReadFault file)

-- a call is refused so for readers alone that have failed
abbrev pub BlamesFailed : {R T : Type 0} → (R → Bool) → List R → Result T Refusal → Type 0
BlamesFailed has_failed readers result = (file : ℕ) → result ≡ Err (ReadFault file) → HasFailedAt has_failed readers file

-- readers that can't fail stay so, and none of them has failed that hadn't, one by one (`StaysAble`)
abbrev pub StayAble : {R : Type 0} → (may_fail has_failed : R → Bool) → (old new : List R) → Type 0
StayAble may_fail has_failed = AllZip (StaysAble may_fail has_failed)

-- What a call tells of readers that fail: it is refused by the number of the file of one that has failed meanwhile, and so for no other; and
-- those that can't fail stay so.
pub record TellsFaults {R T : Type 0} (may_fail has_failed : R → Bool) (old new : List R) (result : Result T Refusal) : Type 0 where
  pub failed : TellsFailed has_failed old new result
  pub fault : BlamesFailed has_failed new result
  pub able : StayAble may_fail has_failed old new
