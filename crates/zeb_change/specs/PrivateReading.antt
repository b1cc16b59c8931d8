-- What only the contracts of private functions speak of; no public clause reaches it.
-- How the records of a file are read, one after the other.
use Rattle.std.specs.Prelude.{◌≡◌, ℕ, Bool, true, false, List, Option, Some, Result, Ok, Err}
use Rattle.zeb_marc.specs.declared.faults.MarcFault.{MarcFault}
use Rattle.zeb_marc.specs.Reading.{StaysAble}
use Rattle.zeb_marc.specs.Splits.{at_end, a_fault, a_slice, next_of}
use Rattle.zeb_change.specs.declared.refusals.Refusal.{Refusal}
use Rattle.zeb_change.specs.declared.refusals.Refusal.TheVariants.{ReadFault}

-- Whether there is a record where this stands next, what the buffer keeps of it, and what is left unread: so much is known where the reader
-- hasn't failed, and its text is known.
abbrev pub ReadsRecord : (failed : Bool) → (remaining : Option (List ℕ)) → Result Bool MarcFault → (kept : List ℕ) → (left : Option (List ℕ)) → Type 0
ReadsRecord failed remaining (Ok true) kept left =
    (failed ≡ false) × ((text : List ℕ) → remaining ≡ Some text → (rest : List ℕ) × (next_of text ≡ a_slice kept rest) × (left ≡ Some rest))
ReadsRecord failed remaining (Ok false) kept left = (failed ≡ false) × ((text : List ℕ) → remaining ≡ Some text → next_of text ≡ at_end)
ReadsRecord failed remaining (Err fault) kept left = failed ≡ false → (text : List ℕ) → remaining ≡ Some text → next_of text ≡ a_fault fault

-- What a call tells of the reader of this file: it is refused by its number where the reader has failed, and so for no other; and where it
-- can't fail it stays so.
pub record TellsFault {R T : Type 0} (may_fail has_failed : R → Bool) (old new : R) (file : ℕ) (result : Result T Refusal) : Type 0 where
  pub failed : has_failed new ≡ true → result ≡ Err (ReadFault file)
  pub fault : (other : ℕ) → result ≡ Err (ReadFault other) → (other ≡ file) × (has_failed new ≡ true)
  pub able : StaysAble may_fail has_failed old new
