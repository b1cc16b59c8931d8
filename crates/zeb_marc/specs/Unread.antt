-- What reading the next record takes off a stream, and what it leaves unread (ISO 2709: a record begins with its length
-- in five digits). It reads no further than it has to: so what stands in the bytes before a read that fails, a record or
-- a fault, wins over the failure. This project's own rule: what is taken off where a fault is answered, and that it wins.
use Rattle.std.specs.Prelude.{◌≡◌, ℕ, true, List, [], ◌++◌, length, Option, Some, None, Result, Ok, Err, ◌⊎◌}
use Rattle.zeb_marc.specs.Cited.{MarcFault, Truncated, TooManySeparators, ReadFault}
use Rattle.zeb_marc.specs.Leader.{first_failing, announced_checks}
use Rattle.zeb_marc.specs.Splits.{are_separators, IsRun, IsSlice, EndsAs}

-- separators and one slice
pub record IsRecordTaken (taken : List ℕ) (n : ℕ) : Type 0 where
  pub run : List ℕ
  pub slice : List ℕ
  pub whole : taken ≡ run ++ slice
  pub skipped : IsRun run
  pub sliced : IsSlice slice
  pub size : length slice ≡ n

-- separators and five bytes that aren't the length of a record
pub record IsLengthTaken (taken : List ℕ) (fault : MarcFault) : Type 0 where
  pub run : List ℕ
  pub digits : List ℕ
  pub whole : taken ≡ run ++ digits
  pub skipped : IsRun run
  pub five : length digits ≡ 5
  pub is : first_failing (announced_checks digits) ≡ Some fault

-- the bytes that are taken where this is answered, and those that are left
abbrev pub Takes : Result (Option ℕ) MarcFault → List ℕ → List ℕ → Type 0
Takes (Ok None) taken rest = IsRun taken × (rest ≡ [])
Takes (Ok (Some n)) taken rest = IsRecordTaken taken n
Takes (Err TooManySeparators) taken rest = (are_separators taken ≡ true) × (length taken ≡ 65536)
Takes (Err Truncated) taken rest = EndsAs taken (Some Truncated) × (rest ≡ [])
Takes (Err ReadFault) taken rest = EndsAs taken None ⊎ EndsAs taken (Some Truncated)
Takes (Err fault) taken rest = IsLengthTaken taken fault

-- the text that a source told is what was taken off it and what is left
abbrev pub LeavesUnread : List ℕ → Result (Option ℕ) MarcFault → Option (List ℕ) → Type 0
LeavesUnread text answer left = (taken rest : List ℕ) × (text ≡ taken ++ rest) × (left ≡ Some rest) × Takes answer taken rest
