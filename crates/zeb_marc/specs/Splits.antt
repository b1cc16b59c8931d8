-- A stream of records, by ISO 2709 (a record begins with its length in five digits): runs of separators (CR, LF and
-- space, at most 65,535 in one run) and slices, each as long as its own first five digits say. Behind the last slice
-- stands the end, with or without separators before it, or a fault: a slice that is cut off, whose length isn't digits
-- or is too small for a record, or a run that is too long. ISO 2709 knows no separators: that they may stand there, how many, and
-- the faults of a stream are this project's own rules.
use Rattle.std.specs.Prelude.{◌≡◌, ℕ, zero, suc, ◌≤◌, Bool, true, false, ◌||◌, List, [], ◌∷◌, ◌++◌, length, take, drop, Option, Some, None, nat_lt, ◌==◌, if◌then◌else◌, Result, Ok, Err, ◌⊎◌}
use Rattle.zeb_marc.specs.Cited.{list_all, prefix_len, MarcFault, TooManySeparators}
use Rattle.zeb_marc.specs.Leader.{record_length, first_failing, slice_checks}

-- CR, LF or space
abbrev pub is_separator : ℕ → Bool
is_separator byte = byte == 13 || byte == 10 || byte == 32

abbrev pub are_separators : List ℕ → Bool
are_separators text = list_all is_separator text

-- a run of separators that may be skipped
pub record IsRun (run : List ℕ) : Type 0 where
  pub separators : are_separators run ≡ true
  pub bounded : length run ≤ 65535

-- a slice: its first five bytes are digits that say at least 26, and it has as many bytes as they say (ISO 2709,
-- "Record label")
pub record IsSlice (slice : List ℕ) : Type 0 where
  pub no_fault : first_failing (slice_checks slice) ≡ None
  pub whole : length slice ≡ record_length slice

-- a run of separators is too long, whatever follows it
pub record IsTooLong (run : List ℕ) (fault : MarcFault) : Type 0 where
  pub separators : are_separators run ≡ true
  pub long : length run ≡ 65536
  pub is : fault ≡ TooManySeparators

-- what begins behind a run is no slice
pub record IsNoSlice (run rest : List ℕ) (fault : MarcFault) : Type 0 where
  pub skipped : IsRun run
  pub begun : (first : ℕ) × (others : List ℕ) × (rest ≡ first ∷ others) × (is_separator first ≡ false)
  pub is : first_failing (slice_checks rest) ≡ Some fault

-- what stands behind the last slice: separators and the end, or a fault
abbrev pub EndsAs : List ℕ → Option MarcFault → Type 0
EndsAs text None = IsRun text
EndsAs text (Some fault) = (run rest : List ℕ) × (text ≡ run ++ rest) × (IsTooLong run fault ⊎ IsNoSlice run rest fault)

-- the file is, before each slice, a run of at most 65,535 separators, or none, and behind the last the end or a fault
-- (`EndsAs`)
abbrev pub IsSplit : List ℕ → List (List ℕ) → Option MarcFault → Type 0
IsSplit file [] end = EndsAs file end
IsSplit file (slice ∷ slices) end = (run rest : List ℕ) × (file ≡ run ++ (slice ++ rest)) × IsRun run × IsSlice slice × IsSplit rest slices end

-- ---- the same, from its front on

-- what stands next: the end, a slice with what follows it, or a fault
pub data Next : Type 0 where
  at_end : Next
  a_slice : List ℕ → List ℕ → Next
  a_fault : MarcFault → Next

abbrev pub next_if : Option MarcFault → List ℕ → Next
next_if (Some fault) text = a_fault fault
next_if None text = a_slice (take (record_length text) text) (drop (record_length text) text)

abbrev pub next_behind : List ℕ → Next
next_behind [] = at_end
next_behind (byte ∷ bytes) = next_if (first_failing (slice_checks (byte ∷ bytes))) (byte ∷ bytes)

-- what stands next in a file; `split_laws` says each case in terms of runs and slices
unfoldable pub next_of : List ℕ → Next
next_of text = if nat_lt 65535 (prefix_len is_separator text) then a_fault TooManySeparators else next_behind (drop (prefix_len is_separator text) text)

-- the slices of a file, in order, and the fault behind them, if there is one
pub record Split : Type 0 where
  pub slices : List (List ℕ)
  pub fault : Option MarcFault

-- the split of a file from what stands next in it: nothing; a slice, and then the split of what follows; or a fault
-- alone
abbrev pub split_next : (List ℕ → Split) → Next → Split
split_next others at_end = record { slices = []; fault = None }
split_next others (a_slice slice rest) = record { slices = slice ∷ (others rest).slices; fault = (others rest).fault }
split_next others (a_fault fault) = record { slices = []; fault = Some fault }

abbrev pub split_within : ℕ → List ℕ → Split
split_within zero text = record { slices = []; fault = None }
split_within (suc n) text = split_next (split_within n) (next_of text)

-- the split of a whole file, which has no more slices than bytes
unfoldable pub split_of : List ℕ → Split
split_of file = split_within (suc (length file)) file

-- what a reader of one record answers where this stands next, what its buffer keeps, and, but for a fault, what it
-- leaves unread
abbrev pub Gives : Next → Result (Option ℕ) MarcFault → List ℕ → Option (List ℕ) → Type 0
Gives at_end answer kept left = (answer ≡ Ok None) × (kept ≡ []) × (left ≡ Some [])
Gives (a_slice slice rest) answer kept left = (answer ≡ Ok (Some (length slice))) × (kept ≡ slice) × (left ≡ Some rest)
Gives (a_fault fault) answer kept left = (answer ≡ Err fault) × (kept ≡ [])
