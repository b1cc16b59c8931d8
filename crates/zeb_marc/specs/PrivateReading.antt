-- What only the contracts of private functions speak of; no public clause reaches it.
-- Reading one record from a source (ISO 2709: a record begins with its length), part by part: separators, then bytes up
-- to a length. `text` is what the source tells that it has left; where it tells nothing, nothing is said of the bytes.
-- This project's own rules: the separators (see Splits), and which fault is answered.
use Rattle.std.specs.Prelude.{◌≡◌, ℕ, suc, ◌<◌, ◌≤◌, Bool, true, List, [], ◌∷◌, length, take, drop, Option, Some, None, Result, Ok, Err, ⊤}
use Rattle.zeb_marc.specs.Cited.{prefix_len, MarcFault, Truncated, TooManySeparators, ReadFault}
use Rattle.zeb_marc.specs.Leader.{first_failing, announced_checks, slice_checks, record_length}
use Rattle.zeb_marc.specs.Splits.{is_separator}

-- a source fails exactly where its failure is answered
abbrev pub FailsIf : {T : Type 0} → Result T MarcFault → Bool → Bool → Type 0
FailsIf (Ok x) old new = new ≡ old
FailsIf (Err ReadFault) old new = new ≡ true
FailsIf (Err fault) old new = new ≡ old

-- one byte, or the end
abbrev pub ByteGives : List ℕ → Result (Option ℕ) MarcFault → Option (List ℕ) → Type 0
ByteGives text (Ok None) left = (text ≡ []) × (left ≡ Some [])
ByteGives text (Ok (Some byte)) left = (rest : List ℕ) × (text ≡ byte ∷ rest) × (left ≡ Some rest)
ByteGives text (Err ReadFault) left = left ≡ Some text
ByteGives text (Err fault) left = ⊥

-- the first byte behind a run of separators, or the end
abbrev pub SkipGives : List ℕ → Result (Option ℕ) MarcFault → Option (List ℕ) → Type 0
SkipGives text (Ok None) left = (prefix_len is_separator text ≤ 65535) × (drop (prefix_len is_separator text) text ≡ []) × (left ≡ Some [])
SkipGives text (Ok (Some byte)) left = (prefix_len is_separator text ≤ 65535) × ((rest : List ℕ) × (drop (prefix_len is_separator text) text ≡ byte ∷ rest) × (left ≡ Some rest))
SkipGives text (Err ReadFault) left = (k : ℕ) × (k ≤ 65535) × (k ≤ prefix_len is_separator text) × (left ≡ Some (drop k text))
SkipGives text (Err TooManySeparators) left = (65535 < prefix_len is_separator text) × (left ≡ Some (drop 65536 text))
SkipGives text (Err fault) left = ⊥

-- as many bytes as there is room
abbrev pub FillGives : List ℕ → Result (Unit {0}) MarcFault → List ℕ → Option (List ℕ) → Type 0
FillGives text (Ok x) part left = (length part ≤ length text) × (part ≡ take (length part) text) × (left ≡ Some (drop (length part) text))
FillGives text (Err ReadFault) part left = (k : ℕ) × (k < length part) × (left ≡ Some (drop k text))
FillGives text (Err Truncated) part left = (length text < length part) × (left ≡ Some [])
FillGives text (Err fault) part left = ⊥

-- the bytes of one record, which begin a text
abbrev pub SliceGives : List ℕ → Result ℕ MarcFault → List ℕ → Option (List ℕ) → Type 0
SliceGives text (Ok n) room left = (first_failing (slice_checks text) ≡ None) × (n ≡ record_length text) × (take n room ≡ take n text) × (left ≡ Some (drop n text))
SliceGives text (Err ReadFault) room left = (k : ℕ) × (first_failing (slice_checks (take (suc k) text)) ≡ Some Truncated) × (left ≡ Some (drop (suc k) text))
SliceGives text (Err Truncated) room left = (first_failing (slice_checks text) ≡ Some Truncated) × (left ≡ Some [])
SliceGives text (Err fault) room left = (5 ≤ length text) × (first_failing (announced_checks (take 5 text)) ≡ Some fault) × (left ≡ Some (drop 5 text))

-- the faults of passing over separators, and of filling a buffer
abbrev pub IsSkipFault : MarcFault → Type 0
IsSkipFault TooManySeparators = ⊤
IsSkipFault ReadFault = ⊤
IsSkipFault fault = ⊥

abbrev pub IsFillFault : MarcFault → Type 0
IsFillFault Truncated = ⊤
IsFillFault ReadFault = ⊤
IsFillFault fault = ⊥
