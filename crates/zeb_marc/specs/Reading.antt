-- Reading one record from a source (ISO 2709: a record begins with its length): the faults, and what a buffer keeps. This
-- project's own rules: the separators (see Splits), and which fault is answered.
use Rattle.std.specs.Prelude.{◌≡◌, ℕ, Bool, false, List, [], length, Option, Some, None, Result, Ok, Err, ⊤}
use Rattle.zeb_marc.specs.Cited.{MarcFault, LengthDigits, LengthRange, Truncated, TooManySeparators, ReadFault}
use Rattle.zeb_marc.specs.Splits.{IsSlice}

-- the faults of reading
abbrev pub IsStreamFault : MarcFault → Type 0
IsStreamFault LengthDigits = ⊤
IsStreamFault LengthRange = ⊤
IsStreamFault Truncated = ⊤
IsStreamFault TooManySeparators = ⊤
IsStreamFault ReadFault = ⊤
IsStreamFault fault = ⊥

-- what a buffer keeps where this is answered, on any source: a slice of the answered length, or, at the end and for a
-- fault, which is one of reading, nothing
abbrev pub Keeps : Result (Option ℕ) MarcFault → List ℕ → Type 0
Keeps (Ok None) kept = kept ≡ []
Keeps (Ok (Some n)) kept = IsSlice kept × (n ≡ length kept)
Keeps (Err fault) kept = IsStreamFault fault × (kept ≡ [])

-- a source that can't fail stays one, and hasn't failed if it hadn't
abbrev pub StaysAble : {R : Type 0} (may_fail has_failed : R → Bool) (old new : R) → Type 0
StaysAble may_fail has_failed old new = may_fail old ≡ false → (may_fail new ≡ false) × (has_failed new ≡ has_failed old)
