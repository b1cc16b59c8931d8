-- The faults of records and of files that a definition finds: none is a reader's, nor want of memory.
use Rattle.zeb_engine.proofs.Cited.{◌≡◌, ◌∷◌, ℕ, zero, suc, Bool, true, false, cond, List, [], Option, Some, None, Result, Ok, Err, nat_lt, refl, length, drop, ⊤, AllByRecursion, prefix_len, option_and_then, utf8_lossy, MarcFault, UnitText, first_failing, slice_checks, first_fault, IsRecordFault, Next, a_slice, a_fault, is_separator, next_if, next_behind, Split, split_next, split_within, record_faults, Directive, identifier_pattern, first_fitting, held_in, identifier_of, without_spaces, IdentFault}
use Rattle.zeb_marc.specs.declared.faults.MarcFault.TheVariants as marc
use Rattle.zeb_marc.specs.Leader.{Check}
use Rattle.zeb_marc.specs.Splits.{at_end, next_of, split_of}
use Rattle.zeb_extract.specs.declared.naming.IdentFault.TheVariants as ident

-- ---- of records and files

-- no fault, or one that no reader made
abbrev pub IsOfText : Option MarcFault → Type 0
IsOfText (Some marc.ReadFault) = ⊥
IsOfText fault = ⊤

record_fault : (fault : MarcFault) → IsRecordFault fault → IsOfText (Some fault)
record_fault marc.ReadFault is = absurd is
record_fault _ is = tt

pub first_of_text : (text : List ℕ) → IsOfText (first_fault text)
first_of_text text = go (first_fault text) refl
  where
    go : (fault : Option MarcFault) → first_fault text ≡ fault → IsOfText fault
    go None is = tt
    go (Some fault) is = record_fault fault (record_faults text fault is)

failing_of_text : (checks : List Check) → AllByRecursion (λ (c : Check). IsOfText (Some c.fault)) checks → IsOfText (first_failing checks)
failing_of_text [] all = tt
failing_of_text (c ∷ checks) all = elim c.passes as (λ b. IsOfText (cond b (first_failing checks) (Some c.fault))) [
  | true ↦ failing_of_text checks all.1
  | false ↦ all.0
]

abbrev IsNextOfText : Next → Type 0
IsNextOfText at_end = ⊤
IsNextOfText (a_slice slice rest) = ⊤
IsNextOfText (a_fault fault) = IsOfText (Some fault)

next_if_of_text : (fault : Option MarcFault) (text : List ℕ) → IsOfText fault → IsNextOfText (next_if fault text)
next_if_of_text None text is = tt
next_if_of_text (Some fault) text is = is

behind_of_text : (text : List ℕ) → IsNextOfText (next_behind text)
behind_of_text [] = tt
behind_of_text (byte ∷ bytes) =
    next_if_of_text (first_failing (slice_checks (byte ∷ bytes))) (byte ∷ bytes) (failing_of_text (slice_checks (byte ∷ bytes)) (tt, (tt, (tt, (tt, tt)))))

next_of_text : (text : List ℕ) → IsNextOfText (next_of text)
unfolding next_of
next_of_text text = elim (nat_lt 65535 (prefix_len is_separator text))
    as (λ b. IsNextOfText (cond b (a_fault marc.TooManySeparators) (next_behind (drop (prefix_len is_separator text) text)))) [
      | true ↦ tt
      | false ↦ behind_of_text (drop (prefix_len is_separator text) text)
    ]

split_next_of_text : (others : List ℕ → Split) (next : Next) → IsNextOfText next → ((rest : List ℕ) → IsOfText (others rest).fault) → IsOfText (split_next others next).fault
split_next_of_text others at_end is later = tt
split_next_of_text others (a_slice slice rest) is later = later rest
split_next_of_text others (a_fault fault) is later = is

within_of_text : (n : ℕ) (text : List ℕ) → IsOfText (split_within n text).fault
within_of_text zero text = tt
within_of_text (suc n) text = split_next_of_text (split_within n) (next_of text) (next_of_text text) (within_of_text n)

pub split_of_text : (file : List ℕ) → IsOfText (split_of file).fault
unfolding split_of
split_of_text file = within_of_text (suc (length file)) file

-- ---- of identifiers

-- an identifier, or a fault of the record
abbrev pub IsOfRecord : Result (List ℕ) IdentFault → Type 0
IsOfRecord (Err ident.Memory) = ⊥
IsOfRecord said = ⊤

checked_of_record : (empty bad : Bool) (bytes : List ℕ) → IsOfRecord (cond empty (Err ident.NoIdentifier) (cond bad (Err ident.BadIdentifier) (Ok bytes)))
checked_of_record true bad bytes = tt
checked_of_record false true bytes = tt
checked_of_record false false bytes = tt

held_of_record : (unit : Option UnitText) → IsOfRecord (held_in unit)
held_of_record None = tt
held_of_record (Some unit) = checked_of_record _ _ (without_spaces (utf8_lossy unit.text))

pub identifier_of_record : (profile : List Directive) (units : List UnitText) → IsOfRecord (identifier_of profile units)
identifier_of_record profile units = held_of_record (option_and_then (λ pattern. first_fitting pattern units) (identifier_pattern profile))
