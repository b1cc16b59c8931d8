use Rattle.zeb_marc.proofs.Cited.{◌≡◌, ℕ, ◌≤◌, true, Some, None, List, [], ◌∷◌, ◌++◌, refl, sym, ap, ◌∙◌, inl, arith, append-nil, is_separator, are_separators, IsRun, IsSlice, EndsAs, IsSplit}
use Rattle.std.specs.Prelude.{replicate}
use Rattle.std.proofs.lemmas.List.{length-replicate}
use Rattle.std.proofs.lemmas.List.Elements.{All-replicate}
use Rattle.std.proofs.lemmas.List.Sums.{list_all-from_AllPass}
use Rattle.zeb_marc.specs.declared.faults.MarcFault.TheVariants.{TooManySeparators}
use Rattle.zeb_marc.specs.Leader.{are_digits, number_of}
use Rattle.zeb_marc.specs.Splits.{split_of}
use Rattle.zeb_marc.proofs.SplitLaws.{split_of-only}
use Rattle.zeb_lower_laws.specs.WorkedRecord.{worked_record}
use Rattle.zeb_lower_laws.proofs.marc.separators_at_examples.Goals as goal

all_separators : (n byte : ℕ) → is_separator byte ≡ true → are_separators (replicate n byte) ≡ true
all_separators n byte is = list_all-from_AllPass is_separator (replicate n byte) (All-replicate (λ b. is_separator b ≡ true) n byte is)

run_of : (n byte : ℕ) → n ≤ 65535 → is_separator byte ≡ true → IsRun (replicate n byte)
run_of n byte few is = record { separators = all_separators n byte is; bounded = omega (arith, few, length-replicate n byte) }

too_long : (n byte : ℕ) (rest : List ℕ) → n ≡ 65536 → is_separator byte ≡ true → EndsAs (replicate n byte ++ rest) (Some TooManySeparators)
too_long n byte rest many is =
    (replicate n byte, rest, refl, inl (record { separators = all_separators n byte is; long = length-replicate n byte ∙ many; is = refl }))

slice : IsSlice worked_record
unfolding are_digits number_of
slice = record { no_fault = refl; whole = refl }

nothing : IsRun []
nothing = record { separators = refl; bounded = omega arith }

one_record : (n byte : ℕ) → n ≤ 65535 → is_separator byte ≡ true → IsSplit (replicate n byte ++ worked_record) (worked_record ∷ []) None
one_record n byte few is = (replicate n byte, [], ap (λ text. replicate n byte ++ text) (sym (append-nil worked_record)), run_of n byte few is, slice, nothing)

then_too_long : (n byte : ℕ) (rest : List ℕ) → n ≡ 65536 → is_separator byte ≡ true
    → IsSplit (worked_record ++ (replicate n byte ++ rest)) (worked_record ∷ []) (Some TooManySeparators)
then_too_long n byte rest many is = ([], replicate n byte ++ rest, refl, nothing, slice, too_long n byte rest many is)

skipped : (n byte : ℕ) → n ≤ 65535 → is_separator byte ≡ true
    → (split_of (replicate n byte) ≡ record { slices = []; fault = None }) × (split_of (replicate n byte ++ worked_record) ≡ record { slices = worked_record ∷ []; fault = None })
skipped n byte few is = (split_of-only _ [] None (run_of n byte few is), split_of-only _ (worked_record ∷ []) None (one_record n byte few is))

refused : (n byte : ℕ) → n ≡ 65536 → is_separator byte ≡ true → (rest : List ℕ)
    → (split_of (replicate n byte ++ rest) ≡ record { slices = []; fault = Some TooManySeparators })
    × (split_of (worked_record ++ (replicate n byte ++ rest)) ≡ record { slices = worked_record ∷ []; fault = Some TooManySeparators })
refused n byte many is rest = (
  split_of-only _ [] (Some TooManySeparators) (too_long n byte rest many is),
  split_of-only _ (worked_record ∷ []) (Some TooManySeparators) (then_too_long n byte rest many is),
)

pub returns-clause-skipped : goal.returns-clause-skipped
returns-clause-skipped c = let few : 65535 ≤ 65535 = omega arith in (skipped 65535 13 few refl, (skipped 65535 10 few refl, (skipped 65535 32 few refl, tt)))

pub returns-clause-refused : goal.returns-clause-refused
returns-clause-refused c = (refused 65536 13 refl refl, (refused 65536 10 refl refl, (refused 65536 32 refl refl, tt)))
