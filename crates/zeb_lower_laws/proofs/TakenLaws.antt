-- Reading the next record takes no more than separators and one record's bytes off a stream.
use Rattle.zeb_marc.proofs.Cited.{◌≡◌, ℕ, ◌+◌, ◌<◌, ◌≤◌, ◌^◌, Bool, true, false, cond, leb, Option, Some, None, Ok, Err, List, length, take, ap, subst, length-append, length-take, refl, arith, inl, inr, ◌⊎◌, leb-true, first_failing, record_length, slice_checks, IsSlice, EndsAs}
use Rattle.zeb_marc.specs.declared.faults.MarcFault.{MarcFault}
use Rattle.zeb_marc.specs.declared.faults.MarcFault.TheVariants.{LengthDigits, LengthRange, Truncated, TooManySeparators, ReadFault}
use Rattle.std.proofs.Common.{Result}
use Rattle.std.proofs.lemmas.Bool.{leb-false}
use Rattle.zeb_marc.specs.Unread.{Takes}
use Rattle.zeb_marc.specs.Leader.{are_digits}
use Rattle.zeb_marc.proofs.PartLaws.{number_of-below}
use Rattle.zeb_marc.proofs.SplitLaws.{SoundSlice-from_checks}

-- five digits say at most 99,999
length_below : (text : List ℕ) → 5 ≤ length text → are_digits (take 5 text) ≡ true → record_length text ≤ 99999
length_below text long digits =
    let five : length (take 5 text) ≡ 5 = omega (arith, length-take 5 text) in
    let below : record_length text < 10 ^ 5 = subst (λ (k : ℕ). record_length text < 10 ^ k) five (number_of-below (take 5 text) digits) in
    omega (arith, below)

slice_is_short : (slice : List ℕ) → IsSlice slice → length slice ≤ 99999
slice_is_short slice is =
    let sound = SoundSlice-from_checks slice is.no_fault in
    omega (arith, is.whole, length_below slice sound.long sound.digits)

-- a slice that is cut off has fewer than five bytes, or fewer than its digits say
cut_cases : (long digits least whole : Bool) → cond long (cond digits (cond least (cond whole None (Some Truncated)) (Some LengthRange)) (Some LengthDigits)) (Some Truncated) ≡ Some Truncated
    → (long ≡ false) ⊎ ((digits ≡ true) × (whole ≡ false))
cut_cases false digits least whole e = inl refl
cut_cases true true true true e = absurd cc
cut_cases true true true false e = inr (refl, refl)
cut_cases true true false whole e = absurd cc
cut_cases true false least whole e = absurd cc

cut_is_short : (text : List ℕ) → first_failing (slice_checks text) ≡ Some Truncated → length text ≤ 99999
cut_is_short text e =
    elim (cut_cases (leb 5 (length text)) (are_digits (take 5 text)) (leb 26 (record_length text)) (leb (record_length text) (length text)) e) [
      | inl few ↦ omega (arith, leb-false 5 (length text) few)
      | inr cut ↦
          let within = leb-false (record_length text) (length text) cut.1 in
          elim (leb 5 (length text)) as (λ b. leb 5 (length text) ≡ b → length text ≤ 99999) [
            | true ↦ λ long. omega (arith, within, length_below text (leb-true 5 (length text) long) cut.0)
            | false ↦ λ few. omega (arith, leb-false 5 (length text) few)
          ] refl
    ]

cut_off : (taken : List ℕ) → EndsAs taken (Some Truncated) → length taken ≤ 65535 + 99999
cut_off taken (run, rest, whole, inl is) = let both : Truncated ≡ TooManySeparators = is.is in absurd cc
cut_off taken (run, rest, whole, inr is) = omega (arith, ap length whole, length-append run rest, is.skipped.bounded, cut_is_short rest is.is)

pub few_taken : (answer : Result (Option ℕ) MarcFault) (taken rest : List ℕ) → Takes answer taken rest → length taken ≤ 65535 + 99999
few_taken (Ok None) taken rest is = omega (arith, is.0.bounded)
few_taken (Ok (Some n)) taken rest is = omega (arith, ap length is.whole, length-append is.run is.slice, is.skipped.bounded, slice_is_short is.slice is.sliced)
few_taken (Err TooManySeparators) taken rest is = omega (arith, is.1)
few_taken (Err Truncated) taken rest is = cut_off taken is.0
few_taken (Err ReadFault) taken rest (inl is) = omega (arith, is.bounded)
few_taken (Err ReadFault) taken rest (inr is) = cut_off taken is
few_taken (Err _) taken rest is = omega (arith, ap length is.whole, length-append is.run is.digits, is.skipped.bounded, is.five)
