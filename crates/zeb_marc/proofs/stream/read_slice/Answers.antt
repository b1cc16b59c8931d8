-- The first byte, four more, and then as many as these five say.
use Rattle.zeb_marc.proofs.Cited.{◌≡◌, ◌≤◌, ◌+◌, suc, refl, ◌-◌, ◌∷◌, ◌++◌, ◌∙◌, sym, ap, List, ℕ, Option, Some, None, Ok, length, set, take, drop, length-take, length-drop, length-set, arith, err_from_is_err_and, take-take, drop-drop, take-put_mid, take-put_mid_below, put_mid, first_failing, announced_checks, record_length, FillGives}
use Rattle.zeb_marc.proofs.RecordChecks.{slice_cut, slice_passes}
use Rattle.zeb_marc.proofs.Runs.{take-add, length-put_mid}
use Rattle.zeb_marc.proofs.ReadingLemmas.{announced_checks-five, record_length-five, five_are, fill_err, slice_short, slice_err, slice_cut_within, IsSlice-from_five}
use Rattle.zeb_marc.proofs.stream.read_slice.Goals as goal

-- the room once five bytes are in it
abbrev with_five : List ℕ → ℕ → List ℕ → List ℕ
with_five room first part = put_mid 1 4 (set room 0 first) part

length-with_five : (room part : List ℕ) (first : ℕ) → length room ≡ 99999 → length part ≡ 4 → length (with_five room first part) ≡ 99999
length-with_five room part first e len = length-put_mid (set room 0 first) part 1 4 (omega (arith, length-set room 0 first)) len ∙ length-set room 0 first ∙ e

-- they are the record's first five
same_five : (room part text : List ℕ) (first : ℕ) → length room ≡ 99999 → length part ≡ 4 → part ≡ take (length part) text → take 5 (with_five room first part) ≡ take 5 (first ∷ text)
same_five room part text first e len same = five_are room part first (omega arith) len ∙ ap (λ (bytes : List ℕ). first ∷ bytes) (same ∙ ap (λ (k : ℕ). take k text) len)

-- what is known of the text once they are in the room, and what is left of it
record HasFive (text room part : List ℕ) (first : ℕ) (left : Option (List ℕ)) : Type 0 where
  long : 5 ≤ length (first ∷ text)
  five : take 5 (with_five room first part) ≡ take 5 (first ∷ text)
  left_is : left ≡ Some (drop 4 text)

has_five : (text room part : List ℕ) (first : ℕ) (left : Option (List ℕ)) → length room ≡ 99999 → length part ≡ 4 → FillGives text (Ok tt) part left → HasFive text room part first left
has_five text room part first left e len filled = record {
  long = omega (arith, filled.0);
  five = same_five room part text first e len filled.1;
  left_is = filled.2 ∙ ap (λ (k : ℕ). Some (drop k text)) len;
}

-- the length that they say is the text's, which passes the checks of a length
record Announces (record_text : List ℕ) (n : ℕ) : Type 0 where
  passed : first_failing (announced_checks record_text) ≡ None
  is : n ≡ record_length record_text

announces : (text room part : List ℕ) (first n : ℕ) (left : Option (List ℕ)) → HasFive text room part first left → first_failing (announced_checks (take 5 (with_five room first part))) ≡ None
    → n ≡ record_length (take 5 (with_five room first part)) → Announces (first ∷ text) n
announces text room part first n left has checked value = record {
  passed = ap first_failing (sym (announced_checks-five (first ∷ text) _ has.five has.long)) ∙ checked;
  is = value ∙ record_length-five (first ∷ text) _ has.five;
}

-- the room once the record is in it
same_record : (room part text : List ℕ) (first n : ℕ) → length room ≡ 99999 → n ≡ 5 + length part → take 5 room ≡ take 5 (first ∷ text) → part ≡ take (length part) (drop 4 text) → take n (put_mid 5 (n - 5) room part) ≡ take n (first ∷ text)
same_record room part text first n e len five same =
    let split : 5 + length part ≡ n = omega arith in
    take-put_mid 5 (n - 5) room part n len (omega arith)
    ∙ ap (λ (front : List ℕ). front ++ part) five
    ∙ ap (λ (back : List ℕ). take 5 (first ∷ text) ++ back) same
    ∙ sym (take-add (first ∷ text) 5 (length part))
    ∙ ap (λ (k : ℕ). take k (first ∷ text)) split

pub returns-in_err-fill-clause-told : goal.returns-in_err-fill-clause-told
returns-in_err-fill-clause-told g c = λ text told.
    let p = err_from_is_err_and c.from_residual.result c.from_residual.ensures.1 in
    let part = c.fill.new.part in
    let len : length part ≡ 4 = omega arith in
    let first = c.args.first in
    let after = g.R.Source.remaining c.fill.new.source in
    rw (p.1, p.2) (fill_err text part (first ∷ text) _ 0 c.in_err-fill.field-0.0 after refl (c.in_err-fill.ensures.told text told)
    (λ short. slice_short (first ∷ text) (omega arith))
    (λ k within. slice_short (take (suc (0 + k)) (first ∷ text)) (omega (arith, length-take (suc (0 + k)) (first ∷ text)))))

pub returns-in_err-length-clause-told : goal.returns-in_err-length-clause-told
returns-in_err-length-clause-told g c = λ text told.
    let p = err_from_is_err_and c.from_residual-in_err-length.result c.from_residual-in_err-length.ensures.1 in
    let has = has_five text c.args.room.now c.fill.new.part c.args.first _ c.requires (omega arith) (c.in_ok-fill.ensures.told text told) in
    rw (p.1, p.2) (slice_err (c.args.first ∷ text) _ _ c.in_err-length.field-0.0 _ has.five has.long c.in_err-length.ensures.checked has.left_is)

pub returns-in_err-fill-2-clause-told : goal.returns-in_err-fill-2-clause-told
returns-in_err-fill-2-clause-told g c = λ text told.
    let p = err_from_is_err_and c.from_residual-in_err-fill-2.result c.from_residual-in_err-fill-2.ensures.1 in
    let first = c.args.first in
    let rest = c.fill-2.new.part in
    let has = has_five text c.args.room.now c.fill.new.part first _ c.requires (omega arith) (c.in_ok-fill.ensures.told text told) in
    let value = c.in_ok-length.ensures.value in
    let says = announces text c.args.room.now c.fill.new.part first c.in_ok-length.length _ has c.in_ok-length.ensures.checked value.0 in
    let rest_len : length rest ≡ c.in_ok-length.length - 5 = omega arith in
    rw (p.1, p.2) (fill_err (drop 4 text) rest (first ∷ text) _ 4 c.in_err-fill-2.field-0.0 (g.R.Source.remaining c.fill-2.new.source) refl (c.in_err-fill-2.ensures.told (drop 4 text) has.left_is)
    (λ short. slice_cut (first ∷ text) says.passed (omega (arith, says.is, value.1, length-drop 4 text, rest_len)))
    (λ k within. slice_cut_within (first ∷ text) _ c.in_ok-length.length k has.five has.long c.in_ok-length.ensures.checked value.0 (omega (arith, value.1, rest_len, within))))

pub returns-clause-told : goal.returns-clause-told
returns-clause-told g c = λ text told.
    let part = c.fill.new.part in
    let first = c.args.first in
    let has = has_five text c.args.room.now part first _ c.requires (omega arith) (c.in_ok-fill.ensures.told text told) in
    let n = c.in_ok-length.length in
    let value = c.in_ok-length.ensures.value in
    let says = announces text c.args.room.now part first n _ has c.in_ok-length.ensures.checked value.0 in
    let rest = c.fill-2.new.part in
    let rest_len : n ≡ 5 + length rest = omega (arith, value.1) in
    let others = c.in_ok-fill-2.ensures.told (drop 4 text) has.left_is in
    let room_len = length-with_five c.args.room.now part first c.requires (omega arith) in (
      slice_passes (first ∷ text) says.passed (omega (arith, says.is, others.0, length-drop 4 text)),
      says.is,
      same_record (with_five c.args.room.now first part) rest text first n room_len rest_len has.five others.1,
      others.2 ∙ ap (λ (r : List ℕ). Some r) (drop-drop (length rest) 5 (first ∷ text) ∙ ap (λ (k : ℕ). drop k (first ∷ text)) (sym rest_len)),
    )

pub returns-clause-sound : goal.returns-clause-sound
returns-clause-sound g c =
    let part = c.fill.new.part in
    let len : length part ≡ 4 = omega arith in
    let room = with_five c.args.room.now c.args.first part in
    let room_len = length-with_five c.args.room.now part c.args.first c.requires len in
    let value = c.in_ok-length.ensures.value in
    let n = c.in_ok-length.length in
    let rest = c.fill-2.new.part in
    let rest_len : length rest ≡ n - 5 = omega arith in
    let whole = put_mid 5 (n - 5) room rest in
    let whole_len : length whole ≡ 99999 = length-put_mid room rest 5 (n - 5) (omega (arith, room_len, value.1, value.2)) rest_len ∙ room_len in
    let same = take-take 5 n whole (omega (arith, value.1)) ∙ take-put_mid_below 5 (n - 5) room rest 5 (omega arith) (omega (arith, room_len)) in
    (omega (arith, value.2), IsSlice-from_five (take n whole) (take 5 room) n same c.in_ok-length.ensures.checked value.0 value.1 (omega (arith, length-take n whole, whole_len, value.2)))
