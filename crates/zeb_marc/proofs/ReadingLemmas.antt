-- Lemmas on reading one record from a source, part by part.
use Rattle.zeb_marc.proofs.Cited.{◌≡◌, ℕ, suc, ◌+◌, ◌<◌, ◌≤◌, Bool, true, false, cond, leb, Option, Some, None, Ok, Err, List, [], ◌∷◌, ◌++◌, length, set, take, drop, refl, sym, ap, subst, ◌∙◌, length-take, length-set, arith, inl, inr, ◌⊎◌, prefix_len, take-take, drop-drop, take-put_mid, le-leb, lt-leb, leb-true, le-ltb, lt-ltb, put_mid, MarcFault, LengthDigits, LengthRange, Truncated, TooManySeparators, ReadFault, Check, check, first_failing, record_length, announced_checks, slice_checks, is_separator, next_if, next_behind, Next, at_end, a_fault, Gives, IsSlice, FailsIf, ByteGives, SkipGives, FillGives, SliceGives}
use Rattle.zeb_marc.specs.Leader.{are_digits, number_of}
use Rattle.zeb_marc.specs.Splits.{next_of}
use Rattle.zeb_marc.proofs.Entries.{first_failing-append_none, first_failing-cons}
use Rattle.zeb_marc.proofs.RecordChecks.{slice_cut, slice_fails, slice_passes, one_fails}
use Rattle.zeb_marc.proofs.Runs.{suc_add}

-- ---- one byte

pub byte_none : (answer : Option ℕ) (text : List ℕ) (left : Option (List ℕ)) → answer ≡ None → ByteGives text (Ok answer) left → (text ≡ []) × (left ≡ Some [])
byte_none None text left e h = h
byte_none (Some byte) text left e h = absurd cc

pub byte_some : (answer : Option ℕ) (byte : ℕ) (text : List ℕ) (left : Option (List ℕ)) → answer ≡ Some byte → ByteGives text (Ok answer) left → (rest : List ℕ) × (text ≡ byte ∷ rest) × (left ≡ Some rest)
byte_some None byte text left e h = absurd cc
byte_some (Some b) byte text left e h = let same : b ≡ byte = cc in (h.0, h.1 ∙ ap (λ (x : ℕ). x ∷ h.0) same, h.2)

-- a read that fails behind so many separators
pub skip_failed : (text : List ℕ) (fault : MarcFault) (k : ℕ) (left : Option (List ℕ)) → fault ≡ ReadFault → k ≤ 65535 → k ≤ prefix_len is_separator text → ByteGives (drop k text) (Err fault) left → SkipGives text (Err fault) left
skip_failed text fault k left e few le h = subst (λ (f : MarcFault). ByteGives (drop k text) (Err f) left → SkipGives text (Err f) left) (sym e) (λ behind. (k, few, le, behind)) h

-- ---- the first five bytes of a record

-- what the length's checks read of a text
abbrev five_checks : Bool → List ℕ → List Check
five_checks long digits = check long Truncated ∷ check (are_digits digits) LengthDigits ∷ check (leb 26 (number_of digits)) LengthRange ∷ []

pub announced_checks-five : (text five : List ℕ) → five ≡ take 5 text → 5 ≤ length text → announced_checks five ≡ announced_checks text
announced_checks-five text five e long =
    let len : 5 ≤ length five = omega (arith, ap length e, length-take 5 text) in
    ap (λ (b : Bool). five_checks b (take 5 five)) (le-leb 5 (length five) len ∙ sym (le-leb 5 (length text) long))
    ∙ ap (λ (digits : List ℕ). five_checks (leb 5 (length text)) digits) (ap (take 5) e ∙ take-take 5 5 text (omega arith))

pub record_length-five : (text five : List ℕ) → five ≡ take 5 text → record_length five ≡ record_length text
record_length-five text five e = ap number_of (ap (take 5) e ∙ take-take 5 5 text (omega arith))

first_of : (room part : List ℕ) (first : ℕ) → 0 < length room → take 1 (set room 0 first) ++ part ≡ first ∷ part
first_of [] part first pos = absurd (omega arith)
first_of (x ∷ room) part first pos = refl

pub five_are : (room part : List ℕ) (first : ℕ) → 0 < length room → length part ≡ 4 → take 5 (put_mid 1 4 (set room 0 first) part) ≡ first ∷ part
five_are room part first pos len = take-put_mid 1 4 (set room 0 first) part 5 (omega arith) (omega (arith, length-set room 0 first)) ∙ first_of room part first pos

-- ---- the bytes of a record

pub fill_err : (text part record_text room : List ℕ) (m : ℕ) (fault : MarcFault) (left : Option (List ℕ)) → text ≡ drop (suc m) record_text → FillGives text (Err fault) part left
    → (length text < length part → first_failing (slice_checks record_text) ≡ Some Truncated)
    → ((k : ℕ) → k < length part → first_failing (slice_checks (take (suc (m + k)) record_text)) ≡ Some Truncated)
    → SliceGives record_text (Err fault) room left
fill_err text part record_text room m Truncated left same h short cut = (short h.0, h.1)
fill_err text part record_text room m ReadFault left same h short cut =
    let k = h.0 in
    let behind = ap (drop k) same ∙ drop-drop k (suc m) record_text ∙ ap (λ (n : ℕ). drop n record_text) (suc_add m k) in
    (m + k, cut k h.1, h.2 ∙ ap (λ (t : List ℕ). Some t) behind)
fill_err text part record_text room m _ left same h short cut = absurd h

-- fewer than five bytes
pub slice_short : (text : List ℕ) → length text < 5 → first_failing (slice_checks text) ≡ Some Truncated
slice_short text short = slice_fails text Truncated (one_fails (leb 5 (length text)) Truncated (check (are_digits (take 5 text)) LengthDigits ∷ check (leb 26 (record_length text)) LengthRange ∷ []) (lt-leb 5 (length text) short))

-- the bytes up to somewhere within a record
pub slice_cut_within : (record_text five : List ℕ) (n k : ℕ) → five ≡ take 5 record_text → 5 ≤ length record_text → first_failing (announced_checks five) ≡ None → n ≡ record_length five → 5 + k < n
    → first_failing (slice_checks (take (suc (4 + k)) record_text)) ≡ Some Truncated
slice_cut_within record_text five n k same long announced len within =
    let front = take (suc (4 + k)) record_text in
    let same_five : five ≡ take 5 front = same ∙ sym (take-take 5 (suc (4 + k)) record_text (omega arith)) in
    let front_long : 5 ≤ length front = omega (arith, length-take (suc (4 + k)) record_text) in
    let checks = announced_checks-five front five same_five front_long in
    let same_length = record_length-five front five same_five in
    slice_cut front (ap first_failing (sym checks) ∙ announced) (omega (arith, length-take (suc (4 + k)) record_text, len, same_length))

-- five bytes that aren't the length of a record
three_checks : (digits long : Bool) (fault : MarcFault) → cond digits (cond long None (Some LengthRange)) (Some LengthDigits) ≡ Some fault → (fault ≡ LengthDigits) ⊎ (fault ≡ LengthRange)
three_checks true true fault e = absurd cc
three_checks true false fault e = inr cc
three_checks false long fault e = inl cc

pub five_fault : (five : List ℕ) (fault : MarcFault) → 5 ≤ length five → first_failing (announced_checks five) ≡ Some fault → (fault ≡ LengthDigits) ⊎ (fault ≡ LengthRange)
five_fault five fault long e =
    let others = check (are_digits (take 5 five)) LengthDigits ∷ check (leb 26 (record_length five)) LengthRange ∷ [] in
    let behind : first_failing others ≡ Some fault = sym (ap (λ (b : Bool). cond b (first_failing others) (Some Truncated)) (le-leb 5 (length five) long)) ∙ e in
    three_checks (are_digits (take 5 five)) (leb 26 (record_length five)) fault behind

pub slice_err : (record_text room five : List ℕ) (fault : MarcFault) (left : Option (List ℕ)) → five ≡ take 5 record_text → 5 ≤ length record_text → first_failing (announced_checks five) ≡ Some fault → left ≡ Some (drop 5 record_text)
    → SliceGives record_text (Err fault) room left
slice_err record_text room five fault left same long e behind =
    let is : first_failing (announced_checks (take 5 record_text)) ≡ Some fault = ap (λ (t : List ℕ). first_failing (announced_checks t)) (sym same) ∙ e in
    let five_long : 5 ≤ length five = omega (arith, ap length same, length-take 5 record_text) in
    elim (five_fault five fault five_long e) [
      | inl f ↦ subst (λ (g : MarcFault). SliceGives record_text (Err g) room left) (sym f) (long, is ∙ ap (λ (g : MarcFault). Some g) f, behind)
      | inr f ↦ subst (λ (g : MarcFault). SliceGives record_text (Err g) room left) (sym f) (long, is ∙ ap (λ (g : MarcFault). Some g) f, behind)
    ]

-- the room holds the record
pub IsSlice-from_five : (slice five : List ℕ) (n : ℕ) → take 5 slice ≡ five → first_failing (announced_checks five) ≡ None → n ≡ record_length five → 26 ≤ n → length slice ≡ n → IsSlice slice
IsSlice-from_five slice five n same sound len least whole =
    let announced : first_failing (announced_checks slice) ≡ None = ap first_failing (sym (announced_checks-five slice five (sym same) (omega arith))) ∙ sound in
    let length_is = record_length-five slice five (sym same) in
    record { no_fault = slice_passes slice announced (omega arith); whole = omega arith }

-- as many bytes are there as the length says
pub slice_whole : (text : List ℕ) → first_failing (slice_checks text) ≡ None → record_length text ≤ length text
slice_whole text e =
    let last = (first_failing-append_none (announced_checks text) (check (leb (record_length text) (length text)) Truncated ∷ []) e).1 in
    leb-true _ _ (first_failing-cons (check (leb (record_length text) (length text)) Truncated) [] last).0

-- ---- the next record

pub next_of-many : (text : List ℕ) → 65535 < prefix_len is_separator text → next_of text ≡ a_fault TooManySeparators
unfolding next_of
next_of-many text lt = ap (λ (b : Bool). cond b (a_fault TooManySeparators) (next_behind (drop (prefix_len is_separator text) text))) (lt-ltb _ _ lt)

pub next_of-few : (text : List ℕ) → prefix_len is_separator text ≤ 65535 → next_of text ≡ next_behind (drop (prefix_len is_separator text) text)
unfolding next_of
next_of-few text le = ap (λ (b : Bool). cond b (a_fault TooManySeparators) (next_behind (drop (prefix_len is_separator text) text))) (le-ltb _ _ le)

pub next_of-end : (text : List ℕ) → prefix_len is_separator text ≤ 65535 → drop (prefix_len is_separator text) text ≡ [] → next_of text ≡ at_end
next_of-end text le e = next_of-few text le ∙ ap next_behind e

pub next_of-record : (text : List ℕ) (first : ℕ) (rest : List ℕ) → prefix_len is_separator text ≤ 65535 → drop (prefix_len is_separator text) text ≡ first ∷ rest → next_of text ≡ next_if (first_failing (slice_checks (first ∷ rest))) (first ∷ rest)
next_of-record text first rest le e = next_of-few text le ∙ ap next_behind e

pub skip_none : (answer : Option ℕ) (text : List ℕ) (left : Option (List ℕ)) → answer ≡ None → SkipGives text (Ok answer) left → Gives (next_of text) (Ok None) [] left
skip_none None text left e h = subst (λ (next : Next). Gives next (Ok None) [] left) (sym (next_of-end text h.0 h.1)) (refl, refl, h.2)
skip_none (Some byte) text left e h = absurd cc

pub record Begins (text : List ℕ) (first : ℕ) (left : Option (List ℕ)) : Type 0 where
  pub rest : List ℕ
  pub left_is : left ≡ Some rest
  pub next_is : next_of text ≡ next_if (first_failing (slice_checks (first ∷ rest))) (first ∷ rest)

pub skip_some : (answer : Option ℕ) (first : ℕ) (text : List ℕ) (left : Option (List ℕ)) → answer ≡ Some first → SkipGives text (Ok answer) left → Begins text first left
skip_some None first text left e h = absurd cc
skip_some (Some byte) first text left e h =
    let same : byte ≡ first = cc in
    record { rest = h.1.0; left_is = h.1.2; next_is = next_of-record text first h.1.0 h.0 (h.1.1 ∙ ap (λ (x : ℕ). x ∷ h.1.0) same) }

pub skip_err : (text : List ℕ) (fault : MarcFault) (left after : Option (List ℕ)) (old new : Bool) → SkipGives text (Err fault) left → FailsIf {T = Option ℕ} (Err fault) old new → new ≡ false → Gives (next_of text) (Err fault) [] after
skip_err text TooManySeparators left after old new h fails sound = subst (λ (next : Next). Gives next (Err TooManySeparators) [] after) (sym (next_of-many text h.0)) (refl, refl)
skip_err text ReadFault left after old new h fails sound = let both : true ≡ false = sym fails ∙ sound in absurd cc
skip_err text _ left after old new h fails sound = absurd h

-- what the bytes of a record give, of the text that begins with them
given_fault : (record_text : List ℕ) (fault : MarcFault) (after : Option (List ℕ)) → first_failing (slice_checks record_text) ≡ Some fault → Gives (next_if (first_failing (slice_checks record_text)) record_text) (Err fault) [] after
given_fault record_text fault after e = subst (λ (o : Option MarcFault). Gives (next_if o record_text) (Err fault) [] after) (sym e) (refl, refl)

pub slice_gives_err : (record_text room : List ℕ) (fault : MarcFault) (left after : Option (List ℕ)) (old new : Bool) → SliceGives record_text (Err fault) room left → FailsIf {T = ℕ} (Err fault) old new → new ≡ false
    → Gives (next_if (first_failing (slice_checks record_text)) record_text) (Err fault) [] after
slice_gives_err record_text room ReadFault left after old new h fails sound = let both : true ≡ false = sym fails ∙ sound in absurd cc
slice_gives_err record_text room Truncated left after old new h fails sound = given_fault record_text Truncated after h.0
slice_gives_err record_text room _ left after old new h fails sound =
    given_fault record_text _ after (slice_fails record_text _ (ap first_failing (sym (announced_checks-five record_text (take 5 record_text) refl h.0)) ∙ h.1))

pub slice_gives_ok : (record_text room : List ℕ) (n : ℕ) (left : Option (List ℕ)) → SliceGives record_text (Ok n) room left → Gives (next_if (first_failing (slice_checks record_text)) record_text) (Ok (Some n)) (take n room) left
slice_gives_ok record_text room n left h =
    let whole = slice_whole record_text h.0 in
    let len : n ≡ length (take (record_length record_text) record_text) = omega (arith, h.1, length-take (record_length record_text) record_text) in
    subst (λ (o : Option MarcFault). Gives (next_if o record_text) (Ok (Some n)) (take n room) left) (sym h.0)
    (ap (λ (k : ℕ). Ok (Some k)) len, h.2 ∙ ap (λ (k : ℕ). take k record_text) h.1, h.3 ∙ ap (λ (k : ℕ). Some (drop k record_text)) h.1)
