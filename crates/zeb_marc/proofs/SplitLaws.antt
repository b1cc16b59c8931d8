-- A file is split in one way, which is what reading it from its front on finds.
use Rattle.zeb_marc.proofs.Cited.{◌≡◌, ◌↔◌, ℕ, zero, suc, ◌+◌, ◌<◌, ◌≤◌, Bool, true, false, cond, ◌&&◌, leb, Option, Some, None, List, [], ◌∷◌, ◌++◌, length, take, drop, refl, sym, ap, subst, ◌∙◌, length-take, length-drop, length-append, arith, inl, inr, ◌⊎◌, list_all, prefix_len, is_ascii_digit, take_at, drop_at, take_all, drop_all, take-take, take-append-drop, take-append-le, append-nil, prefix_len-le-length, cases_lt, leb-true, nat_tests, MarcFault, LengthDigits, LengthRange, Truncated, TooManySeparators, check, first_failing, record_length, announced_checks, slice_checks, is_separator, are_separators, IsRun, IsSlice, IsTooLong, IsNoSlice, EndsAs, IsSplit, Next, at_end, a_slice, a_fault, next_if, Split, split_next, split_within}
use Rattle.zeb_marc.specs.Leader.{are_digits}
use Rattle.zeb_marc.specs.Splits.{next_of, split_of}
use Rattle.zeb_marc.proofs.Entries.{first_failing-append_none, first_failing-cons, both_true}
use Rattle.zeb_marc.proofs.RecordChecks.{slice_passes}
use Rattle.zeb_marc.proofs.Runs.{run_more}
use Rattle.zeb_marc.proofs.ReadingLemmas.{announced_checks-five, record_length-five, IsSlice-from_five, slice_whole, next_of-many, next_of-end, next_of-record}

-- ---- runs

one_and : (n : ℕ) → 1 + n ≡ suc n
one_and n = omega arith

-- a run, and how many elements pass behind it
prefix_len-run : {X : Type 0} (p : X → Bool) (run rest : List X) → list_all p run ≡ true → prefix_len p (run ++ rest) ≡ length run + prefix_len p rest
prefix_len-run p [] rest e = let nothing : prefix_len p rest ≡ 0 + prefix_len p rest = omega arith in nothing
prefix_len-run p (x ∷ run) rest e =
    let both = both_true (p x) (list_all p run) e in
    let more = prefix_len-run p run rest both.1 in
    ap (λ (b : Bool). cond b (1 + prefix_len p (run ++ rest)) 0) both.0 ∙ omega (arith, more)

-- the elements up to there pass
pub list_all-take : {X : Type 0} (p : X → Bool) (xs : List X) (n : ℕ) → n ≤ prefix_len p xs → list_all p (take n xs) ≡ true
list_all-take p xs zero le = refl
list_all-take p [] (suc n) le = refl
list_all-take p (x ∷ xs) (suc n) le =
    elim (p x) as (λ b. suc n ≤ cond b (1 + prefix_len p xs) 0 → (b && list_all p (take n xs)) ≡ true) [
      | true ↦ λ le'. list_all-take p xs n (omega arith)
      | false ↦ λ le'. absurd (omega arith)
    ] le

-- and the one behind them doesn't
pub stops_there : {X : Type 0} (p : X → Bool) (xs : List X) (y : X) (ys : List X) → drop (prefix_len p xs) xs ≡ y ∷ ys → p y ≡ false
stops_there p xs y ys e =
    elim (p y) as (λ b. p y ≡ b → b ≡ false) [
      | true ↦ λ py. let more = run_more p xs (prefix_len p xs) y ys (omega arith) e py in absurd (omega (arith, more.0))
      | false ↦ λ py. refl
    ] refl

-- ---- slices

digit_or_separator : (byte : ℕ) → is_ascii_digit byte ≡ true → is_separator byte ≡ false
digit_or_separator byte e = grind (arith, nat_tests)

-- the checks of a slice that passes them
pub record SoundSlice (text : List ℕ) : Type 0 where
  pub announced : first_failing (announced_checks text) ≡ None
  pub long : 5 ≤ length text
  pub digits : are_digits (take 5 text) ≡ true
  pub least : 26 ≤ record_length text

pub SoundSlice-from_checks : (text : List ℕ) → first_failing (slice_checks text) ≡ None → SoundSlice text
SoundSlice-from_checks text e =
    let announced = (first_failing-append_none (announced_checks text) (check (leb (record_length text) (length text)) Truncated ∷ []) e).0 in
    let a = first_failing-cons (check (leb 5 (length text)) Truncated) (check (are_digits (take 5 text)) LengthDigits ∷ check (leb 26 (record_length text)) LengthRange ∷ []) announced in
    let b = first_failing-cons (check (are_digits (take 5 text)) LengthDigits) (check (leb 26 (record_length text)) LengthRange ∷ []) a.1 in
    let c = first_failing-cons (check (leb 26 (record_length text)) LengthRange) [] b.1 in
    record { announced = announced; long = leb-true _ _ a.0; digits = b.0; least = leb-true _ _ c.0 }

-- a slice begins with no separator
first_is_digit : (byte : ℕ) (bytes : List ℕ) → are_digits (take 5 (byte ∷ bytes)) ≡ true → is_separator byte ≡ false
unfolding are_digits
first_is_digit byte bytes e = digit_or_separator byte (both_true (is_ascii_digit byte) (list_all is_ascii_digit (take 4 bytes)) e).0

-- the front of a text that is as long as its first five digits say is a slice
pub IsSlice-front : (text : List ℕ) → first_failing (slice_checks text) ≡ None → IsSlice (take (record_length text) text)
IsSlice-front text e =
    let sound = SoundSlice-from_checks text e in
    let n = record_length text in
    let whole = slice_whole text e in
    let same_five = take-take 5 n text (omega (arith, sound.least)) in
    let five_sound = ap first_failing (announced_checks-five text (take 5 text) refl sound.long) ∙ sound.announced in
    IsSlice-from_five (take n text) (take 5 text) n same_five five_sound (sym (record_length-five text (take 5 text) refl)) sound.least (omega (arith, length-take n text, whole))

-- and a slice stays one where bytes follow it
slice_then : (slice rest : List ℕ) → IsSlice slice → (first_failing (slice_checks (slice ++ rest)) ≡ None) × (record_length (slice ++ rest) ≡ length slice)
slice_then slice rest is =
    let sound = SoundSlice-from_checks slice is.no_fault in
    let five : take 5 slice ≡ take 5 (slice ++ rest) = sym (take-append-le 5 slice rest sound.long) in
    let long : 5 ≤ length (slice ++ rest) = omega (arith, sound.long, length-append slice rest) in
    let checks = announced_checks-five (slice ++ rest) (take 5 slice) five long in
    let of_slice = announced_checks-five slice (take 5 slice) refl sound.long in
    let announced : first_failing (announced_checks (slice ++ rest)) ≡ None = ap first_failing (sym checks ∙ of_slice) ∙ sound.announced in
    let same_length : record_length (slice ++ rest) ≡ length slice = sym (record_length-five (slice ++ rest) (take 5 slice) five) ∙ record_length-five slice (take 5 slice) refl ∙ sym is.whole in
    (slice_passes (slice ++ rest) announced (omega (arith, same_length, length-append slice rest)), same_length)

-- ---- what stands next

-- what it says of the text
abbrev pub NextIs : List ℕ → Next → Type 0
NextIs text at_end = IsRun text
NextIs text (a_slice slice rest) = (run : List ℕ) × (text ≡ run ++ (slice ++ rest)) × IsRun run × IsSlice slice × (length rest < length text)
NextIs text (a_fault fault) = EndsAs text (Some fault)

too_long : (text : List ℕ) → 65535 < prefix_len is_separator text → NextIs text (a_fault TooManySeparators)
too_long text lt =
    let most = prefix_len-le-length is_separator text in (
      take 65536 text,
      drop 65536 text,
      sym (take-append-drop 65536 text),
      inl (record { separators = list_all-take is_separator text 65536 lt; long = omega (arith, length-take 65536 text, most); is = refl }),
    )

pub ended : (text : List ℕ) → prefix_len is_separator text ≤ 65535 → drop (prefix_len is_separator text) text ≡ [] → NextIs text at_end
ended text le e =
    let n = prefix_len is_separator text in
    let short : length text ≤ n = omega (arith, length-drop n text, ap length e) in
    let whole = take_all n text short in
    record { separators = ap are_separators (sym whole) ∙ list_all-take is_separator text n (omega arith); bounded = omega (arith, short) }

begun : (text : List ℕ) (byte : ℕ) (bytes : List ℕ) → prefix_len is_separator text ≤ 65535 → drop (prefix_len is_separator text) text ≡ byte ∷ bytes → NextIs text (next_if (first_failing (slice_checks (byte ∷ bytes))) (byte ∷ bytes))
begun text byte bytes le e =
    let n = prefix_len is_separator text in
    let run = take n text in
    let tail = byte ∷ bytes in
    let parts : text ≡ run ++ tail = sym (take-append-drop n text) ∙ ap (λ (t : List ℕ). run ++ t) e in
    let is_run : IsRun run = record { separators = list_all-take is_separator text n (omega arith); bounded = omega (arith, length-take n text) } in
    elim (first_failing (slice_checks tail)) as (λ o. first_failing (slice_checks tail) ≡ o → NextIs text (next_if o tail)) [
      | None ↦ λ none.
          let m = record_length tail in
          let sound = SoundSlice-from_checks tail none in (
            run,
            parts ∙ ap (λ (t : List ℕ). run ++ t) (sym (take-append-drop m tail)),
            is_run,
            IsSlice-front tail none,
            omega (arith, length-drop m tail, sound.least, ap length parts, length-append run tail),
          )
      | Some fault ↦ λ some. (run, tail, parts, inr (record { skipped = is_run; begun = (byte, bytes, refl, stops_there is_separator text byte bytes e); is = some }))
    ] refl

pub next_view : (text : List ℕ) → NextIs text (next_of text)
next_view text =
    elim (cases_lt 65535 (prefix_len is_separator text)) [
      | inl lt ↦ subst (NextIs text) (sym (next_of-many text lt)) (too_long text lt)
      | inr le ↦
          elim (drop (prefix_len is_separator text) text) as (λ rest. drop (prefix_len is_separator text) text ≡ rest → NextIs text (next_of text)) [
            | [] ↦ λ e. subst (NextIs text) (sym (next_of-end text le e)) (ended text le e)
            | byte ∷ bytes ↦ λ e. subst (NextIs text) (sym (next_of-record text byte bytes le e)) (begun text byte bytes le e)
          ] refl
    ]

-- ---- the split that is found is one

found_within : (n : ℕ) (text : List ℕ) → length text < n → IsSplit text (split_within n text).slices (split_within n text).fault
found_within zero text lt = absurd (omega arith)
found_within (suc n) text lt =
    elim (next_of text) as (λ next. NextIs text next → IsSplit text (split_next (split_within n) next).slices (split_next (split_within n) next).fault) [
      | at_end ↦ λ is. is
      | a_slice slice rest ↦ λ is. (is.0, rest, is.1, is.2, is.3, found_within n rest (omega (arith, is.4)))
      | a_fault fault ↦ λ is. is
    ] (next_view text)

pub IsSplit-split_of : (file : List ℕ) → IsSplit file (split_of file).slices (split_of file).fault
unfolding split_of
IsSplit-split_of file = found_within (suc (length file)) file (omega arith)

-- ---- it doesn't depend on the bound

same_within : (n m : ℕ) (text : List ℕ) → length text < n → length text < m → split_within n text ≡ split_within m text
same_within zero m text ln lm = absurd (omega arith)
same_within (suc n) zero text ln lm = absurd (omega arith)
same_within (suc n) (suc m) text ln lm =
    elim (next_of text) as (λ next. NextIs text next → split_next (split_within n) next ≡ split_next (split_within m) next) [
      | at_end ↦ λ is. refl
      | a_slice slice rest ↦ λ is. ap (λ (s : Split). record { slices = slice ∷ s.slices; fault = s.fault }) (same_within n m rest (omega (arith, is.4)) (omega (arith, is.4)))
      | a_fault fault ↦ λ is. refl
    ] (next_view text)

pub split_of-next : (text : List ℕ) → split_of text ≡ split_next split_of (next_of text)
unfolding split_of
split_of-next text =
    elim (next_of text) as (λ next. NextIs text next → split_next (split_within (length text)) next ≡ split_next split_of next) [
      | at_end ↦ λ is. refl
      | a_slice slice rest ↦ λ is. ap (λ (s : Split). record { slices = slice ∷ s.slices; fault = s.fault }) (same_within (length text) (suc (length rest)) rest (omega (arith, is.4)) (omega arith))
      | a_fault fault ↦ λ is. refl
    ] (next_view text)

-- ---- there is no other

-- what stands behind a run of separators
next_of-behind : (run : List ℕ) (byte : ℕ) (bytes : List ℕ) → IsRun run → is_separator byte ≡ false → next_of (run ++ byte ∷ bytes) ≡ next_if (first_failing (slice_checks (byte ∷ bytes))) (byte ∷ bytes)
next_of-behind run byte bytes is other =
    let text = run ++ byte ∷ bytes in
    let stop : prefix_len is_separator (byte ∷ bytes) ≡ 0 = ap (λ (b : Bool). cond b (1 + prefix_len is_separator bytes) 0) other in
    let n : prefix_len is_separator text ≡ length run = prefix_len-run is_separator run (byte ∷ bytes) is.separators ∙ omega (arith, stop) in
    let rest = ap (λ (k : ℕ). drop k text) n ∙ drop_at run (byte ∷ bytes) (length run) refl in
    next_of-record text byte bytes (omega (arith, n, is.bounded)) rest

pub next_of-run : (run : List ℕ) → IsRun run → next_of run ≡ at_end
next_of-run run is =
    let n : prefix_len is_separator run ≡ length run = ap (prefix_len is_separator) (sym (append-nil run)) ∙ prefix_len-run is_separator run [] is.separators ∙ (let none : length run + 0 ≡ length run = omega arith in none) in
    next_of-end run (omega (arith, n, is.bounded)) (drop_all (prefix_len is_separator run) run (omega (arith, n)))

pub next_of-slice : (run slice rest : List ℕ) → IsRun run → IsSlice slice → next_of (run ++ (slice ++ rest)) ≡ a_slice slice rest
next_of-slice run [] rest is_run is = let sound = SoundSlice-from_checks [] is.no_fault in absurd (omega (arith, sound.long))
next_of-slice run (byte ∷ bytes) rest is_run is =
    let slice = byte ∷ bytes in
    let sound = SoundSlice-from_checks slice is.no_fault in
    let then = slice_then slice rest is in
    next_of-behind run byte (bytes ++ rest) is_run (first_is_digit byte bytes sound.digits)
    ∙ ap (λ (o : Option MarcFault). next_if o (slice ++ rest)) then.0
    ∙ ap (λ (k : ℕ). a_slice (take k (slice ++ rest)) (drop k (slice ++ rest))) then.1
    ∙ ap (λ (front : List ℕ). a_slice front (drop (length slice) (slice ++ rest))) (take_at slice rest (length slice) refl)
    ∙ ap (λ (back : List ℕ). a_slice slice back) (drop_at slice rest (length slice) refl)

pub next_of-fault : (run rest : List ℕ) (fault : MarcFault) → IsTooLong run fault ⊎ IsNoSlice run rest fault → next_of (run ++ rest) ≡ a_fault fault
next_of-fault run rest fault (inl is) =
    let n = prefix_len-run is_separator run rest is.separators in
    next_of-many (run ++ rest) (omega (arith, n, is.long)) ∙ ap (λ (f : MarcFault). a_fault f) (sym is.is)
next_of-fault run rest fault (inr is) =
    let begun = is.begun in
    ap (λ (t : List ℕ). next_of (run ++ t)) begun.2
    ∙ next_of-behind run begun.0 begun.1 is.skipped begun.3
    ∙ ap (λ (t : List ℕ). next_if (first_failing (slice_checks t)) t) (sym begun.2)
    ∙ ap (λ (o : Option MarcFault). next_if o rest) is.is

pub split_of-only : (file : List ℕ) (slices : List (List ℕ)) (end : Option MarcFault) → IsSplit file slices end → split_of file ≡ record { slices = slices; fault = end }
split_of-only file [] None is = split_of-next file ∙ ap (split_next split_of) (next_of-run file is)
split_of-only file [] (Some fault) is = split_of-next file ∙ ap (split_next split_of) (ap next_of is.2 ∙ next_of-fault is.0 is.1 fault is.3)
split_of-only file (slice ∷ slices) end is =
    split_of-next file ∙ ap (split_next split_of) (ap next_of is.2 ∙ next_of-slice is.0 slice is.1 is.3 is.4)
    ∙ ap (λ (s : Split). record { slices = slice ∷ s.slices; fault = s.fault }) (split_of-only is.1 slices end is.5)

-- ---- what stands next, in terms of runs and slices

pub next_slice : (file slice rest : List ℕ) → next_of file ≡ a_slice slice rest ↔ ((run : List ℕ) × (file ≡ run ++ (slice ++ rest)) × IsRun run × IsSlice slice)
next_slice file slice rest = (
  λ e. let is = subst (NextIs file) e (next_view file) in (is.0, is.1, is.2, is.3),
  λ is. ap next_of is.1 ∙ next_of-slice is.0 slice rest is.2 is.3,
)

pub next_end : (file : List ℕ) → next_of file ≡ at_end ↔ EndsAs file None
next_end file = (λ e. subst (NextIs file) e (next_view file), next_of-run file)

pub next_fault : (file : List ℕ) (fault : MarcFault) → next_of file ≡ a_fault fault ↔ EndsAs file (Some fault)
next_fault file fault = (λ e. subst (NextIs file) e (next_view file), λ is. ap next_of is.2 ∙ next_of-fault is.0 is.1 fault is.3)
