-- Lemmas on what reading the next record takes off a stream and what it leaves unread.
use Rattle.zeb_marc.proofs.Cited.{◌≡◌, ℕ, suc, ◌≤◌, false, Option, Some, None, Ok, Err, List, [], ◌∷◌, ◌++◌, take, drop, refl, sym, ap, subst, ◌∙◌, append_assoc, length-take, arith, inl, inr, prefix_len, take-append-drop, append-nil, prefix_len-le-length, MarcFault, Truncated, TooManySeparators, ReadFault, is_separator, IsRun, IsSlice, SkipGives, SliceGives, LeavesUnread}
use Rattle.zeb_marc.proofs.ReadingLemmas.{five_fault, slice_whole}
use Rattle.zeb_marc.proofs.SplitLaws.{list_all-take, stops_there, IsSlice-front, ended}

-- ---- separators

pub unread_end : (answer : Option ℕ) (text : List ℕ) (left : Option (List ℕ)) → answer ≡ None → SkipGives text (Ok answer) left → LeavesUnread text (Ok None) left
unread_end None text left e h = (text, [], sym (append-nil text), h.2, (ended text h.0 h.1, refl))
unread_end (Some byte) text left e h = absurd cc

-- so many separators begin the text
run_of : (text : List ℕ) (k : ℕ) → k ≤ 65535 → k ≤ prefix_len is_separator text → IsRun (take k text)
run_of text k few le = record { separators = list_all-take is_separator text k le; bounded = omega (arith, length-take k text) }

pub unread_skip_err : (text : List ℕ) (fault : MarcFault) (left : Option (List ℕ)) → SkipGives text (Err fault) left → LeavesUnread text (Err fault) left
unread_skip_err text TooManySeparators left h =
    let most = prefix_len-le-length is_separator text in
    (take 65536 text, drop 65536 text, sym (take-append-drop 65536 text), h.1, (list_all-take is_separator text 65536 h.0, omega (arith, h.0, length-take 65536 text, most)))
unread_skip_err text ReadFault left h = (take h.0 text, drop h.0 text, sym (take-append-drop h.0 text), h.3, inl (run_of text h.0 h.1 h.2))
unread_skip_err text _ left h = absurd h

-- ---- a record that was begun

-- separators, and then another byte
pub record IsBegun (text : List ℕ) (first : ℕ) (others : List ℕ) : Type 0 where
  pub run : List ℕ
  pub whole : text ≡ run ++ (first ∷ others)
  pub skipped : IsRun run
  pub other : is_separator first ≡ false

pub IsBegun-from_skip : (answer : Option ℕ) (first : ℕ) (text others : List ℕ) (left : Option (List ℕ)) → answer ≡ Some first → left ≡ Some others → SkipGives text (Ok answer) left → IsBegun text first others
IsBegun-from_skip None first text others left e l h = absurd cc
IsBegun-from_skip (Some byte) first text others left e l h =
    let same : byte ≡ first = cc in
    let behind : h.1.0 ≡ others = let both : Some h.1.0 ≡ Some others = sym h.1.2 ∙ l in cc in
    let n = prefix_len is_separator text in
    let tail : drop n text ≡ first ∷ others = h.1.1 ∙ ap (λ (b : ℕ). b ∷ h.1.0) same ∙ ap (λ (t : List ℕ). first ∷ t) behind in
    record {
      run = take n text;
      whole = sym (take-append-drop n text) ∙ ap (λ (t : List ℕ). take n text ++ t) tail;
      skipped = run_of text n h.0 (omega arith);
      other = stops_there is_separator text first others tail;
    }

-- so many bytes of it are taken
parts : (text run tail : List ℕ) (n : ℕ) → text ≡ run ++ tail → text ≡ (run ++ take n tail) ++ drop n tail
parts text run tail n whole = whole ∙ ap (λ (t : List ℕ). run ++ t) (sym (take-append-drop n tail)) ∙ sym (append_assoc run (take n tail) (drop n tail))

pub unread_slice_err : (text : List ℕ) (first : ℕ) (others room : List ℕ) (fault : MarcFault) (left : Option (List ℕ)) → IsBegun text first others → SliceGives (first ∷ others) (Err fault) room left → LeavesUnread text (Err fault) left
unread_slice_err text first others room Truncated left is h =
    (text, [], sym (append-nil text), h.1, ((is.run, first ∷ others, is.whole, inr (record { skipped = is.skipped; begun = (first, others, refl, is.other); is = h.0 })), refl))
unread_slice_err text first others room ReadFault left is h =
    let k = h.0 in
    let tail = first ∷ others in (
      is.run ++ take (suc k) tail,
      drop (suc k) tail,
      parts text is.run tail (suc k) is.whole,
      h.2,
      inr (is.run, take (suc k) tail, refl, inr (record { skipped = is.skipped; begun = (first, take k others, refl, is.other); is = h.1 })),
    )
unread_slice_err text first others room TooManySeparators left is h =
    elim (five_fault (take 5 (first ∷ others)) TooManySeparators (omega (arith, h.0, length-take 5 (first ∷ others))) h.1) [ inl e ↦ absurd cc | inr e ↦ absurd cc ]
unread_slice_err text first others room _ left is h =
    let tail = first ∷ others in (
      is.run ++ take 5 tail,
      drop 5 tail,
      parts text is.run tail 5 is.whole,
      h.2,
      record { run = is.run; digits = take 5 tail; whole = refl; skipped = is.skipped; five = omega (arith, h.0, length-take 5 tail); is = h.1 },
    )

pub unread_slice_ok : (text : List ℕ) (first : ℕ) (others room : List ℕ) (n : ℕ) (left : Option (List ℕ)) → IsBegun text first others → SliceGives (first ∷ others) (Ok n) room left → LeavesUnread text (Ok (Some n)) left
unread_slice_ok text first others room n left is h =
    let tail = first ∷ others in
    let whole = slice_whole tail h.0 in
    let sliced : IsSlice (take n tail) = subst (λ (k : ℕ). IsSlice (take k tail)) (sym h.1) (IsSlice-front tail h.0) in (
      is.run ++ take n tail,
      drop n tail,
      parts text is.run tail n is.whole,
      h.3,
      record { run = is.run; slice = take n tail; whole = refl; skipped = is.skipped; sliced = sliced; size = omega (arith, h.1, whole, length-take n tail) },
    )
