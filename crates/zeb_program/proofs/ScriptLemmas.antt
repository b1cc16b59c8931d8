-- How far the search for a script's divider has come.
use Rattle.zeb_program.proofs.Cited.{◌≡◌, ◌≤◌, ◌<◌, ◌+◌, ◌-◌, ◌++◌, inl, inr, [], ◌∷◌, zero, suc, length, take, drop, get_or, ℕ, List, arith, refl, ap, sym, subst, ◌∙◌, append_assoc, add-one, add-suc, add-zero, below_more, eqb, eqb-true, true, false, IsUtf8, IsCharBoundary, position_or_len, IsCharBoundary-start, IsCharBoundary-after_ascii, IsUtf8-drop, IsUtf8-nil, take-append-drop, length-drop, length-append, get_or-append-add, take-append_seam, drop_of_length-le, cases_lt, is_lf, first_line, after_first_line, after_lines, line_at, IsDivider, HasNoDivider, DividesAt}
use Rattle.std.proofs.lemmas.List.Sums.{passes_at_first}

-- the rest of a text stands after n of its lines, of which none is a divider
pub record IsReached (n : ℕ) (text rest : List ℕ) : Type 0 where
  pub counted : n + length rest ≤ length text
  pub before : (front : List ℕ) × (text ≡ front ++ rest)
  pub at : rest ≡ after_lines n text
  pub none : (k : ℕ) → k < n → ¬ IsDivider (line_at k text)

pub reached_start : (text : List ℕ) → IsReached 0 text text
reached_start text = record { counted = omega arith; before = ([], refl); at = refl; none = λ k l. absurd (omega (arith, l)) }

one_more : (n : ℕ) (text rest : List ℕ) → rest ≡ after_lines n text → after_first_line rest ≡ after_lines (n + 1) text
one_more n text rest at = let next : after_lines (suc n) text ≡ after_lines (n + 1) text = ap (λ k. after_lines k text) (sym (add-one n)) in ap after_first_line at ∙ next

pub reached_next : (n : ℕ) (text rest : List ℕ) → IsReached n text rest → 0 < length rest → ¬ IsDivider (first_line rest) → IsReached (n + 1) text (after_first_line rest)
reached_next n text rest h some other =
    let to : ℕ = position_or_len is_lf rest + 1 in
    record {
      counted = omega (arith, h.counted, length-drop to rest);
      before = (h.before.0 ++ take to rest, h.before.1 ∙ ap (λ x. h.before.0 ++ x) (sym (take-append-drop to rest)) ∙ sym (append_assoc h.before.0 (take to rest) (drop to rest)));
      at = one_more n text rest h.at;
      none = below_more (λ k. ¬ IsDivider (line_at k text)) n h.none (subst (λ r. ¬ IsDivider (first_line r)) h.at other);
    }

-- where the rest of a text begins, the text may be cut
pub reached_boundary : (n : ℕ) (text rest : List ℕ) → IsReached n text rest → IsUtf8 rest → IsCharBoundary text (length text - length rest)
reached_boundary n text rest h u =
    let front = h.before.0 in
    let len : length (front ++ rest) - length rest ≡ length front = simp length-append (omega arith) in
    let byte : get_or (front ++ rest) (length front) 0 ≡ get_or rest 0 0 = sym (ap (λ k. get_or (front ++ rest) k 0) (add-zero (length front))) ∙ get_or-append-add front rest 0 0 in
    let start : IsCharBoundary rest 0 = IsCharBoundary-start rest u in
    rw (h.before.1, len) (omega (arith, length-append front rest), λ l high. rw byte (start.1 (omega (arith, l, length-append front rest)) (rw byte at high)))

pub reached_divider : (n : ℕ) (text rest profile : List ℕ) → IsReached n text rest → profile ≡ take (length text - length rest) text → IsDivider (first_line rest) → DividesAt (n + 1) text profile (after_first_line rest)
reached_divider n text rest profile h e divider =
    let same : n + 1 - 1 ≡ n = omega arith in
    let front = h.before.0 in
    let len : length (front ++ rest) - length rest ≡ length front = simp length-append (omega arith) in
    let is_front : profile ≡ front = e ∙ ap (λ t. take (length t - length rest) t) h.before.1 ∙ rw (len, take-append_seam) refl in
    record {
      counted = omega arith;
      first = λ k l. h.none k (omega (arith, l));
      divider = rw same (subst (λ r. IsDivider (first_line r)) h.at divider);
      whole = rw same (h.before.1 ∙ ap (λ x. x ++ rest) (sym is_front) ∙ ap (λ x. profile ++ x) h.at);
      rest = one_more n text rest h.at;
    }

-- after the last line come empty lines alone
after_last : (n j : ℕ) (text : List ℕ) → after_lines n text ≡ [] → after_lines (n + j) text ≡ []
after_last n zero text h = rw add-zero h
after_last n (suc j) text h = rw add-suc (ap after_first_line (after_last n j text h))

pub reached_end : (n : ℕ) (text rest : List ℕ) → IsReached n text rest → rest ≡ [] → HasNoDivider text
reached_end n text rest h e k divider = elim (cases_lt k n) [
  | inl l ↦ h.none k l divider
  | inr l ↦
      let sum : n + (k - n) ≡ k = omega arith in
      let none : after_lines k text ≡ [] = rw sum at (after_last n (k - n) text (sym h.at ∙ e)) in
      empty (subst (λ r. IsDivider (first_line r)) none divider)
]
  where
    empty : IsDivider (first_line []) → ⊥
    empty h = cc

-- what follows the first line of a text is text
pub after_first_line-IsUtf8 : (text : List ℕ) → IsUtf8 text → IsUtf8 (after_first_line text)
after_first_line-IsUtf8 text u = elim (cases_lt (position_or_len is_lf text) (length text)) [
  | inl l ↦
      let lf : get_or text (position_or_len is_lf text) 0 ≡ 10 = eqb-true _ _ (passes_at_first is_lf text 0 l) in
      IsUtf8-drop text (position_or_len is_lf text + 1) u (IsCharBoundary-after_ascii text (position_or_len is_lf text) u l (omega (arith, lf)))
  | inr l ↦ rw (drop_of_length-le text {i = position_or_len is_lf text + 1} (omega (arith, l))) IsUtf8-nil
]

pub not_empty : (xs : List ℕ) → false ≡ eqb (length xs) 0 → 0 < length xs
not_empty [] e = absurd (cc)
not_empty (x ∷ xs) e = omega arith

pub is_empty : (xs : List ℕ) → true ≡ eqb (length xs) 0 → xs ≡ []
is_empty [] e = refl
is_empty (x ∷ xs) e = let none : length (x ∷ xs) ≡ 0 = eqb-true (length (x ∷ xs)) 0 (sym e) in absurd (omega (arith, none))

pub length-after_first_line : (text : List ℕ) → 0 < length text → length (after_first_line text) < length text
length-after_first_line text some = omega (arith, length-drop (position_or_len is_lf text + 1) text)
