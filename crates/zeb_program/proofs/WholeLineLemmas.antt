-- A line with its LF, and what stands behind it.
use Rattle.zeb_program.proofs.Cited.{◌≡◌, ◌<◌, ◌+◌, ◌++◌, ◌∙◌, ◌⊎◌, inl, inr, ℕ, List, [], ◌∷◌, length, take, get_or, ◌-◌, refl, ap, sym, subst, arith, eqb, eqb-true, ltb, true, false, Bool, length-take, le-ltb, lt-ltb, position_or_len, IsScalar, IsUtf8, strip_carriage_return, length-append, take_all, drop_all, append_cancel_left, IsUtf8-append, IsUtf8-encode, encode_ascii, take-append_seam, take-append-add, drop-append-add, is_lf, first_line, after_first_line, whole_first_line}
use Rattle.std.proofs.Common.{take-append-drop}
use Rattle.zeb_program.proofs.LineLemmas.{ends_in}
use Rattle.zeb_program.proofs.LineInputLemmas.{HasNoLf, position_past}

-- a text has an LF, or none
cut_at_lf : (text : List ℕ) → ((front rest : List ℕ) × HasNoLf front × (text ≡ front ++ 10 ∷ rest)) ⊎ HasNoLf text
cut_at_lf [] = inr refl
cut_at_lf (b ∷ bs) = go (eqb b 10) refl (cut_at_lf bs)
  where
    go : (t : Bool) → t ≡ eqb b 10 → ((front rest : List ℕ) × HasNoLf front × (bs ≡ front ++ 10 ∷ rest)) ⊎ HasNoLf bs
        → ((front rest : List ℕ) × HasNoLf front × (b ∷ bs ≡ front ++ 10 ∷ rest)) ⊎ HasNoLf (b ∷ bs)
    go true is later = inl ([], bs, refl, ap (λ x. x ∷ bs) (eqb-true b 10 (sym is)))
    go false is (inl (front, rest, none, e)) = inl (b ∷ front, rest, rw (sym is) (omega (arith, none)), ap (λ xs. b ∷ xs) e)
    go false is (inr none) = inr (rw (sym is) (omega (arith, none)))

module _ (front rest : List ℕ) (none : HasNoLf front) where
  at_lf : position_or_len is_lf (front ++ 10 ∷ rest) ≡ length front
  at_lf = omega (arith, position_past front (10 ∷ rest) none)

  first_with_lf : first_line (front ++ 10 ∷ rest) ≡ strip_carriage_return front
  first_with_lf =
      let lt : ltb (length front) (length (front ++ 10 ∷ rest)) ≡ true = lt-ltb _ _ (omega (arith, length-append front (10 ∷ rest))) in
      rw (at_lf, lt, take-append_seam front (10 ∷ rest)) refl

  whole_with_lf : whole_first_line (front ++ 10 ∷ rest) ≡ front ++ 10 ∷ []
  whole_with_lf = rw at_lf (take-append-add front (10 ∷ rest) 1)

  after_with_lf : after_first_line (front ++ 10 ∷ rest) ≡ rest
  after_with_lf = rw at_lf (drop-append-add front (10 ∷ rest) 1)

module _ (text : List ℕ) (none : HasNoLf text) where
  first_without : first_line text ≡ text
  first_without = let no : ltb (length text) (length text) ≡ false = le-ltb _ _ (omega arith) in rw (none, no) refl

  whole_without : whole_first_line text ≡ text
  whole_without = take_all (position_or_len is_lf text + 1) text (omega (arith, none))

  after_without : after_first_line text ≡ []
  after_without = drop_all (position_or_len is_lf text + 1) text (omega (arith, none))

-- a line with its LF is a line of its own
pub first_of_whole : (text : List ℕ) → first_line (whole_first_line text) ≡ first_line text
first_of_whole text = elim (cut_at_lf text) [
  | inl (front, rest, none, e) ↦ rw (e, whole_with_lf front rest none, first_with_lf front rest none) (first_with_lf front [] none)
  | inr none ↦ ap first_line (whole_without text none)
]

pub after_whole : (text : List ℕ) → after_first_line (whole_first_line text) ≡ []
after_whole text = elim (cut_at_lf text) [
  | inl (front, rest, none, e) ↦ rw (e, whole_with_lf front rest none) (after_with_lf front [] none)
  | inr none ↦ ap after_first_line (whole_without text none) ∙ after_without text none
]

-- what is left where the first line was taken
pub left_after_line : (text rest : List ℕ) → text ≡ whole_first_line text ++ rest → rest ≡ after_first_line text
left_after_line text rest e = sym (append_cancel_left (whole_first_line text) (after_first_line text) rest (take-append-drop (position_or_len is_lf text + 1) text ∙ e))

-- a line is empty only at the end
pub no_line_no_text : (text : List ℕ) → whole_first_line text ≡ [] → text ≡ []
no_line_no_text [] e = refl
no_line_no_text (b ∷ bs) e = absurd (omega (arith, length-take (position_or_len is_lf (b ∷ bs) + 1) (b ∷ bs), ap length e))

-- one byte of ASCII
lone_byte : (b : ℕ) → b < 128 → IsScalar b → IsUtf8 (b ∷ [])
lone_byte b low is = subst IsUtf8 (encode_ascii b low) (IsUtf8-encode b is)

-- a text is UTF-8 where it is without a CR at its end
unstripped : (xs : List ℕ) → IsUtf8 (strip_carriage_return xs) → IsUtf8 xs
unstripped xs text = go (eqb (get_or xs (length xs - 1) 0) 13) refl
  where
    go : (t : Bool) → t ≡ eqb (get_or xs (length xs - 1) 0) 13 → IsUtf8 xs
    go true is =
        let cr : get_or xs (length xs - 1) 0 ≡ 13 = eqb-true _ 13 (sym is) in
        subst IsUtf8 (sym (ends_in xs 13 (omega arith) cr)) (IsUtf8-append (take (length xs - 1) xs) (13 ∷ []) (rw (sym is) at text) (lone_byte 13 (omega arith) refl))
    go false is = rw (sym is) at text

-- a line is UTF-8 where it is without its end
pub line_is_text : (line : List ℕ) → after_first_line line ≡ [] → IsUtf8 (first_line line) → IsUtf8 line
line_is_text line alone text = elim (cut_at_lf line) [
  | inl (front, rest, none, e) ↦
      let is_front : IsUtf8 front = unstripped front (subst IsUtf8 (ap first_line e ∙ first_with_lf front rest none) text) in
      let last : rest ≡ [] = sym (after_with_lf front rest none) ∙ ap after_first_line (sym e) ∙ alone in
      subst IsUtf8 (ap (λ xs. front ++ 10 ∷ xs) (sym last) ∙ sym e) (IsUtf8-append front (10 ∷ []) is_front (lone_byte 10 (omega arith) refl))
  | inr none ↦ subst IsUtf8 (first_without line none) text
]
