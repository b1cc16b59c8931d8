-- The lines of a text that is made of lines.
use Rattle.zeb_profile.proofs.Cited.{◌≡◌, ℕ, ◌==◌, inl, inr, ◌-◌, ◌<◌, ◌≢◌, List, [], ◌∷◌, ◌++◌, length, Bool, false, arith, refl, ap, ◌∙◌, get_or, All, position_or_len, slice_split, suffix_len, onto_first, lines, lines_of_parts, strip_carriage_return, cases_Bool, ne_eqb, All-cons, All-drop, All-head, All-nil, All-tail, All-take, slice_split_at, slice_split_none, slice_split-cons_no, slice_split-cons_yes, is_blank, is_no_blank, trimmed, without_leading_blanks}

-- the test of an LF
abbrev pub is_line_feed : ℕ → Bool
is_line_feed byte = byte == 10

-- a line: no LF in it
abbrev pub IsOneLine : List ℕ → Type 0
IsOneLine line = All (λ b. is_line_feed b ≡ false) line

-- there is always a part
nonempty_parts : (bs : List ℕ) → (first : List ℕ) × (others : List (List ℕ)) × (slice_split is_line_feed bs ≡ first ∷ others)
nonempty_parts [] = ([], [], refl)
nonempty_parts (b ∷ bs) =
    elim (cases_Bool (is_line_feed b)) [
      | inl e ↦ ([], slice_split is_line_feed bs, slice_split-cons_yes is_line_feed b bs e)
      | inr e ↦
          let rest = nonempty_parts bs in
          (b ∷ rest.0, rest.1, slice_split-cons_no is_line_feed b bs e ∙ ap (onto_first b) rest.2)
    ]

lines_of_two : (line : List ℕ) (parts : List (List ℕ)) (first : List ℕ) (others : List (List ℕ)) → parts ≡ first ∷ others → lines_of_parts (line ∷ parts) ≡ strip_carriage_return line ∷ lines_of_parts parts
lines_of_two line parts first others e = rw e refl

-- the first line of a text, which ends with no CR
pub lines-first : (line rest : List ℕ) → IsOneLine line → get_or line (length line - 1) 0 ≢ 13 → lines (line ++ 10 ∷ rest) ≡ line ∷ lines rest
lines-first line rest one plain =
    let some = nonempty_parts rest in
    let kept : strip_carriage_return line ≡ line = rw (ne_eqb (get_or line (length line - 1) 0) 13 plain) refl in
    ap lines_of_parts (slice_split_at is_line_feed line 10 rest one refl)
    ∙ lines_of_two line (slice_split is_line_feed rest) some.0 some.1 some.2
    ∙ ap (λ first. first ∷ lines rest) kept

-- a last line that isn't ended
pub lines-last : (line : List ℕ) → IsOneLine line → 0 < length line → lines line ≡ line ∷ []
lines-last line one some =
    ap lines_of_parts (slice_split_none is_line_feed line one)
    ∙ rw (ne_eqb (length line) 0 (λ e. absurd (omega (arith, e)))) refl

-- ---- no line has an LF
strip_one_line : (line : List ℕ) → IsOneLine line → IsOneLine (strip_carriage_return line)
strip_one_line line one =
    elim (cases_Bool (get_or line (length line - 1) 0 == 13)) [
      | inl e ↦ rw e (All-take (λ b. is_line_feed b ≡ false) (length line - 1) line one)
      | inr e ↦ rw e one
    ]

onto_first_one_line : (b : ℕ) (parts : List (List ℕ)) → is_line_feed b ≡ false → All IsOneLine parts → All IsOneLine (onto_first b parts)
onto_first_one_line b [] h one = All-cons IsOneLine (b ∷ []) [] (All-cons (λ b. is_line_feed b ≡ false) b [] h (All-nil (λ b. is_line_feed b ≡ false))) (All-nil IsOneLine)
onto_first_one_line b (part ∷ parts) h one =
    All-cons IsOneLine (b ∷ part) parts (All-cons (λ b. is_line_feed b ≡ false) b part h (All-head IsOneLine part parts one)) (All-tail IsOneLine part parts one)

parts_one_line : (bs : List ℕ) → All IsOneLine (slice_split is_line_feed bs)
parts_one_line [] = All-cons IsOneLine [] [] (All-nil (λ b. is_line_feed b ≡ false)) (All-nil IsOneLine)
parts_one_line (b ∷ bs) =
    elim (cases_Bool (is_line_feed b)) [
      | inl e ↦ rw (slice_split-cons_yes is_line_feed b bs e) (All-cons IsOneLine [] (slice_split is_line_feed bs) (All-nil (λ b. is_line_feed b ≡ false)) (parts_one_line bs))
      | inr e ↦ rw (slice_split-cons_no is_line_feed b bs e) (onto_first_one_line b (slice_split is_line_feed bs) e (parts_one_line bs))
    ]

lines_of_parts_one_line : (parts : List (List ℕ)) → All IsOneLine parts → All IsOneLine (lines_of_parts parts)
lines_of_parts_one_line [] one = one
lines_of_parts_one_line (x ∷ []) one =
    elim (cases_Bool (length x == 0)) [
      | inl e ↦ rw e (All-nil IsOneLine)
      | inr e ↦ rw e one
    ]
lines_of_parts_one_line (x ∷ y ∷ more) one =
    All-cons IsOneLine (strip_carriage_return x) (lines_of_parts (y ∷ more)) (strip_one_line x (All-head IsOneLine x (y ∷ more) one)) (lines_of_parts_one_line (y ∷ more) (All-tail IsOneLine x (y ∷ more) one))

pub lines_one_line : (bs : List ℕ) → All IsOneLine (lines bs)
lines_one_line bs = lines_of_parts_one_line (slice_split is_line_feed bs) (parts_one_line bs)

-- nor has a line without the blanks at its ends
pub trimmed_one_line : (line : List ℕ) → IsOneLine line → IsOneLine (trimmed line)
trimmed_one_line line one =
    let no = λ (b : ℕ). is_line_feed b ≡ false in
    let start : List ℕ = without_leading_blanks line in
    All-take no (length start - suffix_len is_blank start) start (All-drop no (position_or_len is_no_blank line) line one)
