-- Finding a pattern's pieces from the front finds a match wherever there is one.
use Rattle.zeb_text.proofs.Cited.{◌≡◌, ◌↔◌, ℕ, ◌-◌, ◌≤◌, List, [], ◌∷◌, ◌++◌, length, take, drop, refl, sym, ap, subst, ◌∙◌, arith, inl, inr, chars, IsUtf8, encode_utf8_all, None, cases_lt, append_assoc, append_cancel_left, length-append, drop_at, take-append-drop, chars-append, encodes-append, encodes-chars, length-le-encodes, IsUtf8-take, IsUtf8-drop, IsUtf8-append, IsCharBoundary-at_seam, IsCharBoundary, FindsText, LacksTextAt, SplitsAroundMatch, FindsTextSuffix, HasSuffixMatch, Symbol, Star, literal, Matches}

-- a text before the rest of a pattern
pub after_literal : (front : List ℕ) (pattern : List Symbol) (text : List ℕ) → Matches (literal front ++ pattern) text → (rest : List ℕ) × (text ≡ front ++ rest) × Matches pattern rest
after_literal [] pattern text m = (text, refl, m)
after_literal (c ∷ front) pattern text m =
    let inner = after_literal front pattern m.0 m.2 in
    (inner.0, m.1 ∙ ap (λ rest. c ∷ rest) inner.1, inner.2)

pub before_rest : (front : List ℕ) (pattern : List Symbol) (text rest : List ℕ) → text ≡ front ++ rest → Matches pattern rest → Matches (literal front ++ pattern) text
before_rest [] pattern text rest e m = subst (Matches pattern) (sym e) m
before_rest (c ∷ front) pattern text rest e m = (front ++ rest, e, before_rest front pattern (front ++ rest) rest refl m)

pub literal-same : (front text : List ℕ) → Matches (literal front) text → text ≡ front
literal-same [] text m = m
literal-same (c ∷ front) text m = m.1 ∙ ap (λ rest. c ∷ rest) (literal-same front m.0 m.2)

pub same-literal : (front text : List ℕ) → text ≡ front → Matches (literal front) text
same-literal [] text e = e
same-literal (c ∷ front) text e = (front, e, same-literal front front refl)

-- of two ways to cut a text, the one further on goes through what the other leaves
overlap : (a b c d : List ℕ) → a ++ b ≡ c ++ d → length a ≤ length c → (e : List ℕ) × (c ≡ a ++ e) × (b ≡ e ++ d)
overlap [] b c d same short = (c, refl, same)
overlap (x ∷ a) b [] d same short = absurd (omega arith)
overlap (x ∷ a) b (y ∷ c) d same short =
    let tails : a ++ b ≡ c ++ d = cc in
    let heads : y ≡ x = cc in
    let inner = overlap a b c d tails (omega arith) in
    (inner.0, ap (λ z. z ∷ c) heads ∙ ap (λ rest. x ∷ rest) inner.1, inner.2)

-- a text's characters cut, and its bytes
pub cut_bytes : (text front : List ℕ) (gap after : List ℕ) → IsUtf8 text → IsUtf8 front → chars text ≡ gap ++ (chars front ++ after) → text ≡ encode_utf8_all gap ++ (front ++ encode_utf8_all after)
cut_bytes text front gap after text_utf8 front_utf8 e =
    sym (encodes-chars text text_utf8) ∙ ap encode_utf8_all e ∙ encodes-append gap (chars front ++ after)
    ∙ ap (λ bytes. encode_utf8_all gap ++ bytes) (encodes-append (chars front) after ∙ ap (λ bytes. bytes ++ encode_utf8_all after) (encodes-chars front front_utf8))

pub cut_chars : (text before front after : List ℕ) → IsUtf8 before → IsUtf8 front → text ≡ before ++ (front ++ after) → chars text ≡ chars before ++ (chars front ++ chars after)
cut_chars text before front after before_utf8 front_utf8 e =
    ap chars e ∙ chars-append before (front ++ after) before_utf8 ∙ ap (λ cs. chars before ++ cs) (chars-append front after front_utf8)

-- the place of a piece that stands after a gap
at_gap : (piece text : List ℕ) (gap after : List ℕ) → IsUtf8 text → IsUtf8 piece → chars text ≡ gap ++ (chars piece ++ after) → drop (length (encode_utf8_all gap)) text ≡ piece ++ encode_utf8_all after
at_gap piece text gap after text_utf8 piece_utf8 e =
    let bytes = cut_bytes text piece gap after text_utf8 piece_utf8 e in
    ap (drop (length (encode_utf8_all gap))) bytes ∙ drop_at (encode_utf8_all gap) (piece ++ encode_utf8_all after) (length (encode_utf8_all gap)) refl

-- the parts of a text that is cut at a piece
parts_whole : (piece text before after : List ℕ) → SplitsAroundMatch (FindsText piece) text before after → text ≡ before ++ (piece ++ after)
parts_whole piece text before after cut =
    let i = cut.0 in
    sym (take-append-drop i text) ∙ ap (λ front. front ++ drop i text) (sym cut.3) ∙ ap (λ rest. before ++ rest) (cut.2.1.split ∙ ap (λ rest. piece ++ rest) (sym cut.4))

pub after_is_utf8 : (piece text before after : List ℕ) → IsUtf8 text → SplitsAroundMatch (FindsText piece) text before after → IsUtf8 after
after_is_utf8 piece text before after text_utf8 cut =
    subst IsUtf8 (sym cut.4) (IsUtf8-drop text cut.1 text_utf8 (subst (IsCharBoundary text) (sym cut.2.1.ends) cut.2.1.after))

pub before_is_utf8 : (piece text before after : List ℕ) → IsUtf8 text → IsUtf8 piece → SplitsAroundMatch (FindsText piece) text before after → IsUtf8 before
before_is_utf8 piece text before after text_utf8 piece_utf8 cut =
    let rest = IsUtf8-append piece after piece_utf8 (after_is_utf8 piece text before after text_utf8 cut) in
    let seam = IsCharBoundary-at_seam text before (piece ++ after) (parts_whole piece text before after cut) rest in
    subst IsUtf8 (ap (λ i. take i text) cut.6 ∙ sym cut.3) (IsUtf8-take text (length before) text_utf8 seam)

module _ (piece text : List ℕ) (text_utf8 : IsUtf8 text) (piece_utf8 : IsUtf8 piece) (pattern : List Symbol) where
  -- a match puts the piece at some place of the text's bytes
  placed : Matches (Star ∷ (literal (chars piece) ++ pattern)) (chars text) → (gap : List ℕ) × (after : List ℕ) × (chars text ≡ gap ++ (chars piece ++ after)) × Matches pattern after
  placed m =
      let found = after_literal (chars piece) pattern m.1 m.3 in
      (m.0, found.0, m.2 ∙ ap (λ rest. m.0 ++ rest) found.1, found.2)

  gap_fits : (gap after : List ℕ) → chars text ≡ gap ++ (chars piece ++ after) → length (encode_utf8_all gap) ≤ length text
  gap_fits gap after e =
      omega (arith, ap length (cut_bytes text piece gap after text_utf8 piece_utf8 e), length-append (encode_utf8_all gap) (piece ++ encode_utf8_all after))

  -- a piece that is nowhere in the text
  pub missing : FindsText piece text None → ¬ (Matches (Star ∷ (literal (chars piece) ++ pattern)) (chars text))
  missing none m =
      let p = placed m in
      none (length (encode_utf8_all p.0)) (gap_fits p.0 p.1 p.2) (encode_utf8_all p.1) (at_gap piece text p.0 p.1 text_utf8 piece_utf8 p.2)

  module _ (before after : List ℕ) (before_utf8 : IsUtf8 before) (cut : SplitsAroundMatch (FindsText piece) text before after) where
    whole_chars : chars text ≡ chars before ++ (chars piece ++ chars after)
    whole_chars = cut_chars text before piece after before_utf8 piece_utf8 (parts_whole piece text before after cut)

    -- no gap is shorter than what stands before the first place
    not_sooner : (gap rest : List ℕ) → chars text ≡ gap ++ (chars piece ++ rest) → length (chars before) ≤ length gap
    not_sooner gap rest e =
        elim (cases_lt (length gap) (length (chars before))) [
          | inl short ↦
              let o = overlap gap (chars piece ++ rest) (chars before) (chars piece ++ chars after) (sym e ∙ whole_chars) (omega arith) in
              let chars_len = ap length o.1 ∙ length-append gap o.0 in
              let bytes_are = sym (encodes-chars before before_utf8) ∙ ap encode_utf8_all o.1 ∙ encodes-append gap o.0 in
              let bytes_len = ap length bytes_are ∙ length-append (encode_utf8_all gap) (encode_utf8_all o.0) in
              absurd (cut.2.0 (length (encode_utf8_all gap)) (omega (arith, length-le-encodes o.0, cut.6)) (encode_utf8_all rest) (at_gap piece text gap rest text_utf8 piece_utf8 e))
          | inr long ↦ long
        ]

    -- what is left after the first place ends in what any other choice leaves
    pub first_place : (gap rest : List ℕ) → chars text ≡ gap ++ (chars piece ++ rest) → (more : List ℕ) × (chars after ≡ more ++ rest)
    first_place gap rest e =
        let o = overlap (chars before) (chars piece ++ chars after) gap (chars piece ++ rest) (sym whole_chars ∙ e) (not_sooner gap rest e) in
        let behind = overlap (chars piece) (chars after) (o.0 ++ chars piece) rest (o.2 ∙ sym (append_assoc o.0 (chars piece) rest)) (omega (arith, length-append o.0 (chars piece))) in
        (behind.0, behind.2)

-- after the first place of the piece there is a match wherever there is one after some place
pub found : (piece text : List ℕ) (pattern : List Symbol) (before after : List ℕ) → IsUtf8 text → IsUtf8 piece → IsUtf8 before → SplitsAroundMatch (FindsText piece) text before after
    → (Matches (Star ∷ (literal (chars piece) ++ Star ∷ pattern)) (chars text)) ↔ (Matches (Star ∷ pattern) (chars after))
found piece text pattern before after text_utf8 piece_utf8 before_utf8 cut = (
  λ m. let p = placed piece text text_utf8 piece_utf8 (Star ∷ pattern) m in
      let f = first_place piece text text_utf8 piece_utf8 pattern before after before_utf8 cut p.0 p.1 p.2 in
      (f.0 ++ p.3.0, p.3.1, f.1 ∙ ap (λ rest. f.0 ++ rest) p.3.2 ∙ sym (append_assoc f.0 p.3.0 p.3.1), p.3.3),
  λ m. (
    chars before,
    chars piece ++ chars after,
    whole_chars piece text text_utf8 piece_utf8 pattern before after before_utf8 cut,
    before_rest (chars piece) (Star ∷ pattern) (chars piece ++ chars after) (chars after) refl m,
  ),
)

-- a text at the front
pub stripped : (front text rest : List ℕ) (pattern : List Symbol) → IsUtf8 text → IsUtf8 front → text ≡ front ++ rest → (Matches (literal (chars front) ++ pattern) (chars text)) ↔ (Matches pattern (chars rest))
stripped front text rest pattern text_utf8 front_utf8 e =
    let cs : chars text ≡ chars front ++ chars rest = ap chars e ∙ chars-append front rest front_utf8 in (
      λ m. let inner = after_literal (chars front) pattern (chars text) m in
          subst (Matches pattern) (append_cancel_left (chars front) inner.0 (chars rest) (sym inner.1 ∙ cs)) inner.2,
      λ m. before_rest (chars front) pattern (chars text) (chars rest) cs m,
    )

pub not_in_front : (front text : List ℕ) (pattern : List Symbol) → IsUtf8 text → IsUtf8 front → LacksTextAt front text 0 → ¬ (Matches (literal (chars front) ++ pattern) (chars text))
not_in_front front text pattern text_utf8 front_utf8 lacks m =
    let inner = after_literal (chars front) pattern (chars text) m in
    lacks (encode_utf8_all inner.0) (cut_bytes text front [] inner.0 text_utf8 front_utf8 inner.1)

-- a text at the end
pub ends_in : (text last : List ℕ) → IsUtf8 text → IsUtf8 last → HasSuffixMatch (FindsTextSuffix last) text → Matches (Star ∷ literal (chars last)) (chars text)
ends_in text last text_utf8 last_utf8 suffix =
    let k = suffix.0 in
    let front = take (length text - k) text in
    (chars front, chars last, ap chars suffix.1.1 ∙ chars-append front last (IsUtf8-take text (length text - k) text_utf8 suffix.3), same-literal (chars last) (chars last) refl)

pub not_at_end : (text last : List ℕ) → IsUtf8 text → IsUtf8 last → FindsTextSuffix last text None → ¬ (Matches (Star ∷ literal (chars last)) (chars text))
not_at_end text last text_utf8 last_utf8 none m =
    let e = m.2 ∙ ap (λ rest. m.0 ++ rest) (literal-same (chars last) m.1 m.3) in
    none (encode_utf8_all m.0)
    (sym (encodes-chars text text_utf8) ∙ ap encode_utf8_all e ∙ encodes-append m.0 (chars last) ∙ ap (λ bytes. encode_utf8_all m.0 ++ bytes) (encodes-chars last last_utf8))
