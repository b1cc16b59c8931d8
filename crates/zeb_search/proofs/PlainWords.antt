-- A phrase of one word without stars holds where the record has the word's key.
use Rattle.zeb_search.proofs.Cited.{◌≡◌, ◌↔◌, ◌∙◌, ℕ, false, Bool, true, List, [], ◌∷◌, IsUtf8, chars, encode_utf8_all, refl, sym, ap, subst, encodes-chars, Symbol, literal, literal-same, same-literal, PhraseOf, Key, Occurrence, TermIn, Fits, TermHolds}
use Rattle.zeb_keys.specs.declared.Register.TheVariants as register

-- a text that a pattern without stars matches is the pattern's
pub literal_fits : (term other : List ℕ) → IsUtf8 term → Fits (literal (chars term)) other → other ≡ term
literal_fits term other utf8 fits =
    let same : chars other ≡ chars term = literal-same (chars term) (chars other) fits.1 in
    sym (encodes-chars other fits.0) ∙ ap encode_utf8_all same ∙ encodes-chars term utf8

pub fits_literal : (term : List ℕ) → IsUtf8 term → Fits (literal (chars term)) term
fits_literal term utf8 = (utf8, same-literal (chars term) (chars term) refl)

pub plain_word : (O : ℕ → Occurrence → Type 0) (K : ℕ → Type 0) (index : ℕ) (term : List ℕ) → IsUtf8 term → (n : ℕ)
    → TermHolds O K (PhraseOf index (literal (chars term) ∷ []) false) n ↔ TermIn O index register.Word term n
plain_word O K index term utf8 n = (
  λ h. subst (λ (t : List ℕ). TermIn O index register.Word t n) (literal_fits term h.1.3.0.0 utf8 h.1.3.0.2) (_, h.1.3.0.1, refl),
  λ has. (
    λ none. let e : ◌≡◌ {A = List (List Symbol)} (literal (chars term) ∷ []) [] = none in absurd cc,
    (
      has.0.seq,
      has.0.pos,
      λ is_first. let e : ◌≡◌ {A = Bool} false true = is_first in absurd cc,
      ((term, subst (λ (k : Key). O n (record { key = k; seq = has.0.seq; pos = has.0.pos })) has.2 has.1, fits_literal term utf8), tt),
    ),
  ),
)
