use Rattle.zeb_text.proofs.Cited.{◌≡◌, ◌↔◌, List, [], ◌∷◌, ◌++◌, length, Bool, true, false, chars, string_bytes, sym, ap, ◌∙◌, subst, IsTrue, encode_utf8_all, MatchBool, refl, false≢true, nil_from_length, encodes-chars, bytes_decides, Symbol, Star, literal, starred, texts_of, Matches}
use Rattle.zeb_text.proofs.MatchLemmas.{literal-same, same-literal, stripped, not_in_front, ends_in, not_at_end}
use Rattle.zeb_text.proofs.patterns.Pattern.matches.Goals as goal
use Rattle.zeb_text.proofs.patterns.Pattern.matches.Goals.{After-as_str-2, In-Some-strip_prefix}

-- a test that answers for a fact
from_cases : (r : Bool) (Yes Match : Type 0) (No : Type 0) → MatchBool r Yes No → (Yes → Match) → (No → ¬ Match) → IsTrue r ↔ Match
from_cases true Yes Match No cases yes' no' = (λ _. yes' cases, λ _. refl)
from_cases false Yes Match No cases yes' no' = (λ h. absurd (false≢true h), λ m. absurd (no' cases m))

never : (Match : Type 0) → ¬ Match → IsTrue false ↔ Match
never Match not' = (λ h. absurd (false≢true h), λ m. absurd (not' m))

pub returns-in_default : goal.returns-in_default
returns-in_default c =
    let last = c.self.inside.last in
    let none : c.self.inside.before_stars.items ≡ [] = nil_from_length c.self.inside.before_stars.items (ap length (sym c.as_slice.ensures.value) ∙ c.in_default.ensures.cases) in
    let same = bytes_decides c.as_str.result.now c.args.text.now in
    let pattern : c.args.self.now ≡ literal (chars c.as_str.result.now) =
    sym c.self.view_is ∙ ap (λ texts. starred (texts_of texts) (chars (string_bytes last))) none ∙ ap (λ bytes. literal (chars bytes)) (sym c.as_str.ensures.value) in
    rw pattern (
      λ h. same-literal (chars c.as_str.result.now) (chars c.args.text.now) (ap chars (sym (same.0 (sym c.eq.ensures ∙ h)))),
      λ m. c.eq.ensures ∙ same.1 (sym (encodes-chars c.as_str.result.now c.as_str.utf8) ∙ ap encode_utf8_all (sym (literal-same (chars c.as_str.result.now) (chars c.args.text.now) m)) ∙ encodes-chars c.args.text.now c.utf8.text),
    )

-- the pattern, where a star stands after its first piece
pattern_is : (c : After-as_str-2) → c.args.self.now ≡ literal (chars c.as_str-2.result.now) ++ Star ∷ starred (texts_of c.in-Some.inner.now) (chars (string_bytes c.self.inside.last))
pattern_is c =
    let last = chars (string_bytes c.self.inside.last) in
    sym c.self.view_is ∙ ap (λ texts. starred (texts_of texts) last) (sym c.as_slice.ensures.value ∙ c.in-Some.ensures.cases.0)
    ∙ ap (λ bytes. literal (chars bytes) ++ Star ∷ starred (texts_of c.in-Some.inner.now) last) (sym c.as_str-2.ensures.value)

pub returns-in_default-strip_prefix : goal.returns-in_default-strip_prefix
returns-in_default-strip_prefix c =
    let pattern = pattern_is (goal.at.returns-in_default-strip_prefix c).After-as_str-2 in
    rw pattern (never _ (not_in_front c.as_str-2.result.now c.args.text.now (Star ∷ starred (texts_of c.in-Some.inner.now) (chars (string_bytes c.self.inside.last))) c.utf8.text c.as_str-2.utf8 c.in_default-strip_prefix.ensures.cases))

-- what is left after the first piece
after_first : (c : In-Some-strip_prefix) → (pattern : List Symbol) → c.args.self.now ≡ literal (chars c.as_str-2.result.now) ++ pattern → Matches c.args.self.now (chars c.args.text.now) ↔ Matches pattern (chars c.in-Some-strip_prefix.rest.now)
after_first c pattern e =
    let cut = c.in-Some-strip_prefix.ensures.cases in
    rw e (stripped c.as_str-2.result.now c.args.text.now c.in-Some-strip_prefix.rest.now pattern c.utf8.text c.as_str-2.utf8 (cut.1.1 ∙ ap (λ rest. c.as_str-2.result.now ++ rest) (sym cut.2)))

pub returns-in-Some-after_pieces : goal.returns-in-Some-after_pieces
returns-in-Some-after_pieces c =
    let last = c.as_str-in-Some-after_pieces.result.now in
    let rest = c.in-Some-after_pieces.rest.now in
    let utf8 = c.in-Some-after_pieces.ensures.text in
    let end = from_cases c.ends_with.result _ _ _ c.ends_with.ensures.cases (ends_in rest last utf8 c.as_str-in-Some-after_pieces.utf8) (not_at_end rest last utf8 c.as_str-in-Some-after_pieces.utf8) in
    let ended = subst (λ bytes. IsTrue c.ends_with.result ↔ Matches (Star ∷ literal (chars bytes)) (chars rest)) c.as_str-in-Some-after_pieces.ensures.value end in
    let pieces = c.in-Some-after_pieces.ensures.rest (chars (string_bytes c.self.inside.last)) in
    let first = after_first (goal.at.returns-in-Some-after_pieces c).In-Some-strip_prefix _ (pattern_is (goal.at.returns-in-Some-after_pieces c).After-as_str-2) in
    (λ h. first.1 (pieces.1 (ended.0 h)), λ m. ended.1 (pieces.0 (first.0 m)))

pub returns-in-None : goal.returns-in-None
returns-in-None c =
    let first = after_first (goal.at.returns-in-None c).In-Some-strip_prefix _ (pattern_is (goal.at.returns-in-None c).After-as_str-2) in
    never _ (λ m. c.in-None.ensures.rest (chars (string_bytes c.self.inside.last)) (first.0 m))
