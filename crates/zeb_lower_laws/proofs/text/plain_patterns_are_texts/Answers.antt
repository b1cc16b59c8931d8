use Rattle.zeb_text.proofs.Cited.{◌≡◌, ℕ, List, [], ◌∷◌, ◌++◌, map, refl, sym, ap, ◌∙◌, join_with_byte, map-append, Char, literal, joined_patterns}
use Rattle.zeb_text.specs.Words.{words_of}
use Rattle.zeb_text.specs.Truncation.{truncated}
use Rattle.zeb_text.proofs.MatchLemmas.{literal-same, same-literal}
use Rattle.zeb_lower_laws.proofs.text.plain_patterns_are_texts.Goals as goal

joined-literals : (texts : List (List ℕ)) → joined_patterns (map literal texts) ≡ literal (join_with_byte 32 texts)
joined-literals [] = refl
joined-literals (text ∷ []) = refl
joined-literals (text ∷ next ∷ texts) =
    ap (λ rest. literal text ++ Char 32 ∷ rest) (joined-literals (next ∷ texts)) ∙ sym (map-append Char text (32 ∷ join_with_byte 32 (next ∷ texts)))

pub returns : goal.returns
unfolding truncated
returns c = record {
  matching = λ text other. (literal-same text other, same-literal text other);
  joined = λ spread term. joined-literals (words_of term);
}
