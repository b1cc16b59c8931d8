use Rattle.zeb_text.proofs.Cited.{◌≡◌, ℕ, List, [], ◌∷◌, ◌++◌, map, encode_utf8_all, refl, sym, ap, ◌∙◌, lit<, encode_ascii, encodes-append, joined_text}
use Rattle.zeb_lower_laws.proofs.text.joined_texts_are_encoded.Goals as goal

joined-encoded : (words : List (List ℕ)) → joined_text (map encode_utf8_all words) ≡ encode_utf8_all (joined_text words)
joined-encoded [] = refl
joined-encoded (word ∷ []) = refl
joined-encoded (word ∷ next ∷ words) =
    let rest = joined_text (next ∷ words) in
    ap (λ text. encode_utf8_all word ++ 32 ∷ text) (joined-encoded (next ∷ words))
    ∙ ap (λ space. encode_utf8_all word ++ (space ++ encode_utf8_all rest)) (sym (encode_ascii 32 (lit< tt)))
    ∙ sym (encodes-append word (32 ∷ rest))

pub returns : goal.returns
returns c = joined-encoded
