use Rattle.zeb_words.proofs.Cited.{◌≡◌, ◌∙◌, [], ◌∷◌, List, ℕ, ap, bytes_eq-Decides, codes, map, string_bytes, subst, sym}
use Rattle.zeb_words.proofs.ReadingLemmas.{only_word}
use Rattle.zeb_words.proofs.words.is_help.Goals as goal

pub returns-in-len1-clause-alone : goal.returns-in-len1-clause-alone
returns-in-len1-clause-alone c = λ is.
    let same : c.as_str.result.now ≡ codes "help" = (bytes_eq-Decides c.as_str.result.now (codes "help")).0 (sym c.eq.ensures ∙ is) in
    let word : string_bytes c.word-item.result ≡ codes "help" = sym c.as_str.ensures.value ∙ same in
    let item : map string_bytes c.args.words.now ≡ string_bytes c.word-item.result ∷ [] = subst (λ w. map string_bytes c.args.words.now ≡ string_bytes w ∷ []) (sym c.word-item.is)
    (only_word c.args.words.now c.word-item.result c.in-len1.len_at_least c.in-len1.len_below) in
    item ∙ ap (λ (t : List ℕ). t ∷ []) word
