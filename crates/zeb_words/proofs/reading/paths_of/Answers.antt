use Rattle.zeb_words.proofs.Cited.{rules, ◌≡◌, ◌∙◌, ap, codes, unwrap_or, IfOk-weaker, found_of, raw_values-rows, path_texts, []}
use Rattle.zeb_words.proofs.reading.paths_of.Goals as goal

pub returns-in-Some : goal.returns-in-Some
returns-in-Some c =
    IfOk-weaker c.texts_of.result _ _ (λ copies h. h ∙ ap (λ o. unwrap_or o []) (c.in-Some.ensures ∙ raw_values-rows (found_of c.args.given.now) (codes "path"))) c.texts_of.ensures

pub returns-in-None : goal.returns-in-None
returns-in-None c =
    let empty : c.new.result.items ≡ [] = search rules in
    ap path_texts empty ∙ ap (λ o. unwrap_or o []) (c.in-None.ensures ∙ raw_values-rows (found_of c.args.given.now) (codes "path"))
