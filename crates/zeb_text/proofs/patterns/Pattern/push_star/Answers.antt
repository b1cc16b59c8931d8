use Rattle.zeb_text.proofs.Cited.{◌++◌, [], ◌∷◌, ap, ◌∙◌, chars, map, string_bytes, map-append, chars-nil, Star}
use Rattle.zeb_text.proofs.SymbolLemmas.{starred-star}
use Rattle.zeb_text.proofs.patterns.Pattern.push_star.Goals as goal

pub returns : goal.returns
returns c =
    let texts = map (λ s. chars (string_bytes s)) c.self.inside.before_stars.items in
    rw (c.in_ok-push.ensures.items, c.replace-text.ensures.value, c.replace-text.ensures.after, c.new.ensures.bytes, map-append, chars-nil)
    (starred-star texts (chars (string_bytes c.self.inside.last)) ∙ ap (λ front. front ++ Star ∷ []) c.self.view_is)
