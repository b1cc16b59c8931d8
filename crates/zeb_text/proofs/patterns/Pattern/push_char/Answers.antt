use Rattle.zeb_text.proofs.Cited.{◌≡◌, ◌++◌, [], ◌∷◌, ap, ◌∙◌, chars, map, string_bytes, IsUtf8-string_bytes, Char, starred}
use Rattle.zeb_text.proofs.SymbolLemmas.{on_ok, starred-char}
use Rattle.zeb_text.proofs.patterns.Pattern.push_char.Goals as goal

pub returns : goal.returns
returns c =
    let texts = map (λ s. chars (string_bytes s)) c.self.inside.before_stars.items in
    let last = c.self.inside.last in
    on_ok (λ bytes. starred texts (chars bytes) ≡ c.args.self.now ++ Char c.args.c ∷ []) c.push.result _ _ _ c.push.ensures.bytes
    (starred-char texts (string_bytes last) c.args.c (IsUtf8-string_bytes last) c.ranges.c.0 ∙ ap (λ front. front ++ Char c.args.c ∷ []) c.self.view_is)
