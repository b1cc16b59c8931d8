use Rattle.zeb_text.proofs.Cited.{◌≡◌, ◌++◌, ap, ◌∙◌, chars, map, string_bytes, IsUtf8-string_bytes, literal, starred}
use Rattle.zeb_text.proofs.SymbolLemmas.{on_ok, starred-text}
use Rattle.zeb_text.proofs.patterns.Pattern.push_text.Goals as goal

pub returns : goal.returns
returns c =
    let texts = map (λ s. chars (string_bytes s)) c.self.inside.before_stars.items in
    let last = c.self.inside.last in
    let text = c.args.text.now in
    on_ok (λ bytes. starred texts (chars bytes) ≡ c.args.self.now ++ literal (chars text)) c.push_str.result _ _ _ c.push_str.ensures.bytes
    (starred-text texts (string_bytes last) text (IsUtf8-string_bytes last) ∙ ap (λ front. front ++ literal (chars text)) c.self.view_is)
