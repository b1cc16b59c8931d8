use Rattle.zeb_engine.proofs.Cited.{◌≡◌, ◌∙◌, ◌++◌, ◌∷◌, ◌<◌, [], rules, arith, ap, ap₂, sym, map, length, get_or, slice_get, string_bytes, unwrap_or, take_more, map-append, unwrap_or-slice_get, index_names}
use Rattle.zeb_engine.proofs.analysis.index_names.Goals as goal

pub loop-index-preserved : goal.loop-index-preserved
loop-index-preserved c =
    let names = index_names c.args.profile.now in
    let index = c.loop-index.index in
    let less : index < length names = omega (arith, c.loop-index-test.true, c.index_count-index-end.ensures) in
    let name : c.unwrap_or-name.result.now ≡ unwrap_or (slice_get names index) [] = search rules in
    let here : string_bytes c.in_ok-from_str.field-0 ≡ get_or names index [] = c.in_ok-from_str.ensures.ok ∙ name ∙ unwrap_or-slice_get names index [] in
    ap (map string_bytes) c.in_ok-push.ensures.items
    ∙ map-append string_bytes c.loop-index.names.items (c.in_ok-from_str.field-0 ∷ [])
    ∙ ap₂ (λ xs x. xs ++ x ∷ []) c.loop-index.invariant here
    ∙ sym (take_more names index [] less)
