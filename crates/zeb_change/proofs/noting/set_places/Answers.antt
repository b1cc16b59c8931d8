use Rattle.zeb_change.proofs.Cited.{◌∙◌, ◌++◌, ◌∷◌, [], List, ap, map, sym, take, take_more, map-append, Occurrence, Place, place_in}
use Rattle.zeb_change.proofs.noting.set_places.Goals as goal

pub loop-occurrence-preserved : goal.loop-occurrence-preserved
loop-occurrence-preserved c =
    let all = c.args.occurrences.now in
    let index = c.loop-occurrence.occurrence-index in
    let item = c.occurrence-item.result in
    let more = take_more all index item c.loop-occurrence-test.true ∙ ap (λ (o : Occurrence). take index all ++ o ∷ []) (sym c.occurrence-item.is) in
    record {
      so_far = c.in_ok-push.ensures.items ∙ ap (λ (l : List Place). l ++ place_in item ∷ []) c.loop-occurrence.invariant.so_far
          ∙ sym (ap (λ (l : List Occurrence). map place_in l) more ∙ map-append place_in (take index all) (item ∷ []));
    }
