use Rattle.zeb_change.proofs.Cited.{◌≡◌, ◌∙◌, ◌+◌, ◌++◌, List, [], ◌∷◌, AllZip, ap, refl, subst₂, sym, take, take_more, KeyChanges, GivenKey}
use Rattle.zeb_change.proofs.TakenKeys.{IsInRun}
use Rattle.zeb_change.proofs.ZippedLists.{zip_more}
use Rattle.zeb_change.proofs.writing.run_of.Goals as goal

pub loop-one-preserved : goal.loop-one-preserved
loop-one-preserved c =
    let given = c.args.given.now in
    let index = c.loop-one.one-index in
    let one = c.one-item.result in
    let split : take (index + 1) given ≡ take index given ++ one ∷ [] = take_more given index one c.loop-one-test.true ∙ ap (λ (x : GivenKey). take index given ++ x ∷ []) (sym c.one-item.is) in
    subst₂ (AllZip IsInRun) (sym split) (sym {A = List KeyChanges} c.in_ok-push.ensures.items) (zip_more IsInRun (take index given) c.loop-one.run.items one _ c.loop-one.invariant (refl, c.deref.ensures.value))
