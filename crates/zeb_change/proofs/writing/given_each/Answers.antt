use Rattle.zeb_change.proofs.Cited.{◌≡◌, ◌∙◌, ◌+◌, ◌++◌, List, [], ◌∷◌, AllZip, ap, length, refl, subst₂, sym, take, take_more, TakenKey, GivenKey}
use Rattle.zeb_change.proofs.TakenKeys.{GivesTaken}
use Rattle.zeb_change.proofs.ZippedLists.{zip_more}
use Rattle.zeb_change.proofs.writing.given_each.Goals as goal

pub loop-one-preserved : goal.loop-one-preserved
loop-one-preserved c =
    let taken = c.args.taken.now in
    let index = c.loop-one.one-index in
    let one = c.one-item.result in
    let split : take (index + 1) taken ≡ take index taken ++ one ∷ [] = take_more taken index one c.loop-one-test.true ∙ ap (λ (x : TakenKey). take index taken ++ x ∷ []) (sym c.one-item.is) in
    let given = c.in_ok-changes.ensures in
    subst₂ (AllZip GivesTaken) (sym split) (sym {A = List GivenKey} c.in_ok-push.ensures.items) (zip_more GivesTaken (take index taken) c.loop-one.all.items one _ c.loop-one.invariant (record {
      same = refl;
      many = given.many ∙ ap length c.deref.ensures.value;
      rising = given.rising;
      told = λ changes counts places. given.told changes (c.deref.ensures.value ∙ counts) (c.deref-in-loop-one.ensures.value ∙ places);
    }))
