use Rattle.zeb_register.proofs.Cited.{rules, ◌≡◌, ◌<◌, ◌∙◌, ap, length, arith, Ok, Err, first_two}
use Rattle.zeb_register.proofs.ContentLemmas.{has_at}
use Rattle.zeb_register.proofs.PlaceLemmas.{both_more, same_at}
use Rattle.zeb_register.proofs.plain_changes.are_places.Goals as goal

pub loop-at-preserved : goal.loop-at-preserved
loop-at-preserved c =
    let within : c.loop-at.at < length c.args.places.now = omega (arith, c.loop-at-test.true, c.loop-at.invariant.1) in
    (both_more c.args.rows.now c.args.places.now c.loop-at.at _ _ c.index-rows-at.is c.loop-at-test.true within c.loop-at.invariant.0 (c.in_ok-is_place.ensures.same (ap Ok c.if-not-branch.false)), c.loop-at.invariant.1)

pub returns-in_err-is_place-clause-refused : goal.returns-in_err-is_place-clause-refused
returns-in_err-is_place-clause-refused c =
    let told : c.from_residual.result ≡ Err c.in_err-is_place.field-0.0 = search rules in
    let fault = c.in_err-is_place.ensures.refused in
    rw told (fault.0, λ known. fault.1 (known _ (has_at _ _ _ c.index-rows-at.is c.loop-at-test.true)))

pub returns-then-not-branch-clause-other : goal.returns-then-not-branch-clause-other
returns-then-not-branch-clause-other c is same =
    let within : c.loop-at.at < length c.args.places.now = omega (arith, c.loop-at-test.true, c.loop-at.invariant.1) in
    c.in_ok-is_place.ensures.other (ap Ok c.if-not-branch.true) (ap first_two c.index-rows-at.is ∙ same_at c.args.rows.now c.args.places.now c.loop-at.at _ _ c.loop-at-test.true within same)
