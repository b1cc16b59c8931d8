use Rattle.zeb_packed.proofs.Cited.{arith, inl, inr}
use Rattle.sqlite_rules.proofs.ListLemmas.{has_at}
use Rattle.zeb_packed.proofs.OpenLooks.{behind_some, look_found, look_refused}
use Rattle.zeb_packed.proofs.held_rows.all_absent.Goals as goal

pub loop-one-preserved : goal.loop-one-preserved
loop-one-preserved g c = inr (behind_some c.loop-one.invariant (look_found c.in_ok-one_absent.ensures (λ trees lacks. tt)))

pub returns-in_err-one_absent : goal.returns-in_err-one_absent
returns-in_err-one_absent g c = behind_some c.loop-one.invariant (look_refused _ c.in_err-one_absent.ensures c.from_residual.ensures.1
    (λ trees stands is. (c.one-item.result, has_at c.args.blocks.now c.loop-one.one-index c.one-item.result c.loop-one-test.true c.one-item.is, stands is)))

pub returns : goal.returns
returns g c = elim c.loop-one.invariant [ inl none ↦ absurd (omega (arith, c.requires, c.loop-one-test.false, none.0)) | inr looks ↦ looks ]
