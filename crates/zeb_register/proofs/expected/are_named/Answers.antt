use Rattle.zeb_register.proofs.Cited.{◌<◌, ◌∙◌, sym, ap, map, length, arith, expected_name, listed_name}
use Rattle.zeb_register.proofs.ListsInStep.{alike_at, alike_more, take_all}
use Rattle.zeb_register.proofs.expected.are_named.Goals as goal

pub loop-at-preserved : goal.loop-at-preserved
loop-at-preserved c =
    let within : c.loop-at.at < length c.args.databases.now = omega (arith, c.loop-at-test.true, c.loop-at.invariant.1) in
    (alike_more listed_name expected_name c.args.listed.now c.args.databases.now c.loop-at.at _ _ c.index-listed-at.is c.index-databases-at.is c.loop-at-test.true within c.loop-at.invariant.0 (c.is_named.ensures.same c.if-not-is_named.false), c.loop-at.invariant.1)

pub returns-then-not-is_named-clause-other : goal.returns-then-not-is_named-clause-other
returns-then-not-is_named-clause-other c is same =
    let within : c.loop-at.at < length c.args.databases.now = omega (arith, c.loop-at-test.true, c.loop-at.invariant.1) in
    c.is_named.ensures.other c.if-not-is_named.true (alike_at listed_name expected_name c.args.listed.now c.args.databases.now c.loop-at.at _ _ c.index-listed-at.is c.index-databases-at.is c.loop-at-test.true within same)

pub returns-clause-same : goal.returns-clause-same
returns-clause-same c is = ap (map listed_name) (sym (take_all c.loop-at.at c.args.listed.now (omega arith))) ∙ c.loop-at.invariant.0 ∙ ap (map expected_name) (take_all c.loop-at.at c.args.databases.now (omega arith))
