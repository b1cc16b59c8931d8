-- A group is counted, and then the rest of the number is left.
use Rattle.zeb_leaf.proofs.Cited.{◌<◌, ◌^◌, ap, length, arith, length-uleb, uleb-low, uleb-high}
use Rattle.zeb_leaf.proofs.Numbers.{uleb_some}
use Rattle.zeb_leaf.proofs.parting.number_len.Goals as goal

pub overflow_add-len : goal.overflow_add-len
overflow_add-len c = omega (arith, length-uleb c.args.number, uleb_some c.loop-left.left)

pub loop-left-preserved : goal.loop-left-preserved
loop-left-preserved c =
    let fits : c.loop-left.left < 2 ^ 64 = omega arith in
    omega (arith, ap length (uleb-high c.loop-left.left c.loop-left-test.true fits))

pub returns-clause-value : goal.returns-clause-value
returns-clause-value c = omega (arith, ap length (uleb-low c.loop-left.left c.loop-left-test.false))

pub returns-clause-few : goal.returns-clause-few
returns-clause-few c = omega (arith, ap length (uleb-low c.loop-left.left c.loop-left-test.false), length-uleb c.args.number)
