use Rattle.zeb_register.proofs.Cited.{◌≡◌, ◌≢◌, w64, to_z, of_z, arith, ints, ListedDatabase}
use Rattle.zeb_register.proofs.ListsInStep.{each_more, each_whole}
use Rattle.zeb_register.proofs.ContentLemmas.{has_at}
use Rattle.zeb_register.proofs.belonging.is_listed.Goals as goal

pub returns-then-column-id-clause-same : goal.returns-then-column-id-clause-same
returns-then-column-id-clause-same c is =
    (c.database-item.result, has_at _ _ _ c.database-item.is c.loop-database-test.true, let e : c.args.id ≡ c.database-item.result.id.0 = omega (arith, ints, c.if-column-id.true, c.column.ensures.value) in e)

pub loop-database-preserved : goal.loop-database-preserved
loop-database-preserved c =
    each_more (λ (d : ListedDatabase). to_z w64 (of_z w64 c.args.id) ≢ d.id.0) c.args.listed.now c.loop-database.database-index c.database-item.result c.database-item.is c.loop-database-test.true c.loop-database.invariant
    (λ same. c.if-column-id.false (omega (arith, ints, same, c.column.ensures.value, c.ranges.id)))

pub returns-clause-other : goal.returns-clause-other
returns-clause-other c is listed =
    each_whole (λ (d : ListedDatabase). to_z w64 (of_z w64 c.args.id) ≢ d.id.0) c.args.listed.now c.loop-database.database-index (omega (arith, c.loop-database-test.false)) c.loop-database.invariant listed.0 listed.1 (omega (arith, ints, listed.2, c.ranges.id))
