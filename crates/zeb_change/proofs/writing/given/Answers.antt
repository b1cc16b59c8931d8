use Rattle.zeb_change.proofs.Cited.{arith, refl, rules, slice_index_or, drop_of_length-le, drop_more, IsNonDecreasingBy-from_sort_by_key, answers_always, RecordChange, PlaceCounts, number_in}
use Rattle.zeb_change.proofs.LeadsToContent.{all_given, one_given}
use Rattle.zeb_change.proofs.writing.given.Goals as goal

pub loop-count-preserved : goal.loop-count-preserved
loop-count-preserved c =
    let index = c.loop-count.count-index in
    let none : PlaceCounts = record { sysno = 0; old = 0; new = 0 } in
    let count : PlaceCounts = slice_index_or c.args.counts.now index none in
    let change : RecordChange = record { sysno = count.sysno; old = c.cut_off.result.0; new = c.cut_off-in-loop-count.result.0 } in
    record {
      many = omega (arith, c.in_ok-push.ensures.len, c.loop-count.invariant.many);
      told = one_given c.args.counts.now c.args.places.now c.loop-count.left.now c.cut_off.result.1.now c.cut_off-in-loop-count.result.1.now index c.loop-count.given.items
          c.push.new.self.items count change (drop_more c.args.counts.now index none c.loop-count-test.true) c.cut_off.ensures c.cut_off-in-loop-count.ensures refl
          c.in_ok-push.ensures.items c.loop-count.invariant.told;
    }

pub returns-clause-rising : goal.returns-clause-rising
returns-clause-rising c = IsNonDecreasingBy-from_sort_by_key number_in _ c.in_ok-sort_by_key.ensures.sorted (λ a r q k. search rules)

pub returns-clause-told : goal.returns-clause-told
returns-clause-told c changes many are = record {
  noted = c.loop-count.given.items;
  same = all_given c.args.counts.now c.args.places.now c.loop-count.left.now c.loop-count.count-index c.loop-count.given.items
      (drop_of_length-le c.args.counts.now c.loop-count-test.false) c.loop-count.invariant.told changes many are;
  stable = c.sort_by_key.ensures.stable number_in (answers_always _ _ _ (λ f a r g h. search rules));
}
