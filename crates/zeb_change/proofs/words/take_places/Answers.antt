use Rattle.zeb_change.proofs.NoteWords.{all_taken, one_taken}
use Rattle.zeb_change.proofs.words.take_places.Goals as goal

pub loop-preserved : goal.loop-preserved
loop-preserved c = record {
  so_far = one_taken c.args.words.now c.loop.left.now c.take_number-seq.result.1.now c.take_number-pos.result.1.now c.args.count c.loop.counter c.args.places.now.items
      c.loop.places.items c.push.new.self.items c.take_number-seq.result.0 c.take_number-pos.result.0 c.loop-test.true c.loop.invariant.so_far c.take_number-seq.ensures
      c.take_number-pos.ensures c.in_ok-push.ensures.items;
}

pub returns : goal.returns
returns c = all_taken c.args.words.now c.loop.left.now c.args.count c.loop.counter c.args.places.now.items c.loop.places.items c.loop-test.false c.loop.invariant.so_far
