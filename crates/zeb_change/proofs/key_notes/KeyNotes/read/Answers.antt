use Rattle.zeb_change.proofs.Cited.{arith}
use Rattle.zeb_change.proofs.NoteWords.{one_read}
use Rattle.zeb_change.proofs.key_notes.KeyNotes.read.Goals as goal

pub loop-preserved : goal.loop-preserved
loop-preserved c = record {
  many = omega (arith, c.in_ok-left.ensures.one, c.loop.invariant.many);
  told = one_read c.args.self.now c.loop.left.now c.in_ok-left.left.now c.loop.counter c.loop.counts.items c.take_change.new.counts.items c.loop.places.items
      c.take_change.new.places.items c.loop-test.true c.loop.invariant.told c.in_ok-left.ensures.told;
}
