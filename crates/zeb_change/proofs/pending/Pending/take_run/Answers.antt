use Rattle.zeb_change.proofs.Cited.{◌∙◌, arith, refl, sym, TakenKey}
use Rattle.zeb_change.proofs.TakenKeys.{all_taken, none_taken, one_taken}
use Rattle.zeb_change.proofs.pending.Pending.take_run.Goals as goal

pub loop-key-preserved : goal.loop-key-preserved
loop-key-preserved c =
    let taken : TakenKey = record { key = c.in-Some.key; counts = c.in_ok-counts.counts; places = c.in_ok-counts.places } in
    record {
      few = omega (arith, c.if-changes-ge-RUN_CHANGES.false);
      so_far = one_taken c.loop-key.run.items c.push.new.self.items taken c.in-Some.key c.in-Some.notes c.args.self.now c.loop-key.self c.take_first.new.self
          c.in_ok-push.ensures.items c.in-Some.ensures.taken (record { key = refl; many = c.in_ok-counts.ensures.many; told = c.in_ok-counts.ensures.told }) c.loop-key.invariant.so_far;
    }

pub loop-key-preserved-else-changes-ge-RUN_CHANGES : goal.loop-key-preserved-else-changes-ge-RUN_CHANGES
loop-key-preserved-else-changes-ge-RUN_CHANGES c =
    let taken : TakenKey = record { key = c.in-Some.key; counts = c.in_ok-counts.counts; places = c.in_ok-counts.places } in
    record {
      few = omega (arith, c.if-changes-ge-RUN_CHANGES.false);
      so_far = one_taken c.loop-key.run.items c.push.new.self.items taken c.in-Some.key c.in-Some.notes c.args.self.now c.loop-key.self c.take_first.new.self
          c.in_ok-push.ensures.items c.in-Some.ensures.taken (record { key = refl; many = c.in_ok-counts.ensures.many; told = c.in_ok-counts.ensures.told }) c.loop-key.invariant.so_far;
    }

pub returns-then-changes-ge-RUN_CHANGES-clause-taken : goal.returns-then-changes-ge-RUN_CHANGES-clause-taken
returns-then-changes-ge-RUN_CHANGES-clause-taken c =
    let taken : TakenKey = record { key = c.in-Some.key; counts = c.in_ok-counts.counts; places = c.in_ok-counts.places } in
    all_taken c.push.new.self.items c.args.self.now c.take_first.new.self c.take_first.new.self refl
    (one_taken c.loop-key.run.items c.push.new.self.items taken c.in-Some.key c.in-Some.notes c.args.self.now c.loop-key.self c.take_first.new.self
    c.in_ok-push.ensures.items c.in-Some.ensures.taken (record { key = refl; many = c.in_ok-counts.ensures.many; told = c.in_ok-counts.ensures.told }) c.loop-key.invariant.so_far)

pub returns-clause-taken : goal.returns-clause-taken
returns-clause-taken c =
    let none = c.in_default.ensures.none in
    all_taken c.loop-key.run.items c.args.self.now c.loop-key.self c.take_first.new.self (none.0 ∙ sym none.1) c.loop-key.invariant.so_far

pub returns-clause-none : goal.returns-clause-none
returns-clause-none c empty =
    let none = c.in_default.ensures.none in
    let taken = all_taken c.loop-key.run.items c.args.self.now c.loop-key.self c.take_first.new.self (none.0 ∙ sym none.1) c.loop-key.invariant.so_far in
    (none_taken c.loop-key.run.items c.args.self.now c.take_first.new.self empty taken none.1, none.1)
