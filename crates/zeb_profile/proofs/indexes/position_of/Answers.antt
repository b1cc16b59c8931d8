use Rattle.zeb_profile.proofs.Cited.{arith, [], ◌≡◌, true, get_or, same_name}
use Rattle.zeb_profile.proofs.IndexFacts.{position_at, position_none}
use Rattle.zeb_profile.proofs.indexes.position_of.Goals as goal

pub returns-then-is_spelled : goal.returns-then-is_spelled
returns-then-is_spelled c =
    let known = c.index-names-index.result in
    let at : same_name c.args.name.now (get_or c.args.names.now c.loop-index.index known) ≡ true =
    rw (← c.index-names-index.is, ← c.is_spelled.ensures) c.if-is_spelled.true in
    position_at (same_name c.args.name.now) c.args.names.now c.loop-index.index known c.loop-index-test.true (λ k h. c.loop-index.invariant k known h) at

pub returns : goal.returns
returns c = position_none (same_name c.args.name.now) c.args.names.now [] (λ k h. c.loop-index.invariant k [] (omega arith))
