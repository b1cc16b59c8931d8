use Rattle.zeb_change.proofs.NotedChanges.{out}
use Rattle.zeb_change.proofs.pending.Pending.take_first.Goals as goal

pub returns-in-Some-clause-taken : goal.returns-in-Some-clause-taken
returns-in-Some-clause-taken c =
    out _ c.order_is_by_parts.ensures.keys c.in-Some.first.0 c.in-Some.first.1 c.args.self.now _ c.in-Some.ensures.removal c.in-Some.ensures.all_above c.pop_first.ensures.ordered
