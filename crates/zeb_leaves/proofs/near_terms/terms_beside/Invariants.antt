-- No call has changed anything so far.
use Rattle.zeb_leaves.proofs.Cited.{state, ◌≤◌}
use Rattle.zeb_leaves.proofs.NearTurns.{IsStill}
use Rattle.zeb_leaves.proofs.near_terms.terms_beside.Given as goal

abbrev pub invariant-turns : goal.invariant-turns
invariant-turns g l = record {
  some : 1 ≤ l.limit;
  still : IsStill (state g.S.Store l.fn.conn) (state g.S.Store l.conn);
}
