-- The rows so far are leaves that took the postings before the place.
use Rattle.zeb_leaves.proofs.Cited.{Int, ◌≡◌, ◌≤◌, ◌∷◌, [], length, drop, entry_cmp, IfSome, before_of}
use Rattle.std.specs.List.Sorted.{IsStrictlySortedBy}
use Rattle.zeb_leaves.proofs.WalkCalls.{GoesOn, text}
use Rattle.zeb_leaves.proofs.RowWalks.{IsWalk}
use Rattle.zeb_leaves.proofs.agreeing_walk.leaves_walked.Given as goal

abbrev pub invariant-rows : goal.invariant-rows
invariant-rows g l = record {
  name : l.rows.conn.ghost_name ≡ l.initial.rows.conn.ghost_name;
  within : l.at ≤ length l.postings;
  rising : IfSome l.before (λ one. IsStrictlySortedBy entry_cmp one.entries.items);
  walk : IsWalk g.S.Store text (Int l.fn.db ∷ []) l.fn.conn (λ given. GoesOn l.postings given (before_of l.before) (drop l.at l.postings)) l.rows.conn.now;
}
