use Rattle.zeb_leaves.proofs.Cited.{state, true, Ok, Asks, blocks_tree, IsEmptyBeside}
use Rattle.zeb_leaves.proofs.ReachedIds.{IsReached}
use Rattle.zeb_leaves.proofs.agreeing_tables.others_are_empty.Given as goal

abbrev pub invariant-ids : goal.invariant-ids
invariant-ids g l = record { asks : Asks (state g.S.Store l.fn.conn) (state g.S.Store l.conn) (Ok true) (λ trees _. IsReached blocks_tree trees (IsEmptyBeside l.listed trees) l.ends.last l.id) }
