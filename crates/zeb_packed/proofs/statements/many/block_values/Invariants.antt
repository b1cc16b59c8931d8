-- The values of the rows so far.
use Rattle.zeb_packed.proofs.Cited.{◌≡◌, map, take, bound, joined, new_block_row}
use Rattle.zeb_packed.proofs.statements.many.block_values.Given as goal

abbrev pub invariant-loop-one : goal.invariant-loop-one
invariant-loop-one l = bound l.values.items ≡ joined (map (new_block_row l.db.0) (take l.one-index l.blocks))
