use Rattle.zeb_leaves.proofs.Cited.{arith, drop, length-drop}
use Rattle.zeb_leaves.proofs.CutPieces.{front_so}
use Rattle.zeb_leaves.proofs.pieces.front_from.Goals as goal

pub returns : goal.returns
returns c = front_so (drop c.args.done c.args.changes.now) c.split_at.result.1.now c.split_at-2.result.0.now c.first_block.result c.count_inside.result (omega (arith, length-drop c.args.done c.args.changes.now, c.requires)) c.split_at.ensures.back c.first_block.ensures c.count_inside.ensures.within c.count_inside.ensures.inside c.count_inside.ensures.next c.split_at-2.ensures.front
