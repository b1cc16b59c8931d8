-- The number, and then the bytes.
use Rattle.zeb_leaf.proofs.Parts.{counted_put}
use Rattle.zeb_leaf.proofs.writing.write_counted.Goals as goal

pub returns-clause-ok : goal.returns-clause-ok
returns-clause-ok c = counted_put c.extend_from_slice.result _ _ _ c.args.bytes.now c.in_ok-put_number.ensures.ok c.extend_from_slice.ensures.items
