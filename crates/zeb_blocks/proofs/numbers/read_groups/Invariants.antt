-- What was read is the lower part of the number.
use Rattle.zeb_blocks.proofs.Cited.{length}
use Rattle.zeb_blocks.proofs.Bytes.{Continues}
use Rattle.zeb_blocks.proofs.numbers.read_groups.Given as goal

abbrev pub invariant-loop-byte : goal.invariant-loop-byte
invariant-loop-byte l = Continues l.bytes l.left l.value l.scale

abbrev pub decreases-loop-byte : goal.decreases-loop-byte
decreases-loop-byte l = length l.left
