-- The bytes so far are of ASCII.
use Rattle.zeb_leaf.proofs.Cited.{ℕ, ◌<◌, slice_index}
use Rattle.zeb_leaf.proofs.walking.is_ascii.Given as goal

abbrev pub invariant-loop-byte : goal.invariant-loop-byte
invariant-loop-byte l = (k : ℕ) → k < l.byte-index → slice_index l.bytes k < 128
