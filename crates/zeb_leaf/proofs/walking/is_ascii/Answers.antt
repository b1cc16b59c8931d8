-- Where no byte so far is above those of ASCII, none is.
use Rattle.zeb_leaf.proofs.Cited.{ℕ, ◌<◌, List, length, inl, inr, arith, cases_lt, get_or_past, slice_index, IsAscii}
use borrow.Author.Count.{below_more}
use Rattle.zeb_leaf.proofs.walking.is_ascii.Goals as goal

all_ascii : (bytes : List ℕ) → ((k : ℕ) → k < length bytes → slice_index bytes k < 128) → IsAscii bytes
all_ascii bytes each = λ k. elim (cases_lt k (length bytes)) [
  | inl inside ↦ each k inside
  | inr past ↦ omega (arith, get_or_past bytes k 0 past)
]

pub loop-byte-preserved : goal.loop-byte-preserved
loop-byte-preserved c = below_more (λ (k : ℕ). slice_index c.args.bytes.now k < 128) c.loop-byte.byte-index c.loop-byte.invariant c.if-byte-ge128.false

pub returns : goal.returns
returns c = λ yes. all_ascii c.args.bytes.now (λ k inside. c.loop-byte.invariant k (omega arith))
