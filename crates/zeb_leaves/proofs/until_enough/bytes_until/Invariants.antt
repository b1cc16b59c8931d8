-- The entries that were walked over so far, and how those that are own were counted.
use Rattle.zeb_leaves.proofs.Cited.{List, Entry, filter, length, option_map, Reaches, BlockKey, CountUntil, is_own}
use Rattle.std.specs.Prelude.{IsTrue}
use Rattle.zeb_leaves.proofs.WalkedRows.{AreFrom}
use Rattle.zeb_leaves.proofs.until_enough.bytes_until.Given as goal

abbrev pub invariant-loop-reader : goal.invariant-loop-reader
invariant-loop-reader l = (done : List Entry) × Reaches l.bytes done l.reader × CountUntil l.n (filter (is_own l.from.term.now l.from.block (option_map (λ (k : BlockKey). (k.term.now, k.block)) l.end)) done) l.fn.counts.items l.counts.items l.enough
    × (IsTrue l.begun → AreFrom l.from.term.now l.from.block l.reader.place)

abbrev pub decreases-loop-reader : goal.decreases-loop-reader
decreases-loop-reader l = length l.reader.left
