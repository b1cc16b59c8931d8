-- The entries that were walked over so far, and which of them were taken.
use Rattle.zeb_leaves.proofs.Cited.{◌≡◌, List, Entry, filter, length, option_map, Reaches, BlockKey, is_own}
use Rattle.std.specs.Prelude.{IsTrue}
use Rattle.zeb_leaves.proofs.WalkedRows.{AreFrom}
use Rattle.zeb_leaves.proofs.own_entries.entries_in.Given as goal

abbrev pub invariant-loop-own : goal.invariant-loop-own
invariant-loop-own l = (done : List Entry) × Reaches l.bytes done l.reader × (l.own.items ≡ filter (is_own l.from.term.now l.from.block (option_map (λ (k : BlockKey). (k.term.now, k.block)) l.end)) done)
    × (IsTrue l.begun → AreFrom l.from.term.now l.from.block l.reader.place)

abbrev pub decreases-loop-own : goal.decreases-loop-own
decreases-loop-own l = length l.reader.left
