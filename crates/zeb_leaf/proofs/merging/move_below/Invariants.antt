-- Those below the key that were moved so far, and what is left, are all.
use Rattle.zeb_leaf.proofs.Cited.{◌≡◌, ◌++◌, List, length, Less, AllByRecursion, Entry, key_cmp}
use Rattle.zeb_leaf.proofs.merging.move_below.Given as goal

abbrev pub invariant-loop-entry : goal.invariant-loop-entry
invariant-loop-entry l =
    (below : List Entry) × (l.fn.left.items ≡ below ++ l.left.items) × AllByRecursion (λ (e : Entry). key_cmp e.term e.block l.key.term.now l.key.block ≡ Less) below
    × (l.merged.items ≡ l.fn.merged.items ++ below)

abbrev pub decreases-loop-entry : goal.decreases-loop-entry
decreases-loop-entry l = length l.left.items
