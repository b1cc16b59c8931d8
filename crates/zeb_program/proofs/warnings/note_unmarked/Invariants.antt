use Rattle.zeb_program.proofs.Cited.{◌≡◌, ◌+◌, ◌++◌, ◌≤◌, length, split_of, unmarked_from}
use Rattle.zeb_program.proofs.warnings.note_unmarked.Given as goal

abbrev pub invariant-loop-left : goal.invariant-loop-left
invariant-loop-left l = record {
  far : l.fn.unmarked.items ++ unmarked_from l.file 1 (split_of l.bytes).slices ≡ l.unmarked.items ++ unmarked_from l.file l.nth (split_of l.left).slices;
  room : l.nth + length l.left ≤ length l.bytes + 1;
}

abbrev pub decreases-loop-left : goal.decreases-loop-left
decreases-loop-left l = length l.left
