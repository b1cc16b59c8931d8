use Rattle.zeb_search.proofs.Cited.{length, ◌-◌, ◌+◌, ◌≤◌, nat_cmp, IsStrictlySortedBy}
use Rattle.zeb_search.proofs.JoinedLists.{AreWalked}
use Rattle.zeb_search.proofs.lists.joined.Given as goal

abbrev pub invariant-loop-from_left : goal.invariant-loop-from_left
invariant-loop-from_left l = record {
  left_within : l.from_left ≤ length l.left;
  right_within : l.from_right ≤ length l.right;
  walked : IsStrictlySortedBy nat_cmp l.left → IsStrictlySortedBy nat_cmp l.right → AreWalked l.operator l.left l.right l.from_left l.from_right l.numbers.items;
}

abbrev pub decreases-loop-from_left : goal.decreases-loop-from_left
decreases-loop-from_left l = (length l.initial.left - l.from_left) + (length l.initial.right - l.from_right)
