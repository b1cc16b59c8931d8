use Rattle.zeb_leaves.proofs.Cited.{subst, sym, entry_cmp}
use Rattle.std.specs.List.Sorted.{IsStrictlySortedBy}
use Rattle.zeb_leaves.proofs.PieceChanges.{changes_are}
use Rattle.zeb_leaves.proofs.turned_entries.entries_turned.Goals as goal

pub piece_changes-requires-clause-pieces : goal.piece_changes-requires-clause-pieces
piece_changes-requires-clause-pieces c = c.requires.pieces.1.are.each

pub piece_changes-requires-clause-rising : goal.piece_changes-requires-clause-rising
piece_changes-requires-clause-rising c = subst (IsStrictlySortedBy entry_cmp) (sym c.deref.ensures.value) c.requires.rising

pub merge-requires-clause-changes : goal.merge-requires-clause-changes
merge-requires-clause-changes c =
    changes_are c.requires.pieces.0 (λ term block. Unit {0}) c.deref.result.now c.args.pieces.now c.in_ok-changes.changes.items c.requires.pieces.1 c.in_ok-changes.ensures
