use Rattle.zeb_leaves.proofs.Cited.{◌∙◌, ◌++◌, ◌∷◌, List, [], ap, arith, refl, rules, subst, sym, drop_of_length-le, BlockChange, TurnAllEntries, refused_so, KeyChanges}
use Rattle.std.proofs.lemmas.List.{append_assoc, append-nil}
use Rattle.zeb_register.proofs.ContentLemmas.{has_at}
use Rattle.zeb_leaves.proofs.TurnedEntries.{turn_next}
use Rattle.zeb_leaves.proofs.turned_entries.piece_changes.Goals as goal

pub returns-in_err-change : goal.returns-in_err-change
returns-in_err-change c = refused_so _ _ c.from_residual.result c.in_err-change.field-0.0 (search rules)
    (λ told. (c.piece-item.result, has_at c.args.pieces.now c.loop-piece.piece-index c.piece-item.result c.piece-item.is c.loop-piece-test.true, c.in_err-change.ensures told))

pub loop-piece-preserved : goal.loop-piece-preserved
loop-piece-preserved c = λ more turn.
    let pieces = c.args.pieces.now in
    let next = turn_next c.args.entries.now pieces c.loop-piece.piece-index c.piece-item.result c.in_ok-change.change more c.loop-piece-test.true c.piece-item.is c.in_ok-change.ensures turn in
    subst (TurnAllEntries c.args.entries.now pieces) (sym (ap (λ (l : List BlockChange). l ++ more) c.in_ok-push.ensures.items ∙ append_assoc c.loop-piece.changes.items (c.in_ok-change.change ∷ []) more))
    (c.loop-piece.invariant (c.in_ok-change.change ∷ more) next)

pub returns : goal.returns
returns c =
    let none = drop_of_length-le c.args.pieces.now (omega (arith, c.loop-piece-test.false)) in
    subst (TurnAllEntries c.args.entries.now c.args.pieces.now) (append-nil c.loop-piece.changes.items)
    (c.loop-piece.invariant [] (subst (λ (l : List KeyChanges). TurnAllEntries c.args.entries.now l []) (sym none) refl))
