use Rattle.zeb_leaves.proofs.Cited.{◌∙◌, ◌++◌, List, [], all_has, ap, arith, refl, subst, sym, AllByRecursion, drop_of_length-le, IsStorableChange, NumbersRise, KeyChanges}
use Rattle.std.proofs.lemmas.List.{append_assoc, append-nil}
use Rattle.zeb_register.proofs.ContentLemmas.{has_at}
use Rattle.zeb_leaves.proofs.CutPieces.{PartsEach, parts_next, parts_pieces, parts_run}
use Rattle.zeb_leaves.proofs.pieces.pieces_of.Goals as goal

pub push_pieces-requires-clause-stored : goal.push_pieces-requires-clause-stored
push_pieces-requires-clause-stored c = all_has (λ (one : KeyChanges). AllByRecursion IsStorableChange one.changes.now) c.args.run.now c.one-item.result c.requires.stored (has_at c.args.run.now c.loop-one.one-index c.one-item.result c.one-item.is c.loop-one-test.true)

pub push_pieces-requires-clause-rising : goal.push_pieces-requires-clause-rising
push_pieces-requires-clause-rising c = all_has (λ (one : KeyChanges). NumbersRise one.changes.now) c.args.run.now c.one-item.result c.requires.rising.numbers (has_at c.args.run.now c.loop-one.one-index c.one-item.result c.one-item.is c.loop-one-test.true)

pub loop-one-preserved : goal.loop-one-preserved
loop-one-preserved c = λ more parts.
    let it = c.in_ok-push_pieces.ensures in
    let run = c.args.run.now in
    let i = c.loop-one.one-index in
    subst (PartsEach run) (sym (ap (λ (l : List KeyChanges). l ++ more) it.1 ∙ append_assoc c.loop-one.pieces.items it.0 more))
    (c.loop-one.invariant (it.0 ++ more) (parts_next run i c.one-item.result it.0 more c.loop-one-test.true c.one-item.is it.2 it.3 parts))

pub returns-clause-parts : goal.returns-clause-parts
returns-clause-parts c =
    let none = drop_of_length-le c.args.run.now (omega (arith, c.loop-one-test.false)) in
    parts_run c.args.run.now c.loop-one.pieces.items (subst (PartsEach c.args.run.now) (append-nil c.loop-one.pieces.items) (c.loop-one.invariant [] (subst (λ (l : List KeyChanges). PartsEach l []) (sym none) refl)))

pub returns-clause-pieces : goal.returns-clause-pieces
returns-clause-pieces c =
    let none = drop_of_length-le c.args.run.now (omega (arith, c.loop-one-test.false)) in
    parts_pieces c.args.run.now c.loop-one.pieces.items (subst (PartsEach c.args.run.now) (append-nil c.loop-one.pieces.items) (c.loop-one.invariant [] (subst (λ (l : List KeyChanges). PartsEach l []) (sym none) refl))) c.requires.rising.keys
