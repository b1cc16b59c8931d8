use Rattle.zeb_leaves.proofs.Cited.{◌∙◌, ◌++◌, ◌∷◌, List, [], ap, arith, refl, subst, sym, drop_of_length-le, KeyChanges}
use Rattle.std.proofs.lemmas.List.{append_assoc}
use Rattle.zeb_leaves.proofs.CutPieces.{AreCut, front_long, pieces_put, rest_is}
use Rattle.zeb_leaves.proofs.pieces.push_pieces.Goals as goal

pub loop-done-init : goal.loop-done-init
loop-done-init c = record { within = omega arith; leads = λ more cut. (more, refl, cut) }

pub loop-done-preserved : goal.loop-done-preserved
loop-done-preserved c =
    let one = c.args.one.now in
    let xs = one.changes.now in
    let done = c.loop-done.done in
    let front = c.front_from-front.result.now in
    let it = c.front_from-front.ensures in
    let within = c.loop-done.invariant.within in
    let piece : KeyChanges = record { key = one.key; changes = c.front_from-front.result } in
    record {
      within = omega (arith, (front_long xs done front it.0 within it.1).1);
      leads = λ more cut.
          let rest = subst (AreCut one more) (sym (rest_is xs done front it.0 within it.1)) cut in
          let all = c.loop-done.invariant.leads (piece ∷ more) (it.0, refl, it.1, rest) in
          (all.0, ap (λ (l : List KeyChanges). l ++ more) c.in_ok-push.ensures.items ∙ append_assoc c.loop-done.pieces.items (piece ∷ []) more ∙ all.1, all.2);
    }

pub returns : goal.returns
returns c =
    let one = c.args.one.now in
    let none = drop_of_length-le one.changes.now (omega (arith, c.loop-done-test.false)) in
    let all = c.loop-done.invariant.leads [] none in
    pieces_put one c.args.pieces.now.items c.loop-done.pieces.items [] all.0 all.1 refl all.2 c.requires.stored c.requires.rising
