use Rattle.zeb_search.proofs.Cited.{◌≡◌, ◌∙◌, ◌⊎◌, ◌<◌, ◌++◌, ◌∷◌, [], cond, length, get_or, arith, inl, inr, sym, ap, subst, List, ℕ, Vec}
use Rattle.std.proofs.Common.{Global}
use Rattle.zeb_search.proofs.JoinedLists.{walk_begins, walk_step, byte_is, moves_within, AreWalked}
use Rattle.zeb_search.proofs.lists.joined.Goals as goal
use Rattle.zeb_search.proofs.lists.joined.Goals.{then-from_left-left, else-from_left-left+then-from_right-right, then-in_left, else-in_left, then-keeps+in_ok-push, else-keeps}

pub loop-from_left-init : goal.loop-from_left-init
loop-from_left-init c = record {
  left_within = omega arith;
  right_within = omega arith;
  walked = λ up down. subst (λ (l : List ℕ). AreWalked c.args.operator c.args.left.now c.args.right.now 0 0 l) (sym c.new-numbers.ensures.items) (walk_begins c.args.operator c.args.left.now c.args.right.now);
}

pub loop-from_left-preserved : goal.loop-from_left-preserved
loop-from_left-preserved c =
    let left : List ℕ = c.args.left.now in
    let right : List ℕ = c.args.right.now in
    let some : (c.loop-from_left.from_left < length left) ⊎ (c.loop-from_left.from_right < length right) =
    elim c.if-from_left-left.branch [ then-from_left-left w ↦ inl w.if-from_left-left.true | else-from_left-left+then-from_right-right w ↦ inr w.if-from_right-right.true ] in
    let is : c.if-in_left.number ≡ cond c.stands_first-in_left.result (get_or left c.loop-from_left.from_left 0) (get_or right c.loop-from_left.from_right 0) =
    elim c.if-in_left.branch [ then-in_left w ↦ rw w.if-in_left.true w.number-is | else-in_left w ↦ rw w.if-in_left.false w.number-is ] in
    let pushed : c.if-keeps.numbers.items ≡ cond c.keeps.result (c.loop-from_left.numbers.items ++ c.if-in_left.number ∷ []) c.loop-from_left.numbers.items =
    elim c.if-keeps.branch [ then-keeps+in_ok-push w ↦ rw w.if-keeps.true (ap (λ (v : Vec ℕ Global). v.items) w.numbers-is ∙ w.in_ok-push.ensures.items) | else-keeps w ↦ rw w.if-keeps.false (ap (λ (v : Vec ℕ Global). v.items) w.numbers-is) ] in
    record {
      left_within = moves_within left right c.loop-from_left.from_left c.loop-from_left.from_right _ _ c.loop-from_left.invariant.left_within c.stands_first-in_left.ensures c.from-from_left.ensures;
      right_within = moves_within right left c.loop-from_left.from_right c.loop-from_left.from_left _ _ c.loop-from_left.invariant.right_within c.stands_first-in_right.ensures c.from-from_right.ensures;
      walked = λ up down. walk_step c.args.operator left right c.loop-from_left.from_left c.loop-from_left.from_right c.if-in_left.number
          _ _ c.stands_first-in_left.result c.stands_first-in_right.result c.keeps.result c.loop-from_left.numbers.items c.if-keeps.numbers.items
          up down some c.stands_first-in_left.ensures c.stands_first-in_right.ensures is
          (byte_is _ _ _ c.from-from_left.ensures) (byte_is _ _ _ c.from-from_right.ensures) c.keeps.ensures pushed (c.loop-from_left.invariant.walked up down);
    }
