-- Each entry is in the span, or not.
use Rattle.zeb_leaf.proofs.Cited.{◌≡◌, ◌<◌, ◌++◌, ◌∷◌, [], List, ℕ, Err, length, sym, subst, arith, common_steps, rules, refl, append-nil, Entry, entry_of, IsLeaf, IsStuck, IsOnSide, TakesIfInSpan}
use Rattle.zeb_leaf.proofs.Behind.{StandsAt, left_out, stands_behind}
use Rattle.zeb_leaf.proofs.Chosen.{span_taken}
use Rattle.zeb_leaf.proofs.Faults.{told_worse}
use Rattle.zeb_leaf.proofs.Numbers.{step_shorter}
use Rattle.zeb_leaf.proofs.Walked.{empty_leaf, reaches_end, reaches_first, reaches_more, reaches_stuck}
use Rattle.zeb_leaf.proofs.spans.push_span.Goals as goal

pub returns-then-is_empty-clause-answers : goal.returns-then-is_empty-clause-answers
returns-then-is_empty-clause-answers c =
    let none : length c.args.bytes.now ≡ 0 = grind (arith, common_steps) in
    empty_leaf c.args.bytes.now none

pub loop-reader-init : goal.loop-reader-init
loop-reader-init c = ([], rw c.new-reader.ensures (reaches_first c.args.bytes.now), ([], refl, sym (append-nil c.args.held.now.items)), tt)

pub returns-in_err-step-clause-answers : goal.returns-in_err-step-clause-answers
returns-in_err-step-clause-answers c =
    let fault = c.in_err-step.field-0.0 in
    let told : c.from_residual.result ≡ Err fault = search rules in
    rw told (told_worse (IsStuck c.loop-reader.reader) ((list : List Entry) → ¬ IsLeaf c.args.bytes.now list) fault (reaches_stuck c.args.bytes.now c.loop-reader.invariant.0 c.loop-reader.reader c.loop-reader.invariant.1) c.in_err-step.ensures.answers)

pub loop-reader-smaller-then-not-is_outside : goal.loop-reader-smaller-then-not-is_outside
loop-reader-smaller-then-not-is_outside c =
    let step = (rw c.in-Some.is at c.in_ok-step.ensures.answers).0 in
    step_shorter c.loop-reader.reader c.step.new.self _ step

pub loop-reader-preserved-then-not-is_outside : goal.loop-reader-preserved-then-not-is_outside
loop-reader-preserved-then-not-is_outside c =
    let step = (rw c.in-Some.is at c.in_ok-step.ensures.answers).0 in
    let first = c.args.first.term.now in
    let least = c.args.first.block in
    let end = c.args.end.term.now in
    let number = c.args.end.block in
    let done = c.loop-reader.invariant.0 in
    let held = c.in-Some.step.held in
    let e = entry_of c.step.new.self.place.term held in
    let takes = subst (λ (t : List ℕ). TakesIfInSpan first least end number (entry_of t held) c.loop-reader.held.items c.push_if_in_span.new.held.items) c.term.ensures c.in_ok-side.ensures.takes in
    let side = subst (λ (t : List ℕ). IsOnSide first end number t e.block c.in_ok-side.side) c.term.ensures c.in_ok-side.ensures.side in
    let so_far = c.loop-reader.invariant.2 in (
      done ++ e ∷ [],
      reaches_more c.args.bytes.now done c.loop-reader.reader c.step.new.self e c.loop-reader.invariant.1 step,
      span_taken first least end number e done c.args.held.now.items so_far.0 c.loop-reader.held.items c.push_if_in_span.new.held.items so_far.1 so_far.2 takes,
      subst (StandsAt first least end number c.in_ok-side.side) (sym step.place) (stands_behind first least end number c.in_ok-side.side e side),
    )

pub loop-reader-smaller : goal.loop-reader-smaller
loop-reader-smaller c =
    let step = (rw c.in-Some.is at c.in_ok-step.ensures.answers).0 in
    step_shorter c.loop-reader.reader c.step.new.self _ step

pub loop-reader-preserved : goal.loop-reader-preserved
loop-reader-preserved c =
    let (step, shared) = rw c.in-Some.is at c.in_ok-step.ensures.answers in
    let first = c.args.first.term.now in
    let least = c.args.first.block in
    let end = c.args.end.term.now in
    let number = c.args.end.block in
    let done = c.loop-reader.invariant.0 in
    let e = entry_of c.step.new.self.place.term c.in-Some.step.held in
    let items = c.loop-reader.held.items in
    let so_far = c.loop-reader.invariant.2 in
    let out = left_out first least end number c.loop-reader.side c.loop-reader.reader.place e c.in-Some.step.shared items c.loop-reader.invariant.3 (c.is_outside.ensures.0 c.if-not-is_outside.false) step.follows shared in (
      done ++ e ∷ [],
      reaches_more c.args.bytes.now done c.loop-reader.reader c.step.new.self e c.loop-reader.invariant.1 step,
      span_taken first least end number e done c.args.held.now.items so_far.0 items items so_far.1 so_far.2 out.0,
      subst (StandsAt first least end number c.loop-reader.side) (sym step.place) out.1,
    )

pub returns-clause-answers : goal.returns-clause-answers
returns-clause-answers c =
    let some : 0 < length c.args.bytes.now = grind (arith, common_steps) in
    let ended = rw c.in_default.is at c.in_ok-step.ensures.answers in
    let done = c.loop-reader.invariant.0 in
    (done, reaches_end c.args.bytes.now done c.loop-reader.reader c.loop-reader.invariant.1 ended.0 some, c.loop-reader.invariant.2)

pub returns-clause-kept : goal.returns-clause-kept
returns-clause-kept c = (c.loop-reader.invariant.2.0, c.loop-reader.invariant.2.2)
