use Rattle.zeb_packed.proofs.Cited.{packed_blocks, ◌≡◌, ◌∙◌, ◌+◌, arith, drop, drop-cons, get_or, refl, rules, subst, suc, sym, LiesIn, units_of, TurnsUnits, no_change, refused_so, none_left}
use Rattle.zeb_packed.proofs.UnitTurns.{same_after, turns_from}
use Rattle.zeb_packed.proofs.packed_parts.KeyBlock.changed_by.Goals as goal

pub loop-change-init : goal.loop-change-init
loop-change-init c = record { lies = search rules; block = refl; few = search rules; turned = λ end turns. turns; left = λ end turns. turns }

pub loop-change-preserved : goal.loop-change-preserved
loop-change-preserved c =
    let xs = c.args.changes.now in
    let i = c.loop-change.change-index in
    let x = get_or xs i no_change in
    let before = c.loop-change.invariant in
    let held = units_of c.loop-change.held.list.items c.loop-change.held.records in
    let next = units_of c.in_ok-held.held.list.items c.in_ok-held.held.records in
    let it = c.in_ok-held.ensures in
    let is = drop-cons xs i no_change c.loop-change-test.true in
    let more : suc i ≡ i + 1 = omega arith in
    record {
      lies = subst (λ b. LiesIn b c.in_ok-held.held.list.items) before.block it.lies;
      block = it.block ∙ before.block;
      few = it.turned.count.few;
      turned = λ end turns. before.turned end (subst (λ l. TurnsUnits packed_blocks l held end) (sym is) (next, it.turned, subst (λ n. TurnsUnits packed_blocks (drop n xs) next end) (sym more) turns));
      left = λ end turns.
          let rest = subst (λ l. TurnsUnits packed_blocks l held end) is (before.left end turns) in
          subst (λ n. TurnsUnits packed_blocks (drop n xs) next end) more (turns_from (drop (suc i) xs) rest.0 next end (same_after x held rest.0 next rest.1 it.turned) rest.2);
    }

pub returns : goal.returns
returns c =
    let xs = c.args.changes.now in
    let held = units_of c.loop-change.held.list.items c.loop-change.held.records in
    record {
      turned = c.loop-change.invariant.turned held (subst (λ l. TurnsUnits packed_blocks l held held) (sym (none_left c.loop-change.change-index xs c.loop-change-test.false)) (λ n. refl, refl));
      lies = search rules;
      block = c.loop-change.invariant.block;
    }

pub returns-in_err-held : goal.returns-in_err-held
returns-in_err-held c = record {
  turned = refused_so _ _ c.from_residual.result c.in_err-held.field-0.0 (search rules) (λ told are turns.
      let xs = c.args.changes.now in
      let i = c.loop-change.change-index in
      let held = units_of c.loop-change.held.list.items c.loop-change.held.records in
      let rest = subst (λ l. TurnsUnits packed_blocks l held are) (drop-cons xs i no_change c.loop-change-test.true) (c.loop-change.invariant.left are turns) in
      c.in_err-held.ensures.turned told rest.0 rest.1);
  lies = search rules;
  block = search rules;
}
