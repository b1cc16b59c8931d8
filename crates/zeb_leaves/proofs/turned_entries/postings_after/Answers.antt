use Rattle.zeb_leaves.proofs.Cited.{◌≡◌, ◌+◌, arith, drop, refl, rules, subst, suc, sym, all_has, LiesIn, drop-cons, get_or, block_of, refused_so, has_get, packed_leaves, IsInBlock, units_of, TurnsUnits}
use Rattle.zeb_register.proofs.ContentTurns.{none_left}
use Rattle.zeb_register.proofs.ListChanges.{no_change}
use Rattle.zeb_leaves.proofs.TurnedEntries.{CanTurn, can_from, same_turned, turned_unit}
use Rattle.zeb_leaves.proofs.turned_entries.postings_after.Goals as goal

pub loop-change-init : goal.loop-change-init
loop-change-init c = record { lies = search rules; turned = λ end turns. turns; left = λ can. can }

pub loop-change-preserved : goal.loop-change-preserved
loop-change-preserved c =
    let xs = c.args.changes.now in
    let i = c.loop-change.change-index in
    let x = get_or xs i no_change in
    let before = c.loop-change.invariant in
    let held = units_of c.loop-change.list.items 0 in
    let next = units_of c.in_ok-list.list.items 0 in
    let it = turned_unit x c.loop-change.list.items c.in_ok-list.list.items c.in_ok-list.ensures.turned in
    let is = drop-cons xs i no_change c.loop-change-test.true in
    let more : suc i ≡ i + 1 = omega arith in
    record {
      lies = subst (λ b. LiesIn b c.in_ok-list.list.items) (all_has (IsInBlock (block_of xs)) xs x c.requires.inside (has_get xs i no_change c.loop-change-test.true)) c.in_ok-list.ensures.lies;
      turned = λ end turns. before.turned end (subst (λ l. TurnsUnits packed_leaves l held end) (sym is) (next, it, subst (λ n. TurnsUnits packed_leaves (drop n xs) next end) (sym more) turns));
      left = λ can.
          let rest = subst (λ l. CanTurn l held) is (before.left can) in
          subst (λ n. CanTurn (drop n xs) next) more (can_from (drop (suc i) xs) rest.1.0 next (same_turned x held rest.1.0 next rest.1.1 it) (rest.0, rest.1.2));
    }

pub returns-clause-turned : goal.returns-clause-turned
returns-clause-turned c =
    let xs = c.args.changes.now in
    let held = units_of c.loop-change.list.items 0 in
    c.loop-change.invariant.turned held (subst (λ l. TurnsUnits packed_leaves l held held) (sym (none_left c.loop-change.change-index xs c.loop-change-test.false)) (λ n. refl, refl))

pub returns-in_err-list-clause-turned : goal.returns-in_err-list-clause-turned
returns-in_err-list-clause-turned c = refused_so _ _ c.from_residual.result c.in_err-list.field-0.0 (search rules) (λ told are turns.
    let xs = c.args.changes.now in
    let i = c.loop-change.change-index in
    let held = units_of c.loop-change.list.items 0 in
    let rest = subst (λ l. CanTurn l held) (drop-cons xs i no_change c.loop-change-test.true) (c.loop-change.invariant.left (are, turns)) in
    let x = get_or xs i no_change in
    c.in_err-list.ensures.turned told rest.1.1.found)
