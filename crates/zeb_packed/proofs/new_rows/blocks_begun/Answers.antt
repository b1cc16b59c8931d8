use Rattle.zeb_packed.proofs.Cited.{◌≤◌, ◌+◌, ◌/◌, arith, drop, get_or, length, refl, rules, subst, suc, sym, IsNonDecreasingBy-drop, NumbersRise, RecordChange, no_change, run, run_first, run_long, run_within, none_left}
use Rattle.zeb_packed.proofs.BegunBlocks.{AreBegun, begun_blocks, begun_more, begun_none, front_is, run_allowed}
use Rattle.zeb_packed.proofs.BegunKeys.{from_none, none_allows}
use Rattle.zeb_packed.proofs.HeldTables.{with_blocks}
use Rattle.zeb_packed.proofs.new_rows.blocks_begun.Goals as goal

pub loop-done-init : goal.loop-done-init
loop-done-init c = record {
  within = omega arith;
  few = omega (arith, c.requires.none);
  begun = subst (AreBegun c.args.key.now c.args.changes.now c.args.known c.args.known 0) (sym c.new-blocks.ensures.items)
      (begun_none c.args.key.now c.args.changes.now c.args.known (from_none c.args.known.clear_from c.args.changes.now (c.requires.clear.none c.requires.none)));
}

pub block_begun-requires-clause-some : goal.block_begun-requires-clause-some
block_begun-requires-clause-some c =
    let it = c.run_length.ensures in
    (front_is c.args.changes.now c.loop-done.done c.run_length.result c.loop-done-test.true it.within it.inside it.some it.whole).some

pub returns-in_err-made-clause-damaged : goal.returns-in_err-made-clause-damaged
returns-in_err-made-clause-damaged c told db trees allows =
    let key = c.args.key.now in
    let xs = c.args.changes.now in
    let done = c.loop-done.done in
    let n = c.run_length.result in
    let block = (get_or xs done no_change).sysno / 256 in
    let it = c.run_length.ensures in
    let front = front_is xs done n c.loop-done-test.true it.within it.inside it.some it.whole in
    let blocks = c.loop-done.blocks.items in
    let both = run_allowed key xs c.args.known c.loop-done.known done (done + length (run xs done n)) block (run xs done n) blocks c.loop-done.invariant.begun front.inside front.some front.left db trees allows in
    let turns = none_allows db key block (run xs done n) c.loop-done.known.records (with_blocks db blocks trees) both.1 both.0 in
    c.in_err-made.ensures.honest (search rules) turns.0 turns.1

pub loop-done-smaller : goal.loop-done-smaller
loop-done-smaller c =
    let xs = c.args.changes.now in
    let done = c.loop-done.done in
    let n = c.run_length.result in
    let below = c.loop-done-test.true in
    let some = c.run_length.ensures.some (get_or xs done no_change) (drop (suc done) xs) (run_first xs done n below) refl in
    let long = run_long xs done n c.run_length.ensures.within in
    omega (arith, some, long, below)

pub loop-done-preserved : goal.loop-done-preserved
loop-done-preserved c =
    let key = c.args.key.now in
    let xs = c.args.changes.now in
    let done = c.loop-done.done in
    let n = c.run_length.result in
    let later = done + length (run xs done n) in
    let block = (get_or xs done no_change).sysno / 256 in
    let it = c.run_length.ensures in
    let front = front_is xs done n c.loop-done-test.true it.within it.inside it.some it.whole in
    let known = c.loop-done.known in
    let next = c.behind-known.result in
    let behind = c.behind-known.ensures in
    let made = c.in_ok-made.ensures in
    record {
      within = run_within xs done n c.loop-done.invariant.within;
      few = subst (λ r. r ≤ 999999999) (sym behind.records) made.few;
      begun = subst (AreBegun key xs c.args.known next later) (sym c.in_ok-push.ensures.items)
          (begun_more key xs c.args.known known done later block (run xs done n) c.loop-done.blocks.items c.loop-done.invariant.begun front.inside front.some front.left c.in_ok-made.made c.in_ok-made.records made.own.0 made.own.1 made.spells next
          behind.records behind.keeps behind.behind behind.most (subst NumbersRise front.left (IsNonDecreasingBy-drop (λ (z : RecordChange). z.sysno) done xs c.requires.rising)) front.whole front.touched);
    }

pub returns-clause-begun : goal.returns-clause-begun
returns-clause-begun c = begun_blocks c.args.key.now c.args.changes.now c.args.known c.loop-done.known c.loop-done.done c.loop-done.blocks.items (none_left c.loop-done.done c.args.changes.now c.loop-done-test.false) c.loop-done.invariant.begun
