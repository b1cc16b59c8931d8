use Rattle.zeb_packed.proofs.Cited.{ℕ, ◌≡◌, ◌≢◌, ◌+◌, ◌++◌, ◌<◌, ◌≤◌, ◌/◌, [], List, ap, arith, drop, get_or, length, refl, rules, subst, suc, sym, take, take_rest, state, HasCleanDisk, Trees, Has, all_has, RecordChange, IsInBlock, blocks_tree, changes_so, changes_then, stays_then, quiet_then, no_change, run, run_first, run_long, run_within, AllowsBlocks, TurnsBlock, TurnsBlocks, LacksBlock, none_left}
use Rattle.zeb_packed.proofs.UnitRuns.{LeadsOn, allows_fewer, allows_next, allows_run, none_turned, run_leads}
use Rattle.zeb_packed.proofs.UnitTurns.{run_left}
use Rattle.zeb_packed.proofs.packed_runs.runs_put.Given as given
use Rattle.zeb_packed.proofs.packed_runs.runs_put.Goals.{After-run_put}
use Rattle.zeb_packed.proofs.packed_runs.runs_put.Goals as goal

-- a run of changes of one block, and those behind it
record IsRun (block done n : ℕ) (changes : List RecordChange) : Type 0 where
  inside : (change : RecordChange) → Has (run changes done n) change → change.sysno / 256 ≡ block
  some : run changes done n ≢ []
  left : drop done changes ≡ run changes done n ++ drop (done + length (run changes done n)) changes

is_run : (g : given.Over) (c : After-run_put g) → IsRun ((get_or c.args.changes.now c.loop-done.done no_change).sysno / 256) c.loop-done.done c.run_length.result c.args.changes.now
is_run g c =
    let xs = c.args.changes.now in
    let done = c.loop-done.done in
    let n = c.run_length.result in
    let below : done < length xs = c.loop-done-test.true in
    let some = c.run_length.ensures.some (get_or xs done no_change) (drop (suc done) xs) (run_first xs done n below) refl in
    let long = run_long xs done n c.run_length.ensures.within in
    record {
      inside = λ x here. all_has (IsInBlock ((get_or xs done no_change).sysno / 256)) (run xs done n) x c.run_length.ensures.inside here;
      some = λ none. absurd (omega (arith, some, long, ap length none));
      left = subst (λ r. drop done xs ≡ take n r ++ drop (done + length (take n r)) xs) (sym (take_rest xs done)) (run_left xs done n);
    }

pub loop-done-smaller : goal.loop-done-smaller
loop-done-smaller g c =
    let xs = c.args.changes.now in
    let done = c.loop-done.done in
    let n = c.run_length.result in
    let below : done < length xs = c.loop-done-test.true in
    let some = c.run_length.ensures.some (get_or xs done no_change) (drop (suc done) xs) (run_first xs done n below) refl in
    let long = run_long xs done n c.run_length.ensures.within in
    omega (arith, some, long, below)

pub loop-done-init : goal.loop-done-init
loop-done-init g c = record {
  same = search rules;
  within = search rules;
  crash = search rules;
  stays = search rules;
  few = c.requires.few;
  turned = search rules;
  left = λ clean inside store allows. allows;
}

pub loop-done-preserved : goal.loop-done-preserved
loop-done-preserved g c =
    let first = state g.S.Store c.args.tx.now.conn.now in
    let mid = state g.S.Store c.loop-done.tx.conn.now in
    let last = state g.S.Store c.run_put.new.tx.conn.now in
    let db = c.args.db.0 in
    let key = c.args.key.now in
    let xs = c.args.changes.now in
    let done = c.loop-done.done in
    let n = c.run_length.result in
    let known = c.loop-done.known in
    let next = c.behind-known.result in
    let block = (get_or xs done no_change).sysno / 256 in
    let so_far = c.loop-done.invariant in
    let was : HasCleanDisk last → HasCleanDisk mid = λ clean. omega (arith, c.run_put.ensures.does.crash.clean) in
    let it = c.in_ok-records.ensures in
    let part = is_run g (goal.at.loop-done-preserved g c).After-run_put in
    let Turned : ℕ → Trees → Trees → Type 0 = λ tree a b. TurnsBlock db key block (run xs done n) known.records c.in_ok-records.records a b × (known.clear_from ≤ block → LacksBlock db key block a) in
    record {
      same = search rules;
      within = run_within xs done n so_far.within;
      crash = quiet_then _ _ _ so_far.crash c.run_put.ensures.does.crash;
      stays = λ clean inside.
          let before = so_far.stays (was clean) inside in
          stays_then first mid last before (it.does.ok clean before.inside).on;
      few = subst (λ r. r ≤ 999999999) (sym c.behind-known.ensures.records) it.few;
      turned = λ clean inside store.
          let before = so_far.turned (was clean) inside store in
          let turned = (it.does.ok clean (so_far.stays (was clean) inside).inside).rows before.layout in
          changes_then blocks_tree (LeadsOn db key xs done c.args.known known) Turned (LeadsOn db key xs (done + length (run xs done n)) c.args.known next) first mid last
          (run_leads db key xs done (done + length (run xs done n)) block (run xs done n) part.inside part.some part.left c.args.known known next c.in_ok-records.records c.behind-known.ensures.records c.behind-known.ensures.most first.now.trees mid.now.trees last.now.trees) before turned;
      left = λ clean inside store all.
          let before = so_far.turned (was clean) inside store in
          let turned = (it.does.ok clean (so_far.stays (was clean) inside).inside).rows before.layout in
          let rest = drop (done + length (run xs done n)) xs in
          let here = subst (λ l. AllowsBlocks db key l (λ b. known.clear_from ≤ b) known.records mid.now.trees) part.left (so_far.left (was clean) inside store all) in
          let behind = allows_next db key block (run xs done n) rest part.inside part.some known.records c.in_ok-records.records mid.now.trees last.now.trees turned.rows.0 (λ b. known.clear_from ≤ b) here in
          subst (λ r. AllowsBlocks db key rest (λ b. next.clear_from ≤ b) r last.now.trees) (sym c.behind-known.ensures.records)
          (allows_fewer db key rest (λ b. (known.clear_from ≤ b) × (block < b)) (λ b. next.clear_from ≤ b) c.in_ok-records.records last.now.trees
          (λ b is. (omega (arith, is, c.behind-known.ensures.keeps), omega (arith, is, c.behind-known.ensures.behind))) behind);
    }

pub returns-in_err-records-clause-damaged : goal.returns-in_err-records-clause-damaged
returns-in_err-records-clause-damaged g c clean inside store is all =
    let mid = state g.S.Store c.loop-done.tx.conn.now in
    let db = c.args.db.0 in
    let key = c.args.key.now in
    let xs = c.args.changes.now in
    let done = c.loop-done.done in
    let n = c.run_length.result in
    let known = c.loop-done.known in
    let block = (get_or xs done no_change).sysno / 256 in
    let so_far = c.loop-done.invariant in
    let was : HasCleanDisk mid = omega (arith, c.run_put.ensures.does.crash.clean) in
    let part = is_run g (goal.at.returns-in_err-records-clause-damaged g c).After-run_put in
    let here = subst (λ l. AllowsBlocks db key l (λ b. known.clear_from ≤ b) known.records mid.now.trees) part.left (so_far.left was inside store all) in
    let both = allows_run db key block (run xs done n) (drop (done + length (run xs done n)) xs) part.inside part.some (λ b. known.clear_from ≤ b) known.records mid.now.trees here in
    c.in_err-records.ensures.honest clean (so_far.stays was inside).inside (so_far.turned was inside store).layout (search rules) both.1 both.0

pub returns-clause-turned : goal.returns-clause-turned
returns-clause-turned g c clean inside store =
    let first = state g.S.Store c.args.tx.now.conn.now in
    let mid = state g.S.Store c.loop-done.tx.conn.now in
    let db = c.args.db.0 in
    let key = c.args.key.now in
    let xs = c.args.changes.now in
    let done = c.loop-done.done in
    let known = c.loop-done.known in
    changes_so blocks_tree (LeadsOn db key xs done c.args.known known) (λ tree. TurnsBlocks db key xs (λ b. c.args.known.clear_from ≤ b) c.args.known.records known.records) first mid
    (λ lead. lead mid.now.trees known.records (subst (λ l. TurnsBlocks db key l (λ b. known.clear_from ≤ b) known.records known.records mid.now.trees mid.now.trees) (sym (none_left done xs c.loop-done-test.false))
    (none_turned db key (λ b. known.clear_from ≤ b) known.records mid.now.trees))) (c.loop-done.invariant.turned clean inside store)
