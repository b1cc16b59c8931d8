use Rattle.zeb_packed.proofs.Cited.{◌≡◌, ◌∙◌, ◌+◌, ◌*◌, Works, length, suc, ◌∷◌, ap, arith, drop, drop-cons, inl, refl, rules, subst, sym, state, HasCleanDisk, refused_so, AreToldNew, fault_met, rise_left, packed_blocks, NumbersRise, KeyChanges}
use Rattle.sqlite_trees.proofs.ListLemmas.{all-get_or}
use Rattle.zeb_packed.proofs.HeldRuns.{HoldsSoFar, holds_all, holds_none, key_more, key_refused}
use Rattle.zeb_packed.proofs.NewKeys.{told_more}
use Rattle.zeb_register.proofs.RunCounts.{none_run, work_all, work_begun, work_more}
use Rattle.zeb_packed.proofs.OpenCalls.{open_err, open_ok, open_still, open_then}
use Rattle.zeb_packed.proofs.held_runs.keys_turned.Goals as goal

pub loop-one-init : goal.loop-one-init
loop-one-init g c =
    let first = state g.S.Store c.args.tx.now.conn.now in
    record {
      call = open_still c.args.tx.now.conn;
      holds = λ clean inside opened store told. (store, told, holds_none c.args.db.0 c.args.run.now first.now.trees _ c.new-held.ensures.blocks c.new-held.ensures.counts);
      work = work_begun packed_blocks 1 c.args.run.now first.now.trees first.now.trees c.args.work.now refl;
    }

pub key_turned-requires : goal.key_turned-requires
key_turned-requires g c = record {
  rising = subst (λ (one : KeyChanges). NumbersRise one.changes.now) (sym c.one-item.is)
      (all-get_or (λ (one : KeyChanges). NumbersRise one.changes.now) c.args.run.now c.loop-one.one-index c.one-item.result c.requires.rising.numbers c.loop-one-test.true);
}

pub loop-one-preserved : goal.loop-one-preserved
loop-one-preserved g c =
    let first = state g.S.Store c.args.tx.now.conn.now in
    let mid = state g.S.Store c.loop-one.tx.conn.now in
    let last = state g.S.Store c.key_turned.new.tx.conn.now in
    let db = c.args.db.0 in
    let xs = c.args.run.now in
    let i = c.loop-one.one-index in
    let x = c.one-item.result in
    let so_far = c.loop-one.invariant in
    let it = c.in_ok-key_turned.ensures in
    let is : drop i xs ≡ x ∷ drop (suc i) xs = drop-cons xs i x c.loop-one-test.true ∙ ap (λ y. y ∷ drop (suc i) xs) (sym c.one-item.is) in
    let more : suc i ≡ i + 1 = omega arith in
    record {
      call = open_then so_far.call it.call;
      holds = λ clean inside opened store told.
          let was : HasCleanDisk mid = omega (arith, c.key_turned.ensures.call.crash.clean) in
          let on = (so_far.call.does opened).ok was inside in
          let before = so_far.holds was inside opened store told in
          let left = subst (λ l. AreToldNew c.args.of_run.are_new db l mid.now.trees) is before.1 in
          let turned = it.turned on.is_open clean on.mode before.0 (left x (inl refl)) in
          let here = subst (λ l. HoldsSoFar db xs l first.now.trees mid.now.trees c.loop-one.held) is before.2 in
          let rising = rise_left i xs x (drop (suc i) xs) is c.requires.rising.keys in (
            turned.0,
            subst (λ n. AreToldNew c.args.of_run.are_new db (drop n xs) last.now.trees) more
                (told_more c.args.of_run.are_new db x (drop (suc i) xs) rising mid.now.trees last.now.trees c.loop-one.held c.key_turned.new.held left turned.1),
            subst (λ n. HoldsSoFar db xs (drop n xs) first.now.trees last.now.trees c.key_turned.new.held) more
                (key_more db xs x (drop (suc i) xs) rising first.now.trees mid.now.trees c.loop-one.held here last.now.trees c.key_turned.new.held turned.1),
          );
      work = let one : 1 * length x.changes.now ≡ length x.changes.now = omega arith in
          work_more packed_blocks 1 xs i x first.now.trees mid.now.trees last.now.trees c.args.work.now c.loop-one.work c.count_rows.new.work is c.counts_are_numbers.ensures so_far.work (subst (λ n. Works n n n n c.loop-one.work c.count_rows.new.work) (sym one) c.count_rows.ensures);
    }

pub returns-clause-call : goal.returns-clause-call
returns-clause-call g c = open_ok c.loop-one.invariant.call

pub returns-clause-holds : goal.returns-clause-holds
returns-clause-holds g c opened clean inside store told =
    let first = state g.S.Store c.args.tx.now.conn.now in
    let now = state g.S.Store c.loop-one.tx.conn.now in
    let so_far = c.loop-one.invariant.holds clean inside opened store told in (
      so_far.0,
      holds_all c.args.db.0 c.args.run.now (drop c.loop-one.one-index c.args.run.now) first.now.trees now.now.trees c.loop-one.held (none_run c.loop-one.one-index c.args.run.now c.loop-one-test.false) so_far.2,
    )

pub returns-clause-work : goal.returns-clause-work
returns-clause-work g c = work_all packed_blocks 1 c.args.run.now c.loop-one.one-index (state g.S.Store c.args.tx.now.conn.now).now.trees (state g.S.Store c.loop-one.tx.conn.now).now.trees c.args.work.now c.loop-one.work (none_run c.loop-one.one-index c.args.run.now c.loop-one-test.false) c.loop-one.invariant.work

pub returns-in_err-key_turned-clause-call : goal.returns-in_err-key_turned-clause-call
returns-in_err-key_turned-clause-call g c = open_err (open_then c.loop-one.invariant.call c.in_err-key_turned.ensures.call) c.from_residual.result (search rules)

pub returns-in_err-key_turned-clause-holds : goal.returns-in_err-key_turned-clause-holds
returns-in_err-key_turned-clause-holds g c opened clean inside store told =
    let first = state g.S.Store c.args.tx.now.conn.now in
    let mid = state g.S.Store c.loop-one.tx.conn.now in
    let db = c.args.db.0 in
    let xs = c.args.run.now in
    let i = c.loop-one.one-index in
    let x = c.one-item.result in
    let fault = c.in_err-key_turned.field-0.0 in
    let so_far = c.loop-one.invariant in
    let was : HasCleanDisk mid = omega (arith, c.key_turned.ensures.call.crash.clean) in
    let is : drop i xs ≡ x ∷ drop (suc i) xs = drop-cons xs i x c.loop-one-test.true ∙ ap (λ y. y ∷ drop (suc i) xs) (sym c.one-item.is) in
    let on = (so_far.call.does opened).ok was inside in
    let before = so_far.holds was inside opened store told in
    let left = subst (λ l. AreToldNew c.args.of_run.are_new db l mid.now.trees) is before.1 in
    let here = subst (λ l. HoldsSoFar db xs l first.now.trees mid.now.trees c.loop-one.held) is before.2 in
    let refused = c.in_err-key_turned.ensures.turned on.is_open clean on.mode before.0 (left x (inl refl)) in
    refused_so _ _ c.from_residual.result fault (fault_met c.from_residual.result fault c.from_residual.ensures.1)
    (key_refused db xs x (drop (suc i) xs) (rise_left i xs x (drop (suc i) xs) is c.requires.rising.keys) first.now.trees mid.now.trees c.loop-one.held here fault refused)
