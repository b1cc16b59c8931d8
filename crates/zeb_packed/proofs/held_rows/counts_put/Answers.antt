use Rattle.zeb_packed.proofs.Cited.{◌++◌, ◌-◌, [], List, arith, drop, length, rules, map, subst, sym, take, state, HasCleanDisk, Changes, dict_tree, changes_none, changes_then, GainsAll, new_count_row, NewCount}
use Rattle.zeb_packed.proofs.HeldPuts.{all_taken, count_within, gains_none, gains_then, some_left, taken_more}
use Rattle.zeb_packed.proofs.OpenCalls.{open_err, open_of, open_ok, open_still, open_then}
use Rattle.zeb_packed.proofs.held_rows.counts_put.Goals as goal

pub loop-done-init : goal.loop-done-init
loop-done-init g c =
    let first = state g.S.Store c.args.tx.now.conn.now in
    record {
      call = open_still c.args.tx.now.conn;
      within = omega arith;
      put = λ clean inside opened store. changes_none dict_tree (GainsAll (map (new_count_row c.args.db.0) [])) first (gains_none (new_count_row c.args.db.0) dict_tree first.now.trees) store;
    }

pub front_counts_put-requires : goal.front_counts_put-requires
front_counts_put-requires g c = some_left c.args.counts.now c.loop-done.done c.loop-done-test.true

pub loop-done-preserved : goal.loop-done-preserved
loop-done-preserved g c =
    let first = state g.S.Store c.args.tx.now.conn.now in
    let mid = state g.S.Store c.loop-done.tx.conn.now in
    let last = state g.S.Store c.front_counts_put.new.tx.conn.now in
    let counts = c.args.counts.now in
    let done = c.loop-done.done in
    let count = c.in_ok-done.field-0 in
    let so_far = c.loop-done.invariant in
    let it = c.in_ok-done.ensures in
    let front = take count (take (length counts - done) (drop done counts)) in
    let row_of = new_count_row c.args.db.0 in
    record {
      call = open_ok (open_then so_far.call (open_of it.call (λ x opened goes. goes)));
      within = count_within counts done count so_far.within it.further.1;
      put = λ clean inside opened store.
          let was : HasCleanDisk mid = omega (arith, c.front_counts_put.ensures.call.does.crash.clean) in
          let before = so_far.put was inside opened store in
          subst (λ (l : List NewCount). Changes dict_tree (GainsAll (map row_of l)) first last) (sym (taken_more counts done count))
          (changes_then dict_tree (GainsAll (map row_of (take done counts))) (GainsAll (map row_of front)) (GainsAll (map row_of (take done counts ++ front))) first mid last
          (gains_then row_of (take done counts) front dict_tree first.now.trees mid.now.trees last.now.trees) before
          (it.put clean ((so_far.call.does opened).ok was inside).mode before.layout));
    }

pub returns-clause-call : goal.returns-clause-call
returns-clause-call g c = open_ok c.loop-done.invariant.call

pub returns-clause-put : goal.returns-clause-put
returns-clause-put g c opened clean inside store =
    subst (λ (l : List NewCount). Changes dict_tree (GainsAll (map (new_count_row c.args.db.0) l)) (state g.S.Store c.args.tx.now.conn.now) (state g.S.Store c.loop-done.tx.conn.now))
    (all_taken c.args.counts.now c.loop-done.done c.loop-done-test.false) (c.loop-done.invariant.put clean inside opened store)

pub returns-in_err-done-clause-call : goal.returns-in_err-done-clause-call
returns-in_err-done-clause-call g c = open_err (open_then c.loop-done.invariant.call (open_of c.in_err-done.ensures.call (λ x opened goes. goes))) c.from_residual.result (search rules)
