use Rattle.zeb_packed.proofs.Cited.{◌++◌, [], List, arith, rules, map, subst, sym, take, drop, length, ◌-◌, state, HasCleanDisk, blocks_tree, changes_none, changes_then, refused_so, Changes, AreLacking, GainsAll, new_block_row, NewBlock}
use Rattle.zeb_packed.proofs.HeldPuts.{all_taken, count_within, gains_none, gains_then, lacking_more, some_left, stands_all, taken_more}
use Rattle.zeb_packed.proofs.OpenCalls.{open_err, open_of, open_ok, open_still, open_then}
use Rattle.zeb_packed.proofs.held_rows.blocks_put.Goals as goal

pub loop-done-init : goal.loop-done-init
loop-done-init g c =
    let first = state g.S.Store c.args.tx.now.conn.now in
    record {
      call = open_still c.args.tx.now.conn;
      within = omega arith;
      put = λ clean inside opened store. changes_none blocks_tree (GainsAll (map (new_block_row c.args.db.0) [])) first (gains_none (new_block_row c.args.db.0) blocks_tree first.now.trees) store;
      lacking = λ clean inside opened store one none. absurd none;
    }

pub front_put-requires : goal.front_put-requires
front_put-requires g c = some_left c.args.blocks.now c.loop-done.done c.loop-done-test.true

pub loop-done-preserved : goal.loop-done-preserved
loop-done-preserved g c =
    let first = state g.S.Store c.args.tx.now.conn.now in
    let mid = state g.S.Store c.loop-done.tx.conn.now in
    let last = state g.S.Store c.front_put.new.tx.conn.now in
    let blocks = c.args.blocks.now in
    let done = c.loop-done.done in
    let count = c.in_ok-done.field-0 in
    let so_far = c.loop-done.invariant in
    let was : HasCleanDisk last → HasCleanDisk mid = λ clean. omega (arith, c.front_put.ensures.call.does.crash.clean) in
    let it = c.in_ok-done.ensures in
    let front = take count (take (length blocks - done) (drop done blocks)) in
    let row_of = new_block_row c.args.db.0 in
    record {
      call = open_ok (open_then so_far.call (open_of it.call (λ x opened goes. goes)));
      within = count_within blocks done count so_far.within it.further.1;
      put = λ clean inside opened store.
          let before = so_far.put (was clean) inside opened store in
          let put = (it.put clean ((so_far.call.does opened).ok (was clean) inside).mode before.layout).0 in
          subst (λ (l : List NewBlock). Changes blocks_tree (GainsAll (map row_of l)) first last) (sym (taken_more blocks done count))
          (changes_then blocks_tree (GainsAll (map row_of (take done blocks))) (GainsAll (map row_of front)) (GainsAll (map row_of (take done blocks ++ front))) first mid last
          (gains_then row_of (take done blocks) front blocks_tree first.now.trees mid.now.trees last.now.trees) before put);
      lacking = λ clean inside opened store.
          let before = so_far.put (was clean) inside opened store in
          let lacked = (it.put clean ((so_far.call.does opened).ok (was clean) inside).mode before.layout).1 in
          subst (λ (l : List NewBlock). AreLacking c.args.db.0 l first.now.trees) (sym (taken_more blocks done count))
          (lacking_more c.args.db.0 (take done blocks) front first.now.trees mid.now.trees before.rows (so_far.lacking (was clean) inside opened store) lacked);
    }

pub returns-clause-call : goal.returns-clause-call
returns-clause-call g c = open_ok c.loop-done.invariant.call

pub returns-clause-put : goal.returns-clause-put
returns-clause-put g c opened apart clean inside store =
    let first = state g.S.Store c.args.tx.now.conn.now in
    let now = state g.S.Store c.loop-done.tx.conn.now in
    let all = all_taken c.args.blocks.now c.loop-done.done c.loop-done-test.false in (
      subst (λ (l : List NewBlock). Changes blocks_tree (GainsAll (map (new_block_row c.args.db.0) l)) first now) all (c.loop-done.invariant.put clean inside opened store),
      subst (λ (l : List NewBlock). AreLacking c.args.db.0 l first.now.trees) all (c.loop-done.invariant.lacking clean inside opened store),
    )

pub returns-in_err-done-clause-call : goal.returns-in_err-done-clause-call
returns-in_err-done-clause-call g c = open_err (open_then c.loop-done.invariant.call (open_of c.in_err-done.ensures.call (λ x opened goes. goes))) c.from_residual.result (search rules)

pub returns-in_err-done-clause-put : goal.returns-in_err-done-clause-put
returns-in_err-done-clause-put g c opened apart clean inside store =
    let first = state g.S.Store c.args.tx.now.conn.now in
    let mid = state g.S.Store c.loop-done.tx.conn.now in
    let so_far = c.loop-done.invariant in
    let was : HasCleanDisk mid = omega (arith, c.front_put.ensures.call.does.crash.clean) in
    let before = so_far.put was inside opened store in
    refused_so _ _ c.from_residual.result c.in_err-done.field-0.0 (search rules)
    (λ told. stands_all c.args.db.0 c.args.blocks.now c.loop-done.done first.now.trees mid.now.trees apart before.rows (c.in_err-done.ensures.put clean ((so_far.call.does opened).ok was inside).mode before.layout told))
