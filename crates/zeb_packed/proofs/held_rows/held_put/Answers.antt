use Rattle.zeb_packed.proofs.Cited.{List, arith, map, rules, subst, sym, state, HasCleanDisk, Changes, blocks_tree, dict_tree, refused_so, AreApart, AreLacking, GainsAll, SomeStands, new_block_row, new_count_row, NewBlock, NewCount}
use Rattle.zeb_packed.proofs.HeldPuts.{held_answers}
use Rattle.zeb_packed.proofs.OpenCalls.{open_err, open_ok, open_then}
use Rattle.zeb_packed.proofs.held_rows.held_put.Goals as goal

pub returns-clause-call : goal.returns-clause-call
returns-clause-call g c = open_ok (open_then c.in_ok-blocks_put.ensures.call c.in_ok-counts_put.ensures.call)

pub returns-in_err-counts_put-clause-call : goal.returns-in_err-counts_put-clause-call
returns-in_err-counts_put-clause-call g c = open_err (open_then c.in_ok-blocks_put.ensures.call c.in_err-counts_put.ensures.call) c.from_residual-in_err-counts_put.result (search rules)

pub returns-clause-put : goal.returns-clause-put
returns-clause-put g c opened apart clean inside store =
    let first = state g.S.Store c.args.tx.now.conn.now in
    let mid = state g.S.Store c.blocks_put.new.tx.conn.now in
    let last = state g.S.Store c.counts_put.new.tx.conn.now in
    let db = c.args.db.0 in
    let was : HasCleanDisk mid = omega (arith, c.counts_put.ensures.call.crash.clean) in
    let goes = (c.in_ok-blocks_put.ensures.call.does opened).ok was inside in
    let blocks = c.deref.ensures.value in
    let put = c.in_ok-blocks_put.ensures.put opened (subst AreApart (sym blocks) apart) was inside store in
    held_answers db c.args.held.now first mid last
    (subst (λ (l : List NewBlock). Changes blocks_tree (GainsAll (map (new_block_row db) l)) first mid) blocks put.0) (subst (λ (l : List NewBlock). AreLacking db l first.now.trees) blocks put.1)
    (subst (λ (l : List NewCount). Changes dict_tree (GainsAll (map (new_count_row db) l)) mid last) c.deref-2.ensures.value (c.in_ok-counts_put.ensures.put goes.is_open clean goes.mode put.0.layout))

pub returns-in_err-blocks_put-clause-put : goal.returns-in_err-blocks_put-clause-put
returns-in_err-blocks_put-clause-put g c opened apart clean inside store =
    let trees = (state g.S.Store c.args.tx.now.conn.now).now.trees in
    let blocks = c.deref.ensures.value in
    refused_so _ _ c.from_residual.result c.in_err-blocks_put.field-0.0 (search rules)
    (λ told. subst (λ (l : List NewBlock). SomeStands c.args.db.0 l trees) blocks (c.in_err-blocks_put.ensures.put opened (subst AreApart (sym blocks) apart) clean inside store told))

pub returns-in_err-blocks_put-clause-call : goal.returns-in_err-blocks_put-clause-call
returns-in_err-blocks_put-clause-call g c = open_err c.in_err-blocks_put.ensures.call c.from_residual.result (search rules)
