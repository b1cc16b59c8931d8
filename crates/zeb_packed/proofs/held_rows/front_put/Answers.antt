use Rattle.zeb_packed.proofs.Cited.{rules, state, refused_so, MANY}
use Rattle.zeb_packed.proofs.HeldPuts.{stands_first, stands_in_front}
use Rattle.zeb_packed.proofs.held_rows.front_put.Goals as goal

pub returns-in_err-one_put-clause-put : goal.returns-in_err-one_put-clause-put
returns-in_err-one_put-clause-put g c clean inside store = refused_so _ _ c.from_residual.result c.in_err-one_put.field-0.0 (search rules)
    (λ told. stands_first c.args.db.0 c.args.blocks.now c.index-blocks-0.result (state g.S.Store c.args.tx.now.conn.now).now.trees c.requires c.index-blocks-0.is (c.in_err-one_put.ensures.put clean inside store told))

pub returns-in_err-many_put-clause-put : goal.returns-in_err-many_put-clause-put
returns-in_err-many_put-clause-put g c clean inside store = refused_so _ _ c.from_residual-in_err-many_put.result c.in_err-many_put.field-0.0 (search rules)
    (λ told. stands_in_front c.args.db.0 c.args.blocks.now MANY (state g.S.Store c.args.tx.now.conn.now).now.trees (c.in_err-many_put.ensures.put clean inside store told))
