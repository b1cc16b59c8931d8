use Rattle.zeb_engine.proofs.Cited.{◌≡◌, Err, ap, pos, rules, subst, state, PutsDatabase, Changes, databases_tree, name_bytes}
use Rattle.zeb_engine.proofs.ChangeNumbers.{row_put}
use Rattle.zeb_engine.proofs.writes.create.Goals as goal

pub returns-in_err-database_put-clause-makes : goal.returns-in_err-database_put-clause-makes
returns-in_err-database_put-clause-makes g c clean inside store =
    let told : c.from_residual.result ≡ Err c.in_err-database_put.field-0.0 = search rules in
    rw told (λ is. c.in_err-database_put.ensures.honest clean inside store (ap Err is))

pub returns-clause-makes : goal.returns-clause-makes
returns-clause-makes g c clean inside store =
    let old = state g.S.Store c.args.tx.now.conn.now in
    let new = state g.S.Store c.database_put.new.tx.conn.now in
    let name = name_bytes c.args.name.now in
    let id = c.in_ok-database_put.field-0.0 in
    (id, row_put old new id name 0 (subst (λ n. Changes databases_tree (PutsDatabase id n (pos 0)) old new) c.as_str.ensures (c.in_ok-database_put.ensures.put clean inside store)))
