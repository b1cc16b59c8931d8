use Rattle.zeb_packed.proofs.Cited.{◌++◌, [], ◌∷◌, subst, Int, state, Alters, key_row, Gains, dict_tree, changes_so, column_is, GainsAll, new_count_row}
use Rattle.zeb_packed.proofs.HeldPuts.{gains_one}
use Rattle.zeb_packed.proofs.OpenCalls.{does_so}
use Rattle.zeb_packed.proofs.held_rows.count_put.Goals as goal

pub returns-clause-call : goal.returns-clause-call
returns-clause-call g c = does_so c.in_ok-dict_add.ensures.call (λ added. added.on)

pub returns-clause-put : goal.returns-clause-put
returns-clause-put g c clean inside store =
    let first = state g.S.Store c.args.tx.now.conn.now in
    let second = state g.S.Store c.dict_add.new.tx.conn.now in
    let one = c.args.one.now in
    let db = c.args.db.0 in
    let row = new_count_row db one in
    let number = column_is c.in_ok-number.ensures.ok.1 c.in_ok-number.ensures.ok.0 in
    let put = subst (λ n. Alters dict_tree (Gains (key_row db one.key.now ++ Int n ∷ [])) first second) number (c.in_ok-dict_add.ensures.call.does.ok clean inside) in
    changes_so dict_tree (Gains row) (GainsAll (row ∷ [])) first second (gains_one row dict_tree first.now.trees second.now.trees) (put.rows store)
