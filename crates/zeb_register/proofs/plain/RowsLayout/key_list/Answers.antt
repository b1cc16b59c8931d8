use Rattle.zeb_register.proofs.Cited.{state, subst, key_in, plain_rows, ListsKey}
use Rattle.zeb_register.proofs.plain.RowsLayout.key_list.Goals as goal

pub returns-clause-units : goal.returns-clause-units
returns-clause-units g c =
    let key = c.args.key.now in
    subst (λ t. ListsKey plain_rows c.args.db.0 (key_in key.index key.register t) (state g.S.Store c.args.conn.now) (state g.S.Store c.postings_under.new.conn) c.postings_under.result) c.as_str.ensures c.postings_under.ensures
