use Rattle.zeb_register.proofs.Cited.{state, Int, [], ◌∷◌, records_tree, IsRest}
use Rattle.zeb_register.proofs.ContentLemmas.{one_list}
use Rattle.zeb_register.proofs.DatabaseStatements.{one_name}
use Rattle.zeb_register.proofs.RowsAreLists.{one_text, one_last, one_number, one_ident}
use Rattle.zeb_register.proofs.lists.rows_are_lists.Goals as goal

pub returns-clause-texts : goal.returns-clause-texts
returns-clause-texts g c store = one_text (state g.S.Store c.args.conn.now) store

pub returns-clause-ids : goal.returns-clause-ids
returns-clause-ids g c store = one_last (state g.S.Store c.args.conn.now) store

pub returns-clause-names : goal.returns-clause-names
returns-clause-names g c store one two name last other = one_name (state g.S.Store c.args.conn.now) one two name last other store

pub returns-clause-numbers : goal.returns-clause-numbers
returns-clause-numbers g c store = one_number (state g.S.Store c.args.conn.now) store

pub returns-clause-idents : goal.returns-clause-idents
returns-clause-idents g c store = one_ident (state g.S.Store c.args.conn.now) store

pub returns-clause-lists : goal.returns-clause-lists
returns-clause-lists g c trees db = one_list (IsRest records_tree (Int db ∷ []) trees)
