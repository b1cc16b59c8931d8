use Rattle.zeb_leaf_rows.proofs.Cited.{Text, ◌≡◌, false, true, pos, column, register_code, HasBlockFrom, IsRest, blocks_tree, ◌∙◌, refl}
use Rattle.zeb_register.proofs.AsksInTurn.{asks_list}
use Rattle.std.specs.Ordering.{is_lt}
use Rattle.sqlite.specs.Order.{value_cmp}
use Rattle.zeb_register.proofs.BoundColumns.{looks_up_so, none_bound, register_bound, value_bound}
use Rattle.zeb_register.proofs.PostingStatements.{register_of}
use Rattle.zeb_register.proofs.Refusals.{refused}
use Rattle.zeb_leaf_rows.proofs.LeafStatements.{between_listed, between_query}
use Rattle.zeb_leaf_rows.proofs.statements.rows_between.Goals as goal

pub look_up-requires : goal.look_up-requires
look_up-requires g c = (between_query c.args.at.db.0 (pos c.args.at.index) (pos (register_code c.args.at.register)) c.args.first.now c.args.end.now).silent

pub returns : goal.returns
returns g c =
    asks_list (λ trees row. (IsRest blocks_tree (register_of c.args.at.db.0 (pos c.args.at.index) (pos (register_code c.args.at.register))) trees row × (is_lt (value_cmp (column row 0) (Text c.args.first.now)) ≡ false) × (is_lt (value_cmp (column row 0) (Text c.args.end.now)) ≡ true)) × HasBlockFrom 0 row) (refused (between_query c.args.at.db.0 (pos c.args.at.index) (pos (register_code c.args.at.register)) c.args.first.now c.args.end.now)) _ _ c.look_up.result
    (λ rows store shown. between_listed c.args.at.db.0 (pos c.args.at.index) (pos (register_code c.args.at.register)) c.args.first.now c.args.end.now _ _ rows store shown)
    (looks_up_so c.look_up.ensures (register_bound c.column-db.ensures.fits c.column-db.ensures.value (c.from-reg.ensures ∙ c.code.ensures) c.params-to_sql.ensures c.params-to_sql-2.ensures c.params-to_sql-3.ensures
    (value_bound c.params-to_sql-4.ensures refl (value_bound c.params-to_sql-5.ensures refl (value_bound c.params-to_sql-6.ensures refl none_bound)))))
