use Rattle.zeb_leaves.proofs.Cited.{Text, ◌≡◌, ◌∙◌, false, pos, refl, column, register_code, HasBlockFrom, IsRest, blocks_tree, value_cmp, is_lt, ListsFront, register_of, refused}
use Rattle.zeb_register.proofs.AsksInTurn.{asks_rows}
use Rattle.zeb_register.proofs.BoundColumns.{looks_up_so, none_bound, register_bound, value_bound}
use Rattle.zeb_leaves.proofs.NearStatements.{first_listed, first_query}
use Rattle.zeb_leaves.proofs.near_rows.first_rows.Goals as goal

pub look_up-requires : goal.look_up-requires
look_up-requires g c = (first_query c.args.at.db.0 (pos c.args.at.index) (pos (register_code c.args.at.register)) c.args.start.now c.args.limit).silent

pub returns : goal.returns
returns g c =
    asks_rows (λ trees. ListsFront c.args.limit (λ row. IsRest blocks_tree (register_of c.args.at.db.0 (pos c.args.at.index) (pos (register_code c.args.at.register))) trees row × (is_lt (value_cmp (column row 0) (Text c.args.start.now)) ≡ false) × HasBlockFrom 0 row)) (refused (first_query c.args.at.db.0 (pos c.args.at.index) (pos (register_code c.args.at.register)) c.args.start.now c.args.limit)) _ _ c.look_up.result
    (λ rows store shown. first_listed c.args.at.db.0 (pos c.args.at.index) (pos (register_code c.args.at.register)) c.args.start.now c.args.limit _ _ rows store shown)
    (looks_up_so c.look_up.ensures (register_bound c.column-db.ensures.fits c.column-db.ensures.value (c.from-reg.ensures ∙ c.code.ensures) c.params-to_sql.ensures c.params-to_sql-2.ensures c.params-to_sql-3.ensures
    (value_bound c.params-to_sql-4.ensures refl (value_bound c.params-to_sql-5.ensures refl (value_bound c.params-to_sql-6.ensures refl none_bound)))))
