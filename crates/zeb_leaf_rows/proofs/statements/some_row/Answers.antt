use Rattle.zeb_leaf_rows.proofs.Cited.{pos, register_code, HasBlockFrom, IsRest, ShowsSome, blocks_tree, ◌∙◌, refl}
use Rattle.zeb_register.proofs.AsksInTurn.{asks_rows}
use Rattle.zeb_register.proofs.BoundColumns.{looks_up_so, none_bound, register_bound, value_bound}
use Rattle.zeb_register.proofs.PostingStatements.{register_of}
use Rattle.zeb_register.proofs.Refusals.{refused}
use Rattle.zeb_leaf_rows.proofs.LeafStatements.{any_query, any_shown}
use Rattle.zeb_leaf_rows.proofs.statements.some_row.Goals as goal

pub look_up-requires : goal.look_up-requires
look_up-requires g c = (any_query c.args.at.db.0 (pos c.args.at.index) (pos (register_code c.args.at.register))).silent

pub returns : goal.returns
returns g c =
    asks_rows (λ trees. ShowsSome (λ row. IsRest blocks_tree (register_of c.args.at.db.0 (pos c.args.at.index) (pos (register_code c.args.at.register))) trees row × HasBlockFrom 0 row)) (refused (any_query c.args.at.db.0 (pos c.args.at.index) (pos (register_code c.args.at.register)))) _ _ c.look_up.result
    (λ rows store shown. any_shown _ store c.args.at.db.0 (pos c.args.at.index) (pos (register_code c.args.at.register)) _ rows shown)
    (looks_up_so c.look_up.ensures (register_bound c.column-db.ensures.fits c.column-db.ensures.value (c.from-reg.ensures ∙ c.code.ensures) c.params-to_sql.ensures c.params-to_sql-2.ensures c.params-to_sql-3.ensures
    (value_bound c.params-to_sql-4.ensures refl none_bound)))
