use Rattle.zeb_packed.proofs.Cited.{pos, register_code, IsRestBetween, blocks_tree, register_of, ◌∙◌, refl}
use Rattle.zeb_register.proofs.AsksInTurn.{asks_list}
use Rattle.zeb_register.proofs.BoundColumns.{looks_up_so, none_bound, register_bound, value_bound}
use Rattle.zeb_packed.proofs.BetweenStatements.{lists_blocks, blocks_refused, blocks_silent}
use Rattle.zeb_packed.proofs.statements.between.block_rows_between.Goals as goal

pub look_up-requires : goal.look_up-requires
look_up-requires g c = blocks_silent

pub returns : goal.returns
returns g c =
    asks_list (IsRestBetween blocks_tree (register_of c.args.at.db.0 (pos c.args.at.index) (pos (register_code c.args.at.register))) c.args.first.now c.args.end.now) (blocks_refused c.args.at.db.0 (pos c.args.at.index) (pos (register_code c.args.at.register)) c.args.first.now c.args.end.now) _ _ c.look_up.result
    (λ rows store shown. lists_blocks c.args.at.db.0 (pos c.args.at.index) (pos (register_code c.args.at.register)) c.args.first.now c.args.end.now _ _ rows store shown)
    (looks_up_so c.look_up.ensures (register_bound c.column-db.ensures.fits c.column-db.ensures.value (c.from-reg.ensures ∙ c.code.ensures) c.params-to_sql.ensures c.params-to_sql-2.ensures c.params-to_sql-3.ensures
    (value_bound c.params-to_sql-4.ensures refl (value_bound c.params-to_sql-5.ensures refl none_bound))))
