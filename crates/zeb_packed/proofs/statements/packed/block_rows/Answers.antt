use Rattle.zeb_packed.proofs.Cited.{register_code, pos, IsRest, blocks_tree, key_of, ◌∙◌, refl}
use Rattle.zeb_register.proofs.AsksInTurn.{asks_list}
use Rattle.zeb_register.proofs.BoundColumns.{looks_up_so, none_bound, register_bound, value_bound}
use Rattle.zeb_packed.proofs.PackedStatements.{blocks_refused, lists_blocks, key_silent}
use Rattle.zeb_packed.proofs.statements.packed.block_rows.Goals as goal

pub look_up-requires : goal.look_up-requires
look_up-requires g c = key_silent

pub returns : goal.returns
returns g c =
    asks_list (IsRest blocks_tree (key_of c.args.at.db.0 (pos c.args.at.index) (pos (register_code c.args.at.register)) c.args.term.now)) (blocks_refused c.args.at.db.0 (pos c.args.at.index) (pos (register_code c.args.at.register)) c.args.term.now) _ _ c.look_up.result
    (λ rows store shown. lists_blocks c.args.at.db.0 (pos c.args.at.index) (pos (register_code c.args.at.register)) c.args.term.now _ _ rows store shown)
    (looks_up_so c.look_up.ensures (register_bound c.column-db.ensures.fits c.column-db.ensures.value (c.from-reg.ensures ∙ c.code.ensures) c.params-to_sql.ensures c.params-to_sql-2.ensures c.params-to_sql-3.ensures
    (value_bound c.params-to_sql-4.ensures refl none_bound)))
