use Rattle.zeb_packed.proofs.Cited.{register_code, register_of, pos, IsRest, dict_tree, ◌∙◌}
use Rattle.zeb_register.proofs.AsksInTurn.{asks_list}
use Rattle.zeb_register.proofs.BoundColumns.{looks_up_so, none_bound, register_bound}
use Rattle.zeb_packed.proofs.PackedStatements.{lists_terms, terms_refused, terms_silent}
use Rattle.zeb_packed.proofs.statements.packed.dict_rows.Goals as goal

pub look_up-requires : goal.look_up-requires
look_up-requires g c = terms_silent

pub returns : goal.returns
returns g c =
    asks_list (IsRest dict_tree (register_of c.args.at.db.0 (pos c.args.at.index) (pos (register_code c.args.at.register)))) (terms_refused c.args.at.db.0 (pos c.args.at.index) (pos (register_code c.args.at.register))) _ _ c.look_up.result
    (λ rows store shown. lists_terms c.args.at.db.0 (pos c.args.at.index) (pos (register_code c.args.at.register)) _ _ rows store shown)
    (looks_up_so c.look_up.ensures (register_bound c.column-db.ensures.fits c.column-db.ensures.value (c.from-reg.ensures ∙ c.code.ensures) c.params-to_sql.ensures c.params-to_sql-2.ensures c.params-to_sql-3.ensures
    none_bound))
