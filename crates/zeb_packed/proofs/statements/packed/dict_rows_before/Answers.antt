use Rattle.zeb_packed.proofs.Cited.{◌≡◌, pos, List, Int, Row, as_count, limited, register_code, IsRestBefore, IsFallingListOf, dict_tree, register_of, ◌∙◌, refl}
use Rattle.zeb_register.proofs.AsksInTurn.{asks_rows}
use Rattle.zeb_register.proofs.BoundColumns.{looks_up_so, none_bound, number_bound, register_bound, value_bound}
use Rattle.zeb_packed.proofs.PackedStatements.{before_refused, lists_before, before_silent}
use Rattle.zeb_packed.proofs.statements.packed.dict_rows_before.Goals as goal

pub look_up-requires : goal.look_up-requires
look_up-requires g c = before_silent

pub returns : goal.returns
returns g c =
    asks_rows (λ trees rows. (all : List Row) × IsFallingListOf (IsRestBefore dict_tree (register_of c.args.at.db.0 (pos c.args.at.index) (pos (register_code c.args.at.register))) c.args.start.now trees) all × (rows ≡ limited (as_count (Int c.args.limit)) all)) (before_refused c.args.at.db.0 (pos c.args.at.index) (pos (register_code c.args.at.register)) c.args.start.now c.args.limit) _ _ c.look_up.result
    (λ rows store shown. lists_before c.args.at.db.0 (pos c.args.at.index) (pos (register_code c.args.at.register)) c.args.start.now c.args.limit _ _ rows store shown)
    (looks_up_so c.look_up.ensures (register_bound c.column-db.ensures.fits c.column-db.ensures.value (c.from-reg.ensures ∙ c.code.ensures) c.params-to_sql.ensures c.params-to_sql-2.ensures c.params-to_sql-3.ensures
    (value_bound c.params-to_sql-4.ensures refl (number_bound c.ranges.limit refl c.params-to_sql-5.ensures none_bound))))
