use Rattle.zeb_register.proofs.Cited.{pos, register_code, HasTerm, ShowsNearest, Comes, ◌∙◌, refl}
use Rattle.zeb_register.proofs.AsksInTurn.{asks_rows}
use Rattle.zeb_register.proofs.TermStatements.{shows_least, from_query}
use Rattle.zeb_register.proofs.BoundColumns.{looks_up_so, none_bound, register_bound, value_bound}
use Rattle.zeb_register.proofs.Refusals.{refused}
use Rattle.zeb_register.proofs.statements.postings.rows_from.Goals as goal

pub look_up-requires : goal.look_up-requires
look_up-requires g c = (from_query c.args.at.db.0 (pos c.args.at.index) (pos (register_code c.args.at.register)) c.args.start.now).silent

pub returns : goal.returns
returns g c =
    asks_rows (λ trees. ShowsNearest (λ term. HasTerm trees c.args.at.db.0 (pos c.args.at.index) (pos (register_code c.args.at.register)) term × ¬ Comes term c.args.start.now) Comes) (refused (from_query c.args.at.db.0 (pos c.args.at.index) (pos (register_code c.args.at.register)) c.args.start.now)) _ _ c.look_up.result
    (λ rows store shown. shows_least _ store c.args.at.db.0 (pos c.args.at.index) (pos (register_code c.args.at.register)) c.args.start.now _ rows shown)
    (looks_up_so c.look_up.ensures (register_bound c.column-db.ensures.fits c.column-db.ensures.value (c.from-reg.ensures ∙ c.code.ensures) c.params-to_sql.ensures c.params-to_sql-2.ensures c.params-to_sql-3.ensures
    (value_bound c.params-to_sql-4.ensures refl none_bound)))
