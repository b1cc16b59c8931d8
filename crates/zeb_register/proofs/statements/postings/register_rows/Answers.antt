use Rattle.zeb_register.proofs.Cited.{register_code, Int, pos, [], ◌∷◌, IsRest, postings_tree, ◌∙◌}
use Rattle.zeb_register.proofs.AsksInTurn.{asks_list}
use Rattle.zeb_register.proofs.PostingStatements.{lists_register, register_query}
use Rattle.zeb_register.proofs.BoundColumns.{looks_up_so, none_bound, register_bound}
use Rattle.zeb_register.proofs.Refusals.{refused}
use Rattle.zeb_register.proofs.statements.postings.register_rows.Goals as goal

pub look_up-requires : goal.look_up-requires
look_up-requires g c = (register_query c.args.at.db.0 (pos c.args.at.index) (pos (register_code c.args.at.register))).silent

pub returns : goal.returns
returns g c =
    asks_list (IsRest postings_tree (Int c.args.at.db.0 ∷ Int (pos c.args.at.index) ∷ Int (pos (register_code c.args.at.register)) ∷ [])) (refused (register_query c.args.at.db.0 (pos c.args.at.index) (pos (register_code c.args.at.register)))) _ _ c.look_up.result
    (λ rows store shown. lists_register c.args.at.db.0 (pos c.args.at.index) (pos (register_code c.args.at.register)) _ _ rows store shown)
    (looks_up_so c.look_up.ensures (register_bound c.column-db.ensures.fits c.column-db.ensures.value (c.from-reg.ensures ∙ c.code.ensures) c.params-to_sql.ensures c.params-to_sql-2.ensures c.params-to_sql-3.ensures
    none_bound))
