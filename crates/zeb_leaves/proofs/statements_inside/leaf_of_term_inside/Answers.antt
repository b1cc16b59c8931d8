use Rattle.zeb_leaves.proofs.Cited.{rules, ◌∙◌, refl, pos, register_code, shown_greatest, of_term_query, of_term_shown}
use Rattle.zeb_register.proofs.BoundColumns.{none_bound, number_bound, register_bound, value_bound}
use Rattle.zeb_leaves.proofs.InsideCalls.{tells_last}
use Rattle.zeb_leaves.proofs.statements_inside.leaf_of_term_inside.Goals as goal

pub last_shown-requires : goal.last_shown-requires
last_shown-requires g c = (of_term_query c.args.at.db.0 (pos c.args.at.index) (pos (register_code c.args.at.register)) c.args.term.now c.args.end).silent

pub returns : goal.returns
returns g c = record {
  same = search rules;
  looks = tells_last _ _ _ c.last_shown.result c.last_shown.ensures.does
      (register_bound c.column-db.ensures.fits c.column-db.ensures.value (c.from-reg.ensures ∙ c.code.ensures) c.params-to_sql.ensures c.params-to_sql-2.ensures c.params-to_sql-3.ensures
      (value_bound c.params-to_sql-4.ensures refl (value_bound c.params-to_sql-5.ensures refl (number_bound c.ranges.end refl c.params-to_sql-6.ensures none_bound))))
      (λ rows found store shown last. shown_greatest _ rows found last (of_term_shown _ store c.args.at.db.0 (pos c.args.at.index) (pos (register_code c.args.at.register)) c.args.term.now c.args.end _ rows shown));
}
