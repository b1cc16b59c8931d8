use Rattle.zeb_leaves.proofs.Cited.{rules, ◌∙◌, refl, pos, register_code, shown_greatest, below_query, below_shown}
use Rattle.zeb_register.proofs.BoundColumns.{none_bound, register_bound, value_bound}
use Rattle.zeb_leaves.proofs.InsideCalls.{tells_last}
use Rattle.zeb_leaves.proofs.statements_inside.leaf_of_terms_below_inside.Goals as goal

pub last_shown-requires : goal.last_shown-requires
last_shown-requires g c = (below_query c.args.at.db.0 (pos c.args.at.index) (pos (register_code c.args.at.register)) c.args.term.now).silent

pub returns : goal.returns
returns g c = record {
  same = search rules;
  looks = tells_last _ _ _ c.last_shown.result c.last_shown.ensures.does
      (register_bound c.column-db.ensures.fits c.column-db.ensures.value (c.from-reg.ensures ∙ c.code.ensures) c.params-to_sql.ensures c.params-to_sql-2.ensures c.params-to_sql-3.ensures
      (value_bound c.params-to_sql-4.ensures refl (value_bound c.params-to_sql-5.ensures refl none_bound)))
      (λ rows found store shown last. shown_greatest _ rows found last (below_shown _ store c.args.at.db.0 (pos c.args.at.index) (pos (register_code c.args.at.register)) c.args.term.now _ rows shown));
}
