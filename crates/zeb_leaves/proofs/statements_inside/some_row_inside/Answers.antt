use Rattle.zeb_leaves.proofs.Cited.{rules, ◌∙◌, refl, pos, register_code, leaf_some, some_leaf, any_query, any_shown}
use Rattle.zeb_register.proofs.BoundColumns.{none_bound, register_bound, value_bound}
use Rattle.zeb_leaves.proofs.InsideCalls.{shown_some, tells_last}
use Rattle.zeb_leaves.proofs.statements_inside.some_row_inside.Goals as goal

pub last_shown-requires : goal.last_shown-requires
last_shown-requires g c = (any_query c.args.at.db.0 (pos c.args.at.index) (pos (register_code c.args.at.register))).silent

pub returns : goal.returns
returns g c = record {
  same = search rules;
  looks = tells_last _ _ _ c.last_shown.result c.last_shown.ensures.does
      (register_bound c.column-db.ensures.fits c.column-db.ensures.value (c.from-reg.ensures ∙ c.code.ensures) c.params-to_sql.ensures c.params-to_sql-2.ensures c.params-to_sql-3.ensures
      (value_bound c.params-to_sql-4.ensures refl none_bound))
      (λ rows found store shown last. shown_some _ _ rows found (some_leaf _ store c.args.at.db.0 c.args.at.index c.args.at.register) (leaf_some _ store c.args.at.db.0 c.args.at.index c.args.at.register) last (any_shown _ store c.args.at.db.0 (pos c.args.at.index) (pos (register_code c.args.at.register)) _ rows shown));
}
