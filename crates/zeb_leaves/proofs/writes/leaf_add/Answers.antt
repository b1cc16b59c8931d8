use Rattle.zeb_leaves.proofs.Cited.{◌∙◌, rules, pos, refl, register_code, alters, carried_out, refused_keeps}
use Rattle.zeb_register.proofs.BoundColumns.{executes_so, none_bound, number_bound, register_bound, value_bound}
use Rattle.zeb_leaves.proofs.WriteStatements.{adds_leaf, adds_one}
use Rattle.zeb_leaves.proofs.writes.leaf_add.Goals as goal

pub returns-clause-call : goal.returns-clause-call
returns-clause-call g c = record {
  same = search rules;
  does = record {
    ok = λ clean inside. alters _ _ _ _ _ _ c.execute.result (c.execute.ensures.runs clean inside) (λ count store ran. adds_leaf c.args.at.db.0 (pos c.args.at.index) (pos (register_code c.args.at.register)) c.args.term.now c.args.number c.args.bytes.now _ _ count store (executes_so _ _ _ _ ran (register_bound c.column-db.ensures.fits c.column-db.ensures.value (c.from-reg.ensures ∙ c.code.ensures) c.params-to_sql.ensures c.params-to_sql-2.ensures c.params-to_sql-3.ensures
        (value_bound c.params-to_sql-4.ensures refl (number_bound c.ranges.number refl c.params-to_sql-5.ensures (value_bound c.params-to_sql-6.ensures refl none_bound))))));
    err = λ clean inside. refused_keeps _ _ _ _ c.execute.result (c.execute.ensures.runs clean inside);
    crash = search rules;
  };
}

pub returns-clause-rows : goal.returns-clause-rows
returns-clause-rows g c clean inside store =
    carried_out _ _ _ _ _ c.execute.result (c.execute.ensures.runs clean inside) (λ count ran. adds_one c.args.at.db.0 (pos c.args.at.index) (pos (register_code c.args.at.register)) c.args.term.now c.args.number c.args.bytes.now _ _ count store (executes_so _ _ _ _ ran (register_bound c.column-db.ensures.fits c.column-db.ensures.value (c.from-reg.ensures ∙ c.code.ensures) c.params-to_sql.ensures c.params-to_sql-2.ensures c.params-to_sql-3.ensures
    (value_bound c.params-to_sql-4.ensures refl (number_bound c.ranges.number refl c.params-to_sql-5.ensures (value_bound c.params-to_sql-6.ensures refl none_bound))))))
