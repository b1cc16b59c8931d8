use Rattle.zeb_packed.proofs.Cited.{rules, pos, register_code, alters, refused_keeps, Text, ◌∙◌, ap, refl}
use Rattle.zeb_register.proofs.BoundColumns.{executes_so, none_bound, number_bound, register_bound, value_bound}
use Rattle.zeb_packed.proofs.PackedRowStatements.{sets_block}
use Rattle.zeb_packed.proofs.statements.packed_changes.block_set.Goals as goal

pub returns : goal.returns
returns g c = record {
  call = record {
    same = search rules;
    does = record {
      ok = λ clean inside. alters _ _ _ _ _ _ c.execute.result (c.execute.ensures.runs clean inside) (λ count store ran. sets_block c.args.at.db.0 (pos c.args.at.key.now.index) (pos (register_code c.args.at.key.now.register)) c.args.at.key.now.term c.args.number c.args.bytes.now _ _ count store (executes_so _ _ _ _ ran (register_bound c.column-db.ensures.fits c.column-db.ensures.value (c.from-reg.ensures ∙ c.code.ensures) c.params-to_sql.ensures c.params-to_sql-2.ensures c.params-to_sql-3.ensures
          (value_bound (c.params-to_sql-4.ensures ∙ ap Text c.as_str-term.ensures) refl (number_bound c.ranges.number refl c.params-to_sql-5.ensures (value_bound c.params-to_sql-6.ensures refl none_bound))))));
      err = λ clean inside. refused_keeps _ _ _ _ c.execute.result (c.execute.ensures.runs clean inside);
      crash = search rules;
    };
  };
}
