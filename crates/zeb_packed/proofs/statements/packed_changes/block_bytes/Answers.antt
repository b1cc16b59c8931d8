use Rattle.zeb_packed.proofs.Cited.{rules, pos, register_code, block_key, IsRest, blocks_tree, lists_inside, query_keeps, Text, ◌∙◌, ap, refl}
use Rattle.zeb_register.proofs.BoundColumns.{none_bound, number_bound, register_bound, shown_so, value_bound}
use Rattle.zeb_packed.proofs.PackedRowStatements.{block_silent, lists_block}
use Rattle.zeb_packed.proofs.statements.packed_changes.block_bytes.Goals as goal

pub returns : goal.returns
returns g c = record {
  call = record {
    same = search rules;
    does = record {
      ok = λ clean. lists_inside (λ rows. rows.items) (IsRest blocks_tree (block_key c.args.at.db.0 (pos c.args.at.key.now.index) (pos (register_code c.args.at.key.now.register)) c.args.at.key.now.term c.args.number)) _ _ _ _ c.query_all.result block_silent (c.query_all.ensures.ok clean)
          (λ rows store shown. lists_block c.args.at.db.0 (pos c.args.at.key.now.index) (pos (register_code c.args.at.key.now.register)) c.args.at.key.now.term c.args.number _ _ rows store (shown_so _ _ _ _ shown (register_bound c.column-db.ensures.fits c.column-db.ensures.value (c.from-reg.ensures ∙ c.code.ensures) c.params-to_sql.ensures c.params-to_sql-2.ensures c.params-to_sql-3.ensures
          (value_bound (c.params-to_sql-4.ensures ∙ ap Text c.as_str-term.ensures) refl (number_bound c.ranges.number refl c.params-to_sql-5.ensures none_bound)))));
      err = λ clean inside. query_keeps _ _ _ _ c.query_all.result block_silent (c.query_all.ensures.err clean);
      crash = search rules;
    };
  };
}
