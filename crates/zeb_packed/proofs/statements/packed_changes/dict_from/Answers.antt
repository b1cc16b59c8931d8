use Rattle.zeb_packed.proofs.Cited.{◌≡◌, rules, pos, List, Row, take, register_code, IsRestFrom, IsListOf, dict_tree, register_of, query_keeps, read_inside, Text, ◌∙◌, ap, refl}
use Rattle.zeb_register.proofs.BoundColumns.{none_bound, register_bound, shown_so, value_bound}
use Rattle.zeb_packed.proofs.PackedStatements.{from_silent, lists_from}
use Rattle.zeb_packed.proofs.statements.packed_changes.dict_from.Goals as goal

pub returns : goal.returns
returns g c = record {
  call = record {
    same = search rules;
    does = record {
      ok = λ clean. read_inside (λ rows. rows.items) (λ trees rows. (all : List Row) × IsListOf (IsRestFrom dict_tree (register_of c.args.at.db.0 (pos c.args.at.key.now.index) (pos (register_code c.args.at.key.now.register))) c.args.at.key.now.term trees) all × (rows ≡ take 1 all)) _ _ _ _ c.query_all.result from_silent (c.query_all.ensures.ok clean)
          (λ rows store shown. lists_from c.args.at.db.0 (pos c.args.at.key.now.index) (pos (register_code c.args.at.key.now.register)) c.args.at.key.now.term (pos 1) _ _ rows store (shown_so _ _ _ _ shown (register_bound c.column-db.ensures.fits c.column-db.ensures.value (c.from-reg.ensures ∙ c.code.ensures) c.params-to_sql.ensures c.params-to_sql-2.ensures c.params-to_sql-3.ensures
          (value_bound (c.params-to_sql-4.ensures ∙ ap Text c.as_str-term.ensures) refl (value_bound c.params-to_sql-5.ensures refl none_bound)))));
      err = λ clean inside. query_keeps _ _ _ _ c.query_all.result from_silent (c.query_all.ensures.err clean);
      crash = search rules;
    };
  };
}
