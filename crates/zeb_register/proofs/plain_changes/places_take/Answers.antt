use Rattle.zeb_register.proofs.Cited.{rules, pos, register_code, IsPlaceIn, Loses, postings_tree, refl, ◌∙◌, ap, Text}
use Rattle.zeb_register.proofs.Calls.{written}
use Rattle.zeb_register.proofs.PostingStatements.{lifts}
use Rattle.zeb_register.proofs.BoundColumns.{none_bound, number_bound, ran_so, register_bound, value_bound}
use Rattle.zeb_register.proofs.plain_changes.places_take.Goals as goal

pub returns : goal.returns
returns g c = record {
  call = record {
    same = search rules;
    does = written postings_tree (Loses (IsPlaceIn c.args.db.0 c.args.key.now c.args.sysno)) _ _ c.write.result (λ count store ran. lifts c.args.db.0 (pos c.args.key.now.index) (pos (register_code c.args.key.now.register)) c.args.key.now.term (pos c.args.sysno) _ _ count store ran)
        (ran_so c.write.ensures.ran (register_bound c.column-id.ensures.fits c.column-id.ensures.value (c.from-reg.ensures ∙ c.code.ensures) c.params-to_sql.ensures c.params-to_sql-2.ensures c.params-to_sql-3.ensures
        (value_bound (c.params-to_sql-4.ensures ∙ ap Text c.as_str-term.ensures) refl (number_bound c.in_ok-number.ensures.ok.1 c.in_ok-number.ensures.ok.0 c.params-to_sql-5.ensures none_bound))));
  };
}
