use Rattle.zeb_register.proofs.Cited.{IsUtf8, rules, pos, subst, register_code, IsRest, postings_tree, place_key, refl, ◌∙◌, ap, Text}
use Rattle.zeb_register.proofs.Calls.{lists_inside, query_keeps}
use Rattle.zeb_register.proofs.PostingStatements.{lists_spots, spot_query}
use Rattle.zeb_register.proofs.BoundColumns.{none_bound, number_bound, register_bound, shown_so, value_bound}
use Rattle.zeb_register.proofs.statements.postings.place_rows.Goals as goal

pub returns-clause-call : goal.returns-clause-call
returns-clause-call g c = record {
  same = search rules;
  does = record {
    ok = λ clean. lists_inside (λ rows. rows.items) (IsRest postings_tree (place_key c.args.at.db.0 (pos c.args.at.key.now.index) (pos (register_code c.args.at.key.now.register)) c.args.at.key.now.term c.args.number)) _ _ _ _ c.query_all.result (spot_query c.args.at.db.0 (pos c.args.at.key.now.index) (pos (register_code c.args.at.key.now.register)) c.args.at.key.now.term c.args.number).silent (c.query_all.ensures.ok clean)
        (λ rows store shown. lists_spots c.args.at.db.0 (pos c.args.at.key.now.index) (pos (register_code c.args.at.key.now.register)) c.args.at.key.now.term c.args.number _ _ rows store (shown_so _ _ _ _ shown (register_bound c.column-db.ensures.fits c.column-db.ensures.value (c.from-reg.ensures ∙ c.code.ensures) c.params-to_sql.ensures c.params-to_sql-2.ensures c.params-to_sql-3.ensures
        (value_bound (c.params-to_sql-4.ensures ∙ ap Text c.as_str-term.ensures) refl (number_bound c.ranges.number refl c.params-to_sql-5.ensures none_bound)))));
    err = λ clean inside. query_keeps _ _ _ _ c.query_all.result (spot_query c.args.at.db.0 (pos c.args.at.key.now.index) (pos (register_code c.args.at.key.now.register)) c.args.at.key.now.term c.args.number).silent (c.query_all.ensures.err clean);
    crash = search rules;
  };
}

pub returns-clause-text : goal.returns-clause-text
returns-clause-text g c = subst IsUtf8 c.as_str-term.ensures c.as_str-term.utf8
