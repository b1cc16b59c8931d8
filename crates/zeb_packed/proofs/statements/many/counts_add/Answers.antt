use Rattle.zeb_packed.proofs.Cited.{rules, map, store_schema, Changes, dict_tree, changed_so, refused_keeps, state, GainsAll, new_count_row}
use Rattle.zeb_packed.proofs.ManyCounts.{adds_counts}
use Rattle.zeb_packed.proofs.ManyRows.{GainsNumbered, gains_all, ran_goes, ran_so}
use Rattle.zeb_packed.proofs.statements.many.counts_add.Goals as goal

pub returns-clause-call : goal.returns-clause-call
returns-clause-call g c = record {
  same = search rules;
  does = record {
    ok = λ clean inside. ran_goes _ _ _ _ c.execute.result (c.execute.ensures.runs clean inside);
    err = λ clean inside. refused_keeps _ _ _ _ c.execute.result (c.execute.ensures.runs clean inside);
    crash = search rules;
  };
}

pub returns-clause-put : goal.returns-clause-put
returns-clause-put g c db news are clean inside store =
    let old = state g.S.Store c.args.tx.now.conn.now in
    let new = state g.S.Store c.execute.new.self.conn.now in
    let rows = map (new_count_row db) news in
    ran_so _ _ old new c.execute.result (Changes dict_tree (GainsAll rows) old new)
    (λ count ran. changed_so store_schema dict_tree (GainsNumbered rows) (GainsAll rows) old new (gains_all rows dict_tree old.now.trees new.now.trees) (adds_counts db news _ are old new count store ran))
    (c.execute.ensures.runs clean inside)
