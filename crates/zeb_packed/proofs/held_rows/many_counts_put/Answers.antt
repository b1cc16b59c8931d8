use Rattle.zeb_packed.proofs.Cited.{◌∙◌, ap, bound, AreValuesOf, new_count_row}
use Rattle.zeb_packed.proofs.held_rows.many_counts_put.Goals as goal

pub returns-clause-put : goal.returns-clause-put
returns-clause-put g c clean inside store =
    let are : AreValuesOf (new_count_row c.args.db.0) c.args.counts.now (bound c.deref.result.now) = (c.requires, ap bound c.deref.ensures.value ∙ c.in_ok-values.ensures.values) in
    c.in_ok-counts_add.ensures.put c.args.db.0 c.args.counts.now are clean inside store
