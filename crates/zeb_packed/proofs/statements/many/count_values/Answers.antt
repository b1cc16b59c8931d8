use Rattle.zeb_packed.proofs.Cited.{◌∙◌, ◌++◌, Row, ap, sym, new_count_row}
use Rattle.zeb_packed.proofs.NewValues.{one_more}
use Rattle.zeb_packed.proofs.statements.many.count_values.Goals as goal

pub loop-one-preserved : goal.loop-one-preserved
loop-one-preserved c =
    c.in_ok-add_count_values.ensures.added ∙ ap (λ (l : Row). l ++ new_count_row c.args.db.0 c.one-item.result) c.loop-one.invariant
    ∙ sym (one_more (new_count_row c.args.db.0) c.args.counts.now c.loop-one.one-index c.one-item.result c.loop-one-test.true c.one-item.is)
