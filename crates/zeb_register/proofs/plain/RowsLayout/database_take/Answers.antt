use Rattle.zeb_register.proofs.Cited.{IfOk-weaker, plain_rows}
use Rattle.zeb_register.proofs.plain.RowsLayout.database_take.Goals as goal

pub returns-clause-taken : goal.returns-clause-taken
returns-clause-taken g c clean inside store = IfOk-weaker c.database_drop_whole.result _ _ (λ _ done. (done.0, done.1 plain_rows)) (c.database_drop_whole.ensures.taken clean inside store)
