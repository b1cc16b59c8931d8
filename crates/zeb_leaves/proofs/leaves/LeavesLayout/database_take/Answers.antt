use Rattle.zeb_leaves.proofs.Cited.{IfOk-weaker, packed_leaves}
use Rattle.zeb_leaves.proofs.leaves.LeavesLayout.database_take.Goals as goal

pub returns-clause-taken : goal.returns-clause-taken
returns-clause-taken g c clean inside store = IfOk-weaker c.database_drop_whole.result _ _ (λ _ done. (done.0, done.1 packed_leaves)) (c.database_drop_whole.ensures.taken clean inside store)
