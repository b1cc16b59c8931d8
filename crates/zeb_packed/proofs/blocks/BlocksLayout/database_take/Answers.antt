use Rattle.zeb_packed.proofs.Cited.{IfOk-weaker, packed_blocks}
use Rattle.zeb_packed.proofs.blocks.BlocksLayout.database_take.Goals as goal

pub returns-clause-taken : goal.returns-clause-taken
returns-clause-taken g c clean inside store = IfOk-weaker c.database_drop_whole.result _ _ (λ _ done. (done.0, done.1 packed_blocks)) (c.database_drop_whole.ensures.taken clean inside store)
