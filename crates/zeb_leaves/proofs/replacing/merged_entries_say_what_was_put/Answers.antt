-- The lemmas on merged entries, one for each clause.
use Rattle.zeb_leaves.proofs.MergedSayings.{now_says, still_says}
use Rattle.zeb_leaves.proofs.replacing.merged_entries_say_what_was_put.Goals as goal

pub returns-clause-stays : goal.returns-clause-stays
returns-clause-stays c = still_says

pub returns-clause-put : goal.returns-clause-put
returns-clause-put c = now_says
