use Rattle.zeb_register.proofs.Cited.{length}
use Rattle.zeb_register.proofs.schema.+are_indexes.Given as goal

abbrev pub decreases-are_indexes : goal.decreases-are_indexes
decreases-are_indexes l = length l.indexes.now
