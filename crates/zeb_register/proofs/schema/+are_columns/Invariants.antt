use Rattle.zeb_register.proofs.Cited.{length}
use Rattle.zeb_register.proofs.schema.+are_columns.Given as goal

abbrev pub decreases-are_columns : goal.decreases-are_columns
decreases-are_columns l = length l.columns.now
