use Rattle.zeb_register.proofs.Cited.{length}
use Rattle.zeb_register.proofs.schema.+are_tables.Given as goal

abbrev pub decreases-are_tables : goal.decreases-are_tables
decreases-are_tables l = length l.tables.now
