use Rattle.zeb_register.proofs.Cited.{length}
use Rattle.zeb_register.proofs.schema.+are_plain.Given as goal

abbrev pub decreases-are_plain : goal.decreases-are_plain
decreases-are_plain l = length l.orders.now
