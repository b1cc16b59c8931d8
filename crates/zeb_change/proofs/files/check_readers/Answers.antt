use Rattle.zeb_change.proofs.Cited.{arith}
use Rattle.zeb_change.proofs.files.check_readers.Goals as goal

pub loop-index-init : goal.loop-index-init
loop-index-init g c = record { fine = λ j none d. absurd (omega (arith, none)) }
