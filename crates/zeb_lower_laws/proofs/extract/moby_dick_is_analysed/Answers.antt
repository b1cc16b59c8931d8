use Rattle.zeb_extract.proofs.Cited.{refl}
use Rattle.zeb_lower_laws.proofs.SampleAnalysis.{called, rising, members}
use Rattle.zeb_lower_laws.proofs.extract.moby_dick_is_analysed.Goals as goal

pub returns : goal.returns
returns c = record { profile = refl; called = called; rising = rising; members = members }
