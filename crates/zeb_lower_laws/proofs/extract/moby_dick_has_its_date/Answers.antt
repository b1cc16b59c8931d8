use Rattle.zeb_extract.proofs.Cited.{ap, arith, refl}
use Rattle.zeb_keys.specs.declared.keys.Occurrence.{Occurrence}
use Rattle.zeb_lower_laws.proofs.Example.{date_found, no_other}
use Rattle.zeb_lower_laws.proofs.extract.moby_dick_has_its_date.Goals as goal

pub returns : goal.returns
returns c = record { profile = refl; found = date_found; no_other = no_other; not_elsewhere = λ is. absurd (omega (arith, ap (λ (o : Occurrence). o.seq) (no_other _ is))) }
