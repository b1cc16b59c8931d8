-- The definitions compute.
use Rattle.zeb_marc.proofs.Cited.{refl}
use Rattle.zeb_marc.specs.Leader.{are_digits, number_of, counts, has_counts, ends_directory, has_base_address}
use Rattle.zeb_marc.specs.Directory.{has_digits, is_in_area}
use Rattle.zeb_marc.specs.Records.{first_fault}
use Rattle.zeb_lower_laws.proofs.marc.fault_examples.Goals as goal

pub returns : goal.returns
unfolding first_fault are_digits number_of counts has_counts ends_directory has_base_address has_digits is_in_area
returns c = record {
  sound = (refl, (refl, (refl, tt)));
  length = (refl, refl, refl);
  counts = (refl, (refl, (refl, (refl, (refl, tt)))));
  directory = (refl, refl);
  entry = (refl, refl, refl, refl);
}
