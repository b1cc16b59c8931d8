-- The definitions compute.
use Rattle.zeb_marc.proofs.Cited.{refl}
use Rattle.zeb_marc.specs.Leader.{are_digits, number_of, counts, has_counts, ends_directory, has_base_address}
use Rattle.zeb_marc.specs.Directory.{has_digits, is_in_area}
use Rattle.zeb_marc.specs.Records.{first_fault, fields_of}
use Rattle.zeb_marc.specs.Contents.{units_of}
use Rattle.zeb_marc.specs.Splits.{next_of, split_of}
use Rattle.zeb_lower_laws.proofs.marc.worked_examples.Goals as goal

pub returns : goal.returns
unfolding first_fault fields_of are_digits number_of counts has_counts ends_directory has_base_address has_digits is_in_area units_of split_of next_of
returns c = record {
  accepted = record { sound = refl; fields_are = refl };
  units = refl;
  faulty = (refl, refl, refl);
  stream = refl;
}
