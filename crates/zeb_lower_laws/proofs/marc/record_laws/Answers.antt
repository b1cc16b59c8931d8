-- The laws of records.
use Rattle.zeb_lower_laws.proofs.RecordParts.{field_parts, unit_parts}
use Rattle.zeb_marc.proofs.PartLaws.{few_units}
use Rattle.zeb_lower_laws.proofs.LayoutLaws.{laid_out}
use Rattle.zeb_lower_laws.proofs.LayoutChecks.{IsRecord-from_layout}
use Rattle.zeb_marc.proofs.FaultLaws.{record_faults, numbered}
use Rattle.zeb_lower_laws.proofs.marc.record_laws.Goals as goal

pub returns-clause-parts : goal.returns-clause-parts
returns-clause-parts c = λ text fields is. (field_parts text fields is, unit_parts text fields is, few_units text fields is)

pub returns-clause-laid_out : goal.returns-clause-laid_out
returns-clause-laid_out c = λ text fields. (laid_out text fields, IsRecord-from_layout text fields)

pub returns-clause-faults : goal.returns-clause-faults
returns-clause-faults c = record_faults

pub returns-clause-numbered : goal.returns-clause-numbered
returns-clause-numbered c = numbered
