-- 64 bits count a record's units.
use Rattle.std.proofs.Common.{◌≡◌, List, Some, Result, subst, ap, inl, length, arith}
use Rattle.std.specs.Prelude.{MatchResult}
use Rattle.zeb_marc.specs.declared.faults.MarcFault.{MarcFault}
use Rattle.zeb_marc.specs.Directory.{FieldText}
use Rattle.zeb_marc.specs.Records.{first_fault, IsRecord}
use Rattle.zeb_marc.proofs.PartLaws.{few_units}
use Rattle.vectors.proofs.records.count_units.Goals as goal

pub count-requires-clause-fits : goal.count-requires-clause-fits
count-requires-clause-fits g c =
    let text = c.args.bytes.now in
    let marc = c.expect-marc.result in
    let is : IsRecord text marc = subst (λ (r : Result (List FieldText) MarcFault). MatchResult r (λ m. IsRecord text m) (λ fault. first_fault text ≡ Some fault)) c.expect-marc.ensures c.read.ensures in
    inl (omega (arith, few_units text marc is, ap length c.units.ensures))
