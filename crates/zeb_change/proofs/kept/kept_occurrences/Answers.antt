use Rattle.zeb_change.proofs.Cited.{◌↔◌, List, subst, Contains, FieldText, unit_targets, Occurrence, IsOccurrence, units_of}
use Rattle.zeb_change.proofs.kept.kept_occurrences.Goals as goal

pub returns-clause-found : goal.returns-clause-found
returns-clause-found c =
    let found = c.in_ok-occurrences.ensures in
    record {
      rising = found.rising;
      each = subst (λ (fields : List FieldText). (o : Occurrence) → Contains c.in_ok-occurrences.field-0.items o ↔ IsOccurrence (unit_targets c.args.profile.now) (units_of fields) o)
          c.in-Ok.ensures.fields_are found.members;
    }
