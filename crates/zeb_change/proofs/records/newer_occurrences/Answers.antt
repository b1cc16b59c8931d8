use Rattle.zeb_change.proofs.Cited.{◌↔◌, List, subst, Contains, FieldText, unit_targets, Occurrence, IsOccurrence, units_of}
use Rattle.zeb_change.proofs.records.newer_occurrences.Goals as goal

pub returns : goal.returns
returns c =
    record {
      rising = c.in_ok-found.ensures.rising;
      each = subst (λ (fields : List FieldText). (o : Occurrence) → Contains c.in_ok-found.found.items o ↔ IsOccurrence (unit_targets c.args.setting.now.profile.now) (units_of fields) o)
          c.requires.whole.fields_are c.in_ok-found.ensures.members;
    }
