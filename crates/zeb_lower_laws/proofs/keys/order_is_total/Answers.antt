use Rattle.zeb_keys.proofs.Rising.{key_total, keys_apart, occurrence_total, occurrences_apart}
use Rattle.zeb_lower_laws.proofs.keys.order_is_total.Goals as goal

pub returns : goal.returns
returns c = record {
  keys = key_total;
  keys_apart = keys_apart;
  occurrences = occurrence_total;
  occurrences_apart = occurrences_apart;
}
