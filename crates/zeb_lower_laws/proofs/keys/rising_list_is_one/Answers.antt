use Rattle.zeb_keys.proofs.Rising.{rising_unique, occurrence_total, occurrences_apart}
use Rattle.zeb_lower_laws.proofs.keys.rising_list_is_one.Goals as goal

pub returns : goal.returns
returns c = λ xs ys up up' same. rising_unique occurrence_total occurrences_apart xs ys up up' (λ o. (same o).0) (λ o. (same o).1)
