use Rattle.zeb_text.proofs.KeyLemmas.{key_digits, keys_order, value_of_key}
use Rattle.zeb_lower_laws.proofs.text.keys_rise_with_numbers.Goals as goal

pub returns : goal.returns
returns c = record { digits = key_digits; value = value_of_key; order = keys_order }
