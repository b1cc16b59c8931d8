use Rattle.zeb_text.proofs.Cited.{◌≡◌, ◌^◌, ◌<◌, take, digits_value}
use Rattle.zeb_text.proofs.digits.value_of.Given as goal

abbrev pub invariant-loop-digit : goal.invariant-loop-digit
invariant-loop-digit l = (l.value ≡ digits_value 10 (take l.digit-index l.digits)) × (l.value < 10 ^ l.digit-index)
