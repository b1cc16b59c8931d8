-- The digits so far spell the value so far.
use Rattle.zeb_marc.proofs.Cited.{◌≡◌, ◌<◌, ◌^◌, true, take}
use Rattle.zeb_marc.specs.Leader.{are_digits, number_of}
use Rattle.zeb_marc.proofs.digits.read_number.Given as goal

abbrev pub invariant-loop-digit : goal.invariant-loop-digit
invariant-loop-digit l = record {
  digits : are_digits (take l.digit-index l.digits) ≡ true;
  spelled : l.value ≡ number_of (take l.digit-index l.digits);
  below : l.value < 10 ^ l.digit-index;
}
