-- One more digit.
use Rattle.zeb_marc.proofs.Cited.{◌<◌, sym, length, arith, pow_more}
use Rattle.zeb_marc.proofs.Numbers.{are_digits-take_more, number_of-take_more}
use Rattle.zeb_marc.proofs.digits.read_number.Goals as goal

pub loop-digit-preserved : goal.loop-digit-preserved
loop-digit-preserved c =
    let digits = c.args.digits.now in
    let i = c.loop-digit.digit-index in
    let lt : i < length digits = omega arith in
    let range = c.if-not-is_ascii_digit.ensures.cases in
    let spelled = number_of-take_more digits i lt range.0 range.1 in
    let before = c.loop-digit.invariant.spelled in
    let digit = c.from.ensures in
    record {
      digits = are_digits-take_more digits i lt c.loop-digit.invariant.digits (sym c.if-not-is_ascii_digit.ensures.value);
      spelled = omega (arith, spelled, before, digit);
      below = omega (arith, pow_more 10 i);
    }
