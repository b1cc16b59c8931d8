use Rattle.zeb_text.proofs.Cited.{get_or, arith}
use Rattle.zeb_text.proofs.DigitLemmas.{one_more_digit, digit_range, digits_value-more}
use Rattle.zeb_text.proofs.digits.value_of.Goals as goal

pub overflow_mul-value : goal.overflow_mul-value
overflow_mul-value c = omega (arith, one_more_digit c.loop-digit.value c.loop-digit.digit-index _ 0 c.loop-digit.invariant.1 c.loop-digit-test.true c.requires.short (omega arith))

pub overflow_add-value : goal.overflow_add-value
overflow_add-value c =
    let at = get_or c.args.digits.now c.loop-digit.digit-index 0 in
    let digit = digit_range at (c.requires.digits c.loop-digit.digit-index 0 c.loop-digit-test.true) in
    omega (arith, one_more_digit c.loop-digit.value c.loop-digit.digit-index _ c.from.result c.loop-digit.invariant.1 c.loop-digit-test.true c.requires.short (omega arith))

pub loop-digit-preserved : goal.loop-digit-preserved
loop-digit-preserved c =
    let at = get_or c.args.digits.now c.loop-digit.digit-index 0 in
    let digit = digit_range at (c.requires.digits c.loop-digit.digit-index 0 c.loop-digit-test.true) in
    let more = digits_value-more c.args.digits.now c.loop-digit.digit-index c.loop-digit-test.true in
    let bound = one_more_digit c.loop-digit.value c.loop-digit.digit-index _ c.from.result c.loop-digit.invariant.1 c.loop-digit-test.true c.requires.short (omega arith) in
    (omega arith, bound.0)
