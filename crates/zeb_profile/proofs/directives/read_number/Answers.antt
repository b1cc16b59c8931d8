use Rattle.zeb_profile.proofs.Cited.{◌≡◌, arith, Ok, true, ◌<◌, length, is_ascii_digit, list_all, digits_value}
use Rattle.zeb_profile.proofs.WordReads.{number_parsed}
use Rattle.zeb_profile.proofs.directives.read_number.Goals as goal

pub returns-in_default-2 : goal.returns-in_default-2
returns-in_default-2 c =
    let digits : list_all is_ascii_digit c.args.word.now ≡ true = grind arith in
    let some : 0 < length c.args.word.now = grind arith in
    let e : c.parse.result ≡ Ok (digits_value 10 c.args.word.now) = number_parsed c.args.word.now c.parse.result c.parse.ensures.value.0 digits some (omega arith) in
    cc
