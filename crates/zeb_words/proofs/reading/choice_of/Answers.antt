use Rattle.zeb_words.proofs.Cited.{subst, codes, found_of, one_of, rows_of, one_text-rows, IsFlagRead}
use Rattle.zeb_words.proofs.ReadingLemmas.{flag_read}
use Rattle.zeb_words.proofs.reading.choice_of.Goals as goal

pub returns-then-get_flag : goal.returns-then-get_flag
returns-then-get_flag c =
    let told = c.get_flag.ensures in
    subst (IsFlagRead (one_of (codes "leaves") (rows_of (found_of c.args.given.now)))) c.if-get_flag.true
    (flag_read _ _ _ (one_text-rows (found_of c.args.given.now) (codes "leaves")) told.none told.value told.other)

pub returns : goal.returns
returns c =
    let told = c.get_flag.ensures in
    subst (IsFlagRead (one_of (codes "leaves") (rows_of (found_of c.args.given.now)))) c.if-get_flag.false
    (flag_read _ _ _ (one_text-rows (found_of c.args.given.now) (codes "leaves")) told.none told.value told.other)
