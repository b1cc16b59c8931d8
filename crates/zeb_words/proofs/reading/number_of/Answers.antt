use Rattle.zeb_words.proofs.Cited.{◌∙◌, sym, subst, ExplainsUnsignedError, HasUnsignedDigitsIfOk, ParsesUnsigned, found_of, one_of, rows_of, one_text-rows, IsNumberRead}
use Rattle.zeb_words.proofs.ReadingLemmas.{number_read}
use Rattle.zeb_words.proofs.reading.number_of.Goals as goal

pub returns : goal.returns
returns c =
    let read = one_of c.args.name.now (rows_of (found_of c.args.given.now)) in
    let same = one_text-rows (found_of c.args.given.now) c.args.name.now in
    let given = number_read (λ bs r. ParsesUnsigned 32 10 bs r × ExplainsUnsignedError 10 bs r × HasUnsignedDigitsIfOk bs r) read c.get_one.result c.args.other
    (λ e. c.get_one.ensures.none (same ∙ e)) (λ t e. c.get_one.ensures.value t (same ∙ e)) (λ t x g. g.0) in
    subst (λ n. IsNumberRead read c.args.other n) (sym c.unwrap_or.ensures) given
