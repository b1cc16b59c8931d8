use Rattle.zeb_words.proofs.Cited.{◌∙◌, ap, found_of, first_value-rows}
use Rattle.zeb_words.proofs.ReadingLemmas.{text_read}
use Rattle.zeb_words.proofs.reading.text_of.Goals as goal

pub returns : goal.returns
returns c = ap (λ s. s.now) c.unwrap_or.ensures ∙ text_read c.get_str.result c.args.other _ (c.get_str.ensures ∙ first_value-rows (found_of c.args.given.now) c.args.name.now)
