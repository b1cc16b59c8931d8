use Rattle.zeb_text.proofs.EncodedLemmas.{numbers_of-bytes}
use Rattle.zeb_text.proofs.numerals.numbers.Goals as goal
use Rattle.zeb_text.proofs.Cited.{ap, ◌∙◌, numbers_of}

pub returns : goal.returns
returns c = ap numbers_of c.as_bytes.ensures.value ∙ numbers_of-bytes c.args.text.now c.utf8.text
