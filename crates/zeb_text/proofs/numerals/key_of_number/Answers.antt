use Rattle.zeb_text.proofs.KeyLemmas.{key_text}
use Rattle.zeb_text.proofs.numerals.key_of_number.Goals as goal

pub returns : goal.returns
returns c = rw (← key_text c.args.number) (rw c.laid_out.ensures at c.format.ensures.ok)
