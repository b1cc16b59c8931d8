use Rattle.zeb_text.proofs.Cited.{chars-nil}
use Rattle.zeb_text.proofs.patterns.Pattern.new.Goals as goal

pub returns : goal.returns
returns c = rw (c.new.ensures.items, c.new-2.ensures.bytes, chars-nil)
