use Rattle.zeb_search.proofs.RangeLemmas.{texts_end}
use Rattle.zeb_search.proofs.ranges.is_last_text.Goals as goal

pub returns-in-Less : goal.returns-in-Less
returns-in-Less c = rw c.is_ge.ensures (texts_end c.args.relation c.args.text.now c.args.other.now c.cmp.result c.in-Less.is c.cmp.ensures)
