-- The list is as long as was counted.
use Rattle.zeb_blocks.proofs.Cited.{◌∙◌, length, sym, ap}
use Rattle.zeb_blocks.proofs.Lists.{length-postings_at}
use Rattle.zeb_blocks.proofs.reading.PostingsExactSizeIterator.len.Goals as goal

pub returns-clause-value : goal.returns-clause-value
returns-clause-value c = sym (length-postings_at c.self.inside.count c.self.inside.before c.self.inside.bytes.now) ∙ ap length c.self.view_is
