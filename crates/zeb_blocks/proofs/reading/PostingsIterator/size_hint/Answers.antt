-- The list is as long as was counted.
use Rattle.zeb_blocks.proofs.Cited.{◌≡◌, ◌∙◌, length, sym, ap, rules}
use Rattle.zeb_blocks.proofs.Lists.{length-postings_at}
use Rattle.zeb_blocks.proofs.reading.PostingsIterator.size_hint.Goals as goal

pub returns-clause-lower : goal.returns-clause-lower
returns-clause-lower c =
    let counted : c.self.inside.count ≡ length c.args.self.now = sym (length-postings_at c.self.inside.count c.self.inside.before c.self.inside.bytes.now) ∙ ap length c.self.view_is in
    search rules

pub returns-clause-upper : goal.returns-clause-upper
returns-clause-upper c =
    let counted : c.self.inside.count ≡ length c.args.self.now = sym (length-postings_at c.self.inside.count c.self.inside.before c.self.inside.bytes.now) ∙ ap length c.self.view_is in
    search rules
