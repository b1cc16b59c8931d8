-- The bytes that are left spell the postings that are left.
use Rattle.zeb_blocks.proofs.Cited.{◌∙◌, sym, rules}
use Rattle.zeb_blocks.proofs.Taking.{taken, not_damaged, postings_at-none}
use Rattle.zeb_blocks.proofs.reading.PostingsIterator.next.Goals as goal

pub returns-then-self-eq0-clause-steps : goal.returns-then-self-eq0-clause-steps
returns-then-self-eq0-clause-steps c =
    let none = sym c.self.view_is ∙ postings_at-none c.self.inside.before c.self.inside.bytes.now c.self.inside.count c.if-self-eq0.true in
    (none, none)

pub returns-in_err-posting-clause-steps : goal.returns-in_err-posting-clause-steps
returns-in_err-posting-clause-steps c = absurd (not_damaged c.self.inside.before c.self.inside.count c.self.inside.bytes.now c.self.invariant c.if-self-eq0.false c.in_err-posting.ensures)

pub invariant_of-self : goal.invariant_of-self
invariant_of-self c =
    (taken c.self.inside.before c.in_ok-posting.posting c.self.inside.count c.self.inside.bytes.now c.in_ok-posting.behind.now c.self.invariant c.if-self-eq0.false c.in_ok-posting.ensures.0 c.in_ok-posting.ensures.1).spells

pub returns-clause-steps : goal.returns-clause-steps
returns-clause-steps c =
    let step = taken c.self.inside.before c.in_ok-posting.posting c.self.inside.count c.self.inside.bytes.now c.in_ok-posting.behind.now c.self.invariant c.if-self-eq0.false c.in_ok-posting.ensures.0 c.in_ok-posting.ensures.1 in
    sym c.self.view_is ∙ step.is

pub returns-clause-goes : goal.returns-clause-goes
returns-clause-goes c =
    let step = returns-clause-steps c in
    search rules
