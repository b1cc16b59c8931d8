use Rattle.zeb_leaves.proofs.Cited.{◌∙◌, arith, key_in, sym, drop_over, with_key}
use Rattle.zeb_leaves.proofs.AgreeingEnds.{none_left}
use Rattle.zeb_leaves.proofs.agreeing_entries.part_end.Goals as goal

pub returns-in_err-expected : goal.returns-in_err-expected
returns-in_err-expected c = rw c.from_residual.ensures (λ rest is.
    let none = drop_over c.args.postings.now c.loop-posting.end (let e = c.in_err-expected.ensures.lookup in omega (arith, e.3)) in
    none_left (with_key (key_in c.args.leaf.now.index c.args.leaf.now.register c.args.term.now)) c.args.part.now c.loop-posting.posting-index rest c.loop-posting-test.true (sym none ∙ (c.loop-posting.invariant.1 rest).0 is))
