-- Where the term ends, nothing more is shared.
use Rattle.zeb_leaf.proofs.Cited.{◌≡◌, ◌∙◌, [], drop, ap, arith, shared_of}
use Rattle.std.proofs.Math.ListN.{drop_of_length-le}
use Rattle.zeb_leaf.proofs.Rising.{shared_none}
use Rattle.zeb_leaf.proofs.writing.shared_len.Goals as goal

pub returns-else-len-term-clause-value : goal.returns-else-len-term-clause-value
returns-else-len-term-clause-value c =
    let len = c.loop-len.len in
    let none : drop len c.args.term.now ≡ [] = drop_of_length-le c.args.term.now c.if-len-term.false in
    let zero : shared_of (drop len c.args.before.now) (drop len c.args.term.now) ≡ 0 = ap (shared_of (drop len c.args.before.now)) none ∙ shared_none (drop len c.args.before.now) in
    omega (arith, c.loop-len.invariant.shared, zero)
