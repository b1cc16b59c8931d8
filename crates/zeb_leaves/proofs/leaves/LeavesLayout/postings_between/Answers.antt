use Rattle.zeb_leaves.proofs.Cited.{state, arith, inl, IfOk-weaker, none_in_sum, packed_leaves}
use Rattle.zeb_register.proofs.BetweenLists.{between_told}
use Rattle.zeb_leaves.proofs.leaves.LeavesLayout.postings_between.Goals as goal

pub returns-clause-work : goal.returns-clause-work
returns-clause-work g c clean store =
    let old = state g.S.Store c.args.conn.now in
    let new = state g.S.Store c.postings_between.new.conn in
    IfOk-weaker c.postings_between.result _ _ (λ list value content holds keys known.
    let none = none_in_sum keys in
    record {
      reads_terms = inl (omega arith);
      writes_terms = inl (omega arith);
      reads_blocks = inl (omega (arith, none));
      writes_blocks = inl (omega arith);
    }) (between_told packed_leaves c.args.at c.args.first.now c.args.last.now old new c.postings_between.result c.postings_between.ensures.units clean store)
