use Rattle.zeb_leaves.proofs.Cited.{arith, inl, IfOk-weaker, none_in_sum}
use Rattle.zeb_leaves.proofs.leaves.LeavesLayout.totals.Goals as goal

pub returns-clause-work : goal.returns-clause-work
returns-clause-work g c clean store =
    IfOk-weaker c.totals.result _ _ (λ sums unchanged terms lists all listed.
    let none = none_in_sum lists in
    record {
      reads_terms = inl (omega arith);
      writes_terms = inl (omega arith);
      reads_blocks = inl (omega (arith, none));
      writes_blocks = inl (omega arith);
    }) (c.totals.ensures.call.ok clean)
