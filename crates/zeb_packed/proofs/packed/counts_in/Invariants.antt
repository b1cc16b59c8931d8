use Rattle.zeb_packed.proofs.Cited.{take, TellTerms}
use Rattle.zeb_packed.proofs.packed.counts_in.Given as goal

abbrev pub invariant-loop-row : goal.invariant-loop-row
invariant-loop-row l = TellTerms (take l.row-index l.rows) l.counts.items
