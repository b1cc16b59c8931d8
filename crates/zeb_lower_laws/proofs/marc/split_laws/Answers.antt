-- The laws of splits.
use Rattle.zeb_marc.proofs.SplitLaws.{IsSplit-split_of, split_of-only, split_of-next, next_slice, next_end, next_fault}
use Rattle.zeb_lower_laws.proofs.marc.split_laws.Goals as goal

pub returns : goal.returns
returns c = record {
  found = IsSplit-split_of;
  only = split_of-only;
  step = split_of-next;
  slice = next_slice;
  end = next_end;
  fault = next_fault;
}
