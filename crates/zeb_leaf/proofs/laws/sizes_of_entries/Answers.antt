-- Five numbers of ten bytes at most.
use Rattle.zeb_leaf.proofs.Numbers.{entry_at_most}
use Rattle.zeb_leaf.proofs.laws.sizes_of_entries.Goals as goal

pub returns : goal.returns
returns c = entry_at_most
