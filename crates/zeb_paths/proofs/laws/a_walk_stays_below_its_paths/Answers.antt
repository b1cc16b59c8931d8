use Rattle.zeb_paths.proofs.WalkLemmas.{walks_under}
use Rattle.zeb_paths.proofs.laws.a_walk_stays_below_its_paths.Goals as goal

pub returns : goal.returns
returns c = walks_under
