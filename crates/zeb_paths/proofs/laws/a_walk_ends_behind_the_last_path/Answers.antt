use Rattle.zeb_paths.proofs.WalkLemmas.{walks_ended}
use Rattle.zeb_paths.proofs.laws.a_walk_ends_behind_the_last_path.Goals as goal

pub returns : goal.returns
returns c = walks_ended
