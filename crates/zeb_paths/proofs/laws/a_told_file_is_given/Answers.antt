use Rattle.zeb_paths.proofs.WalkLemmas.{walks_told}
use Rattle.zeb_paths.proofs.laws.a_told_file_is_given.Goals as goal

pub returns : goal.returns
returns c = walks_told
