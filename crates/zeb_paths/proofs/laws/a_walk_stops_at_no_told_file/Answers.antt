use Rattle.zeb_paths.proofs.WalkLemmas.{stops_untold}
use Rattle.zeb_paths.proofs.laws.a_walk_stops_at_no_told_file.Goals as goal

pub returns : goal.returns
returns c = stops_untold
