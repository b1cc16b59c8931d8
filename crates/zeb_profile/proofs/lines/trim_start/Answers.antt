use Rattle.zeb_profile.proofs.Trims.{trimmed_start}
use Rattle.zeb_profile.proofs.lines.trim_start.Goals as goal

pub returns : goal.returns
returns c = trimmed_start _ _ c.trim_start_matches.ensures.matches
