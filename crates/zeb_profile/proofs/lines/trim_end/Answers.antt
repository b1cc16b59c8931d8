use Rattle.zeb_profile.proofs.Trims.{trimmed_end}
use Rattle.zeb_profile.proofs.lines.trim_end.Goals as goal

pub returns : goal.returns
returns c = trimmed_end _ _ c.trim_end_matches.ensures.matches
