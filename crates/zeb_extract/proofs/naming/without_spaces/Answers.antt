use Rattle.zeb_extract.proofs.Cited.{ap, ◌∙◌, without_trailing_spaces}
use Rattle.zeb_extract.proofs.Spaces.{without_front, without_end}
use Rattle.zeb_extract.proofs.naming.without_spaces.Goals as goal

pub returns : goal.returns
returns c =
    without_end _ _ c.trim_end_matches.ensures.matches
    ∙ ap without_trailing_spaces (without_front _ _ c.trim_start_matches.ensures.matches)
