use Rattle.zeb_profile.proofs.Cited.{map_from_collect, YieldsList-from_lines}
use Rattle.zeb_profile.proofs.reading.split_lines.Goals as goal

pub returns : goal.returns
returns c = map_from_collect _ c.collect.ensures.ran (YieldsList-from_lines c.args.text.now c.lines.ensures.rest)
