use Rattle.zeb_program.proofs.WordLemmas.{trimmed_back}
use Rattle.zeb_program.proofs.words.without_trailing.Goals as goal

pub returns : goal.returns
returns c = trimmed_back c.args.text.now c.trim_end_matches.result.now c.trim_end_matches.ensures.matches
