use Rattle.zeb_program.proofs.WordLemmas.{trimmed_front}
use Rattle.zeb_program.proofs.words.without_leading.Goals as goal

pub returns : goal.returns
returns c = trimmed_front c.args.text.now c.trim_start_matches.result.now c.trim_start_matches.ensures.matches
