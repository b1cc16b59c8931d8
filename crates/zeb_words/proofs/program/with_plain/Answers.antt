use Rattle.zeb_words.proofs.Made.{added_by}
use Rattle.zeb_words.proofs.program.with_plain.Goals as goal
use Rattle.clap.specs.Simple.{app_of}

pub returns : goal.returns
returns c = added_by app_of c.args.program c.with_command.result c.plain.result _ c.plain.ensures.app c.with_command.ensures
