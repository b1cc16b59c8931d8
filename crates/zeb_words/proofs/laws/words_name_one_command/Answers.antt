use Rattle.zeb_words.proofs.OneCommand.{one_command}
use Rattle.zeb_words.proofs.laws.words_name_one_command.Goals as goal

pub returns : goal.returns
returns c = one_command
