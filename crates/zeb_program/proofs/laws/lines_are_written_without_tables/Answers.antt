use Rattle.zeb_program.proofs.WrittenLemmas.{over_is_written}
use Rattle.zeb_program.proofs.laws.lines_are_written_without_tables.Goals as goal

pub returns : goal.returns
returns c = over_is_written
