-- The bytes are a function of the list, and a list is told by its bytes.
use Rattle.zeb_blocks.proofs.Cited.{◌∙◌, sym, refl, start_of}
use Rattle.zeb_blocks.specs.Blocks.{spelled_from}
use Rattle.zeb_blocks.proofs.Lists.{same_list}
use Rattle.zeb_blocks.proofs.Taking.{spells_start}
use Rattle.zeb_lower_laws.proofs.blocks.spellings_and_lists_are_one_to_one.Goals as goal

pub returns-clause-spelled : goal.returns-clause-spelled
returns-clause-spelled c = λ block list some lies. (spelled_from (start_of block) list, record { some = some; lies = lies; spelled = refl })

pub returns-clause-one_spelling : goal.returns-clause-one_spelling
returns-clause-one_spelling c = λ block list one other first second. first.spelled ∙ sym second.spelled

pub returns-clause-one_list : goal.returns-clause-one_list
returns-clause-one_list c = λ block bytes one other first second. same_list (start_of block) bytes one other (spells_start block one bytes first) (spells_start block other bytes second)
