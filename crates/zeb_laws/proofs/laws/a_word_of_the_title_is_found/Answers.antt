use Rattle.zeb_laws.proofs.WorkedAnswers.{has_no_other, word_found, word_not_found}
use Rattle.zeb_laws.proofs.laws.a_word_of_the_title_is_found.Goals as goal

pub returns-clause-found : goal.returns-clause-found
returns-clause-found c = word_found

pub returns-clause-other_word : goal.returns-clause-other_word
returns-clause-other_word c = has_no_other

pub returns-clause-not_found : goal.returns-clause-not_found
returns-clause-not_found c = word_not_found
