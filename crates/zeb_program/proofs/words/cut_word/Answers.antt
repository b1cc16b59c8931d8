use Rattle.zeb_program.proofs.Cited.{◌∙◌}
use Rattle.zeb_program.proofs.WordLemmas.{split_word, whole_word}
use Rattle.zeb_program.proofs.words.cut_word.Goals as goal

pub returns-in-Some-clause-word : goal.returns-in-Some-clause-word
returns-in-Some-clause-word c = (split_word c.args.text.now c.in-Some.word.now c.in-Some.rest.now c.in-Some.ensures.cases).0

pub returns-in-Some-clause-rest : goal.returns-in-Some-clause-rest
returns-in-Some-clause-rest c =
    c.without_leading.ensures ∙ (split_word c.args.text.now c.in-Some.word.now c.in-Some.rest.now c.in-Some.ensures.cases).1

pub returns-in-None-clause-word : goal.returns-in-None-clause-word
returns-in-None-clause-word c = (whole_word c.args.text.now c.in-None.ensures.cases).0

pub returns-in-None-clause-rest : goal.returns-in-None-clause-rest
returns-in-None-clause-rest c = (whole_word c.args.text.now c.in-None.ensures.cases).1
