use Rattle.zeb_program.proofs.Cited.{[], ap, refl, subst, sym, Err, telling_of, IsInput, unreadable_line}
use Rattle.zeb_program.specs.ScriptAnswers.{silent}
use Rattle.zeb_program.proofs.ScriptAnswerLemmas.{text_input, told_text, unread_script}
use Rattle.zeb_program.proofs.SinkLemmas.{sent_none}
use Rattle.zeb_program.proofs.program.run_script.Goals as goal

pub returns-in-Err-Unreadable-clause-answer : goal.returns-in-Err-Unreadable-clause-answer
returns-in-Err-Unreadable-clause-answer g c =
    (unreadable_line, (λ read. unread_script (telling_of g.P.Paths c.args.paths.now) _ _ refl (c.in-Err-Unreadable.ensures.unreadable (ap Err c.in-Err-Unreadable.field-0-is) read)), c.write_line.ensures.sent)

pub run_text-requires : goal.run_text-requires
run_text-requires g c = subst IsInput (sym c.as_str-text.ensures.value) (text_input c.in-Ok.text c.in-Ok.ensures.text.0)

pub returns-in-Err-Memory-clause-answer : goal.returns-in-Err-Memory-clause-answer
returns-in-Err-Memory-clause-answer g c = ([], (λ _. told_text (g.R.Source.remaining c.args.input.now) _ (λ text. silent)), sent_none c.args.output.now)
