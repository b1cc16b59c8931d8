use Rattle.zeb_program.proofs.Cited.{[], inl, inr, arith, subst, Consumes-nil, starved_line, Sent, StopsTask, TellsApart, LeavesByTask, left_alone, left_by_batch, left_by_shell, left_by_task, places_of, IsToldSince, misused, refl}
use Rattle.zeb_program.specs.WordAnswers.{batched, named, served, stopped_batch, stopped_shell, stopped_task}
use Rattle.zeb_program.proofs.SinkLemmas.{unfailed, unfailed_so}
use Rattle.zeb_program.proofs.ToldLemmas.{told_alone}
use Rattle.zeb_program.proofs.WordAnswerLemmas.{usage_starved}
use Rattle.zeb_program.proofs.command_line.run_words.Goals as goal

pub returns-in-Err-clause-answer : goal.returns-in-Err-clause-answer
returns-in-Err-clause-answer g c =
    let told = c.refuse_words.ensures in
    (told.0, told.1, (λ _ _. misused c.in-Err.usage c.in-Err.ensures.nameless c.in-Err.ensures.refused refl refl told.2), told.3, told.4)

-- words of which no command is read take nothing of the input, nor does a task
pub returns-in-Err-clause-input : goal.returns-in-Err-clause-input
returns-in-Err-clause-input g c = (λ other. ([], omega (arith), Consumes-nil (g.R.Source.remaining c.args.input.now)), λ other. refl)

pub returns-in-Task-clause-input : goal.returns-in-Task-clause-input
returns-in-Task-clause-input g c = (λ other. ([], omega (arith), Consumes-nil (g.R.Source.remaining c.args.input.now)), λ other. refl)

pub returns-in-Task-clause-answer : goal.returns-in-Task-clause-answer
returns-in-Task-clause-answer g c =
    let at = places_of g.P.Store.Store g.P.Paths c.args.paths.now c.run_task.new.paths in
    let config = c.in-Ok.words.config in
    let task = c.in-Task.task in
    unfailed_so c.args.output.now c.run_task.new.output c.args.fault_output.now c.run_task.new.fault_output _ _ _ _ c.run_task.result
    (λ bytes told status tells. named c.in-Ok.words task c.in-Ok.ensures.named c.in-Task.ensures (subst (λ choice. TellsApart at choice config task bytes told status) c.layout_asked-choice.ensures tells))
    (λ bytes told stops. stopped_task c.in-Ok.words task c.in-Ok.ensures.named c.in-Task.ensures (subst (λ choice. StopsTask at choice config task told) c.layout_asked-choice.ensures stops.1) stops.0)
    (unfailed c.args.output.now c.run_task.new.output c.args.fault_output.now c.run_task.new.fault_output _ _ c.run_task.result c.run_task.ensures.answer)

pub returns-in-Batch-clause-input : goal.returns-in-Batch-clause-input
returns-in-Batch-clause-input g c = (λ other. c.run_batch.ensures.bounded, λ other. absurd (other (inl (c.in-Ok.words, c.in-Ok.ensures.named, c.in-Batch.ensures))))

pub returns-in-Batch-clause-answer : goal.returns-in-Batch-clause-answer
returns-in-Batch-clause-answer g c =
    unfailed_so c.args.output.now c.run_batch.new.output c.args.fault_output.now c.run_batch.new.fault_output _ _ _ _ c.run_batch.result
    (λ bytes told status runs. batched c.in-Ok.words c.in-Ok.ensures.named c.in-Batch.ensures runs) (λ bytes told stops. stopped_batch c.in-Ok.words c.in-Ok.ensures.named c.in-Batch.ensures stops)
    (unfailed c.args.output.now c.run_batch.new.output c.args.fault_output.now c.run_batch.new.fault_output _ _ c.run_batch.result c.run_batch.ensures.answer)

pub returns-in-Shell-clause-input : goal.returns-in-Shell-clause-input
returns-in-Shell-clause-input g c = (
  λ other. absurd (other (c.in-Ok.words, c.in-Ok.ensures.named, c.in-Shell.ensures)),
  λ other. absurd (other (inr (c.in-Ok.words, c.in-Ok.ensures.named, c.in-Shell.ensures))),
)

pub returns-in-Shell-clause-answer : goal.returns-in-Shell-clause-answer
returns-in-Shell-clause-answer g c =
    unfailed_so c.args.output.now c.run_shell.new.output c.args.fault_output.now c.run_shell.new.fault_output _ _ _ _ c.run_shell.result
    (λ bytes told status runs. served c.in-Ok.words c.in-Ok.ensures.named c.in-Shell.ensures runs.0 runs.1) (λ bytes told stops. stopped_shell c.in-Ok.words c.in-Ok.ensures.named c.in-Shell.ensures stops) c.run_shell.ensures.answer

pub returns-in-Err-clause-store : goal.returns-in-Err-clause-store
returns-in-Err-clause-store g c =
    let told = c.refuse_words.ensures in
    left_alone c.in-Err.usage c.in-Err.ensures.nameless
    (λ is. told_alone c.args.fault_output.now c.refuse_words.new.fault_output starved_line
    (subst (Sent c.args.fault_output.now c.refuse_words.new.fault_output) (usage_starved c.in-Err.usage told.0 told.1 c.refuse_words.result is told.2) told.4)) refl

pub returns-in-Task-clause-store : goal.returns-in-Task-clause-store
returns-in-Task-clause-store g c =
    left_by_task c.in-Ok.words c.in-Task.task c.in-Ok.ensures.named c.in-Task.ensures
    (subst (λ choice. LeavesByTask (places_of g.P.Store.Store g.P.Paths c.args.paths.now c.run_task.new.paths) choice c.in-Ok.words.config c.in-Task.task c.run_task.result
    (IsToldSince c.args.fault_output.now c.run_task.new.fault_output)) c.layout_asked-choice.ensures c.run_task.ensures.store)

pub returns-in-Batch-clause-store : goal.returns-in-Batch-clause-store
returns-in-Batch-clause-store g c = left_by_batch c.in-Ok.words c.in-Ok.ensures.named c.in-Batch.ensures c.run_batch.ensures.store

pub returns-in-Shell-clause-store : goal.returns-in-Shell-clause-store
returns-in-Shell-clause-store g c = left_by_shell c.in-Ok.words c.in-Ok.ensures.named c.in-Shell.ensures c.run_shell.ensures.store
