use Rattle.zeb_program.proofs.Cited.{◌≡◌, ◌++◌, inl, refl, rules, string_bytes, option_map, Ok, Err, telling_of, closing_lines, warning_bytes, ExplainsRun, places_of, IsToldSince}
use Rattle.zeb_program.proofs.LeftLemmas.{left_answered, left_refused, starved}
use Rattle.zeb_program.proofs.SinkLemmas.{told_only, unbegun}
use Rattle.zeb_program.proofs.ToldLemmas.{told_unanswered}
use Rattle.zeb_program.proofs.WordRunLemmas.{stopped_told, told_done, told_warns, told_why}
use Rattle.zeb_program.proofs.command_line.run_task.Goals as goal

pub returns-in-Ok-clause-answer : goal.returns-in-Ok-clause-answer
returns-in-Ok-clause-answer g c =
    let at = places_of g.P.Store.Store g.P.Paths c.args.paths.now c.perform-told.new.paths in
    let told = c.in-Ok.told in
    let performed = c.perform-told.result in (
      told.text.items,
      warning_bytes (option_map string_bytes told.warning) ++ closing_lines performed.closed,
      told_done at c.args.choice c.args.config c.args.task.now c.tell_answer.result performed told (ExplainsRun at c.args.config c.args.task.now) c.in-Ok.is c.perform-told.ensures.performs c.tell_answer.ensures.closing
          (told_warns (g.P.Paths.tells c.args.paths.now) (telling_of g.P.Paths c.perform-told.new.paths) c.args.task.now performed.told told c.in-Ok.is c.perform-told.ensures.warns),
      c.tell_answer.ensures.text,
      c.tell_answer.ensures.told,
    )

pub returns-in-Err-clause-answer : goal.returns-in-Err-clause-answer
returns-in-Err-clause-answer g c =
    let at = places_of g.P.Store.Store g.P.Paths c.args.paths.now c.perform-told.new.paths in
    told_only c.args.output.now c.args.fault_output.now c.tell_unanswered.new.output _ _ _ _ c.tell_unanswered.result
    (λ told status tells. told_why at c.args.choice c.args.config c.args.task.now c.perform-told.result c.in-Err.failure c.in-Err.is c.perform-told.ensures.performs told c.in_ok-named.named status c.in_ok-named.ensures.cases tells)
    (λ told left. (refl, stopped_told at c.args.choice c.args.config c.args.task.now c.perform-told.result c.in-Err.failure c.in-Err.is c.perform-told.ensures.performs told left)) c.tell_unanswered.ensures.told

-- there is no memory for the name of the profile's file
pub returns-in_err-named-clause-answer : goal.returns-in_err-named-clause-answer
returns-in_err-named-clause-answer g c =
    let is : c.from_residual.result ≡ Err c.in_err-named.field-0.0 = search rules in
    unbegun c.args.output.now c.args.fault_output.now _ _ c.from_residual.result c.in_err-named.field-0.0 is (refl, inl (refl, refl))

pub returns-in-Ok-clause-store : goal.returns-in-Ok-clause-store
returns-in-Ok-clause-store g c =
    let at = places_of g.P.Store.Store g.P.Paths c.args.paths.now c.perform-told.new.paths in
    left_answered at c.args.choice c.args.task.now (Ok c.tell_answer.result) (IsToldSince c.args.fault_output.now c.tell_answer.new.fault_output)
    c.args.config c.perform-told.result c.in-Ok.told (ExplainsRun at c.args.config c.args.task.now) c.in-Ok.is c.perform-told.ensures.performs

pub returns-in-Err-clause-store : goal.returns-in-Err-clause-store
returns-in-Err-clause-store g c =
    let at = places_of g.P.Store.Store g.P.Paths c.args.paths.now c.perform-told.new.paths in
    left_refused at c.args.choice c.args.task.now c.tell_unanswered.result (IsToldSince c.args.fault_output.now c.tell_unanswered.new.output)
    c.args.config c.perform-told.result c.in-Err.failure (ExplainsRun at c.args.config c.args.task.now) c.in-Err.is c.perform-told.ensures.performs
    (told_unanswered c.args.fault_output.now c.tell_unanswered.new.output (g.P.Paths.tells c.perform-told.new.paths (string_bytes c.in_ok-named.named)) c.in_ok-named.named c.in-Err.failure.fault c.in-Err.failure.cause c.perform-told.result.closed c.tell_unanswered.result c.tell_unanswered.ensures.told)

pub returns-in_err-named-clause-store : goal.returns-in_err-named-clause-store
returns-in_err-named-clause-store g c =
    let is : c.from_residual.result ≡ Err c.in_err-named.field-0.0 = search rules in
    inl (refl, inl (starved c.from_residual.result c.in_err-named.field-0.0 is))
