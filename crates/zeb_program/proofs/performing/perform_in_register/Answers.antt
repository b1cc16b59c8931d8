use Rattle.zeb_program.proofs.Cited.{List, subst, ℕ, option_map, IfOk, Option, string_bytes, telling_of, ExplainsFailure, ServesHeld, format_of, places_of, paths_of, WarnsOf, ServesUnder}
use Rattle.zeb_program.proofs.WordRunLemmas.{answered_kept, gives_closed, unopened_register}
use Rattle.zeb_program.proofs.performing.perform_in_register.Goals as goal
use Rattle.zeb_engine.specs.Sessions.{conditions_in}

pub returns-in-Err-clause-serves : goal.returns-in-Err-clause-serves
returns-in-Err-clause-serves g c =
    unopened_register (places_of g.P.Store.Store g.P.Paths c.args.paths.now c.open_register.new.paths) c.args.choice c.args.profile c.args.task.now c.in-Err.refused.failure.fault c.in-Err.refused.failure.cause c.in-Err.refused.closed c.requires c.in-Err.ensures.failed

pub returns-in-Ok-clause-serves : goal.returns-in-Ok-clause-serves
returns-in-Ok-clause-serves g c =
    let register = c.in-Ok.register in
    let format = format_of register.1 in
    let k = conditions_in format register.0 in
    let tells = g.P.Paths.tells c.open_register.new.paths in
    let at = places_of g.P.Store.Store g.P.Paths c.args.paths.now c.open_register.new.paths in
    let Why = ExplainsFailure at.sees at.explains (paths_of c.args.task.now) in
    gives_closed c.serve_task.result (ServesHeld at.store at.leaves tells at.sees format k c.args.task.now register.0.connection) (ServesUnder at c.args.choice c.args.profile c.args.task.now) Why Why
    (λ closed answer. answered_kept at c.args.choice format c.args.profile c.args.task.now tells k register.0.connection closed answer c.open_register.ensures.told c.requires
    c.in-Ok.ensures.under c.in-Ok.ensures.opened) (λ met failure told. told) c.serve_task.ensures.serves

pub returns-in-Ok-clause-warns : goal.returns-in-Ok-clause-warns
returns-in-Ok-clause-warns g c =
    let later = c.open_register.new.paths in
    let at = telling_of g.P.Paths later in
    subst (λ (tells : List ℕ → Option (List ℕ)). IfOk c.serve_task.result.told (λ told. WarnsOf tells at c.args.task.now (option_map string_bytes told.warning))) c.open_register.ensures.told c.serve_task.ensures.warns
