use Rattle.zeb_program.proofs.Cited.{◌≡◌, inl, inr, refl, rules, Err, string_bytes, format_of, places_of, IsToldSince, shell_silent, shell_stopped}
use Rattle.zeb_program.proofs.LeftLemmas.{left_unserved, starved}
use Rattle.zeb_program.proofs.SessionLemmas.{left_served, shell_reads, shell_served}
use Rattle.zeb_program.proofs.SinkLemmas.{told_only, unbegun, unfailed}
use Rattle.zeb_program.proofs.ToldLemmas.{told_unanswered}
use Rattle.zeb_program.proofs.WordRunLemmas.{stop_unnamed, unanswered_so}
use Rattle.zeb_program.proofs.command_line.run_shell.Goals as goal
use Rattle.zeb_engine.specs.Sessions.{conditions_in}

pub returns-in-Ok-clause-failed_read : goal.returns-in-Ok-clause-failed_read
returns-in-Ok-clause-failed_read g c =
    let register = c.in-Ok.register in
    let format = format_of register.1 in
    shell_reads (places_of g.P.Store.Store g.P.Paths c.args.paths.now c.open.new.paths) c.args.config format (conditions_in format register.0) (g.R.Source.remaining c.args.input.now) (g.R.Source.remaining c.serve_on.new.input) (g.R.Source.has_failed c.serve_on.new.input) register.0.connection
    c.args.output.now c.serve_on.new.output c.args.fault_output.now c.serve_on.new.fault_output c.serve_on.result c.in-Ok.ensures.opened c.serve_on.ensures

pub returns-in-Ok-clause-answer : goal.returns-in-Ok-clause-answer
returns-in-Ok-clause-answer g c =
    let register = c.in-Ok.register in
    let format = format_of register.1 in
    shell_served (places_of g.P.Store.Store g.P.Paths c.args.paths.now c.open.new.paths) c.args.config format (conditions_in format register.0) (g.R.Source.remaining c.args.input.now) (g.R.Source.remaining c.serve_on.new.input) (g.R.Source.has_failed c.serve_on.new.input) register.0.connection
    c.args.output.now c.serve_on.new.output c.args.fault_output.now c.serve_on.new.fault_output c.serve_on.result c.in-Ok.ensures.opened c.serve_on.ensures

pub returns-in-Err-clause-answer : goal.returns-in-Err-clause-answer
returns-in-Err-clause-answer g c =
    let at = places_of g.P.Store.Store g.P.Paths c.args.paths.now c.open.new.paths in
    let refused = c.in-Err.refused in
    unfailed c.args.output.now c.args.output.now c.args.fault_output.now c.tell_unanswered.new.output _ _ c.tell_unanswered.result
    (told_only c.args.output.now c.args.fault_output.now c.tell_unanswered.new.output _ _ _ _ c.tell_unanswered.result
    (λ told status tells. (
      (λ _. inr refl),
      shell_stopped refused.failure.fault refused.failure.cause refused.closed c.in-Err.ensures.failed refl refl
          (unanswered_so at.sees.bytes c.args.config c.in_ok-named.named refused.failure.fault refused.failure.cause refused.closed told status c.in_ok-named.ensures.cases tells),
    ))
    (λ told left. shell_silent c.in-Err.ensures.failed refl refl left) c.tell_unanswered.ensures.told)

-- there is no memory for the name of the profile's file
pub returns-in_err-named-clause-answer : goal.returns-in_err-named-clause-answer
returns-in_err-named-clause-answer g c =
    let is : c.from_residual.result ≡ Err c.in_err-named.field-0.0 = search rules in
    unfailed c.args.output.now c.args.output.now c.args.fault_output.now c.args.fault_output.now _ _ c.from_residual.result
    (unbegun c.args.output.now c.args.fault_output.now _ _ c.from_residual.result c.in_err-named.field-0.0 is (stop_unnamed (places_of g.P.Store.Store g.P.Paths c.args.paths.now c.args.paths.now) c.args.config (g.R.Source.remaining c.args.input.now) refl))

pub returns-in-Ok-clause-store : goal.returns-in-Ok-clause-store
returns-in-Ok-clause-store g c =
    let register = c.in-Ok.register in
    let format = format_of register.1 in
    left_served (places_of g.P.Store.Store g.P.Paths c.args.paths.now c.open.new.paths) c.args.config format (conditions_in format register.0) (g.R.Source.remaining c.args.input.now) (g.R.Source.remaining c.serve_on.new.input) (g.R.Source.has_failed c.serve_on.new.input) register.0.connection
    c.args.output.now c.serve_on.new.output c.args.fault_output.now c.serve_on.new.fault_output c.serve_on.result c.in-Ok.ensures.opened c.serve_on.ensures (IsToldSince c.args.fault_output.now c.serve_on.new.fault_output)

pub returns-in-Err-clause-store : goal.returns-in-Err-clause-store
returns-in-Err-clause-store g c =
    let refused = c.in-Err.refused in
    left_unserved (places_of g.P.Store.Store g.P.Paths c.args.paths.now c.open.new.paths) c.args.config (g.R.Source.remaining c.args.input.now) refused.failure.fault refused.failure.cause refused.closed c.tell_unanswered.result
    (IsToldSince c.args.fault_output.now c.tell_unanswered.new.output) c.in-Err.ensures.failed
    (told_unanswered c.args.fault_output.now c.tell_unanswered.new.output (g.P.Paths.tells c.open.new.paths (string_bytes c.in_ok-named.named)) c.in_ok-named.named refused.failure.fault refused.failure.cause refused.closed c.tell_unanswered.result c.tell_unanswered.ensures.told)

pub returns-in_err-named-clause-store : goal.returns-in_err-named-clause-store
returns-in_err-named-clause-store g c =
    let is : c.from_residual.result ≡ Err c.in_err-named.field-0.0 = search rules in
    inl (refl, inl (starved c.from_residual.result c.in_err-named.field-0.0 is))
