use Rattle.zeb_program.proofs.Cited.{◌≡◌, false, true, refl, rules, string_bytes, none_used, format_of, places_of, BeginsRegister, IsToldSince, Unsaid}
use Rattle.zeb_program.proofs.LeftLemmas.{left_unopened}
use Rattle.zeb_program.proofs.SessionLemmas.{left_lines, run_kept}
use Rattle.zeb_program.proofs.SinkLemmas.{told_only}
use Rattle.zeb_program.proofs.ToldLemmas.{told_unanswered}
use Rattle.zeb_program.proofs.WordRunLemmas.{begun_or, run_none, run_unopened, stop_unopened}
use Rattle.zeb_program.proofs.command_line.serve_batch.Goals as goal
use Rattle.zeb_engine.specs.Sessions.{conditions_in}

pub returns-then-not-uses_store-clause-answer : goal.returns-then-not-uses_store-clause-answer
returns-then-not-uses_store-clause-answer g c =
    let unused : c.uses_store.result ≡ false = search rules in
    let no = c.uses_store.ensures.unused unused in
    let runs = c.run_on_nothing.ensures in
    (runs.0, runs.1, run_none (places_of g.P.Store.Store g.P.Paths c.args.paths.now c.args.paths.now) c.args.config c.args.profile c.args.text.now runs.0 runs.1 c.run_on_nothing.result no.0 (c.begins.ensures.none no.1) refl runs.2, runs.3, runs.4)

pub returns-in-Ok-clause-answer : goal.returns-in-Ok-clause-answer
returns-in-Ok-clause-answer g c =
    let uses : c.uses_store.result ≡ true = search rules in
    let may = begun_or _ _ c.begins.result (c.uses_store.ensures.used uses) c.begins.ensures.some in
    let register = c.in-Ok.register in
    let format = format_of register.1 in
    run_kept (places_of g.P.Store.Store g.P.Paths c.args.paths.now c.open_register.new.paths) c.args.config format c.args.profile c.args.text.now (conditions_in format register.0) register.0.connection
    c.args.output.now c.run_on.new.output c.args.fault_output.now c.run_on.new.fault_output c.run_on.result may c.in-Ok.ensures.under c.in-Ok.ensures.opened c.run_on.ensures

pub returns-in-Err-clause-answer : goal.returns-in-Err-clause-answer
returns-in-Err-clause-answer g c =
    let uses : c.uses_store.result ≡ true = search rules in
    let may = begun_or _ _ c.begins.result (c.uses_store.ensures.used uses) c.begins.ensures.some in
    let at = places_of g.P.Store.Store g.P.Paths c.args.paths.now c.open_register.new.paths in
    let refused = c.in-Err.refused in
    told_only c.args.output.now c.args.fault_output.now c.tell_unanswered.new.output _ _ _ _ c.tell_unanswered.result
    (λ told status tells. run_unopened at c.args.profile c.args.text.now may told c.args.config refused.failure.fault refused.failure.cause refused.closed status c.in-Err.ensures.failed tells)
    (λ told left. stop_unopened at c.args.profile c.args.text.now may told refused.failure.fault refused.failure.cause refused.closed c.in-Err.ensures.failed left) c.tell_unanswered.ensures.told

pub returns-then-not-uses_store-clause-store : goal.returns-then-not-uses_store-clause-store
returns-then-not-uses_store-clause-store g c =
    let unused : c.uses_store.result ≡ false = search rules in
    let no = c.uses_store.ensures.unused unused in
    none_used refl no.0 (c.begins.ensures.none no.1)

pub returns-in-Ok-clause-store : goal.returns-in-Ok-clause-store
returns-in-Ok-clause-store g c =
    let uses : c.uses_store.result ≡ true = search rules in
    let may = begun_or _ _ c.begins.result (c.uses_store.ensures.used uses) c.begins.ensures.some in
    let register = c.in-Ok.register in
    let format = format_of register.1 in
    left_lines (places_of g.P.Store.Store g.P.Paths c.args.paths.now c.open_register.new.paths) c.args.config format c.args.profile c.args.text.now (conditions_in format register.0) register.0.connection
    c.args.output.now c.run_on.new.output c.args.fault_output.now c.run_on.new.fault_output c.run_on.result may c.in-Ok.ensures.under c.in-Ok.ensures.opened c.run_on.ensures (IsToldSince c.args.fault_output.now c.run_on.new.fault_output)

pub returns-in-Err-clause-store : goal.returns-in-Err-clause-store
returns-in-Err-clause-store g c =
    let uses : c.uses_store.result ≡ true = search rules in
    let may = begun_or _ _ c.begins.result (c.uses_store.ensures.used uses) c.begins.ensures.some in
    let refused = c.in-Err.refused in
    left_unopened (places_of g.P.Store.Store g.P.Paths c.args.paths.now c.open_register.new.paths) Unsaid c.args.profile c.tell_unanswered.result (IsToldSince c.args.fault_output.now c.tell_unanswered.new.output) (BeginsRegister c.args.text.now) _
    refused.failure.fault refused.failure.cause refused.closed may c.in-Err.ensures.failed
    (told_unanswered c.args.fault_output.now c.tell_unanswered.new.output (g.P.Paths.tells c.open_register.new.paths (string_bytes c.args.config)) c.args.config refused.failure.fault refused.failure.cause refused.closed c.tell_unanswered.result c.tell_unanswered.ensures.told)
