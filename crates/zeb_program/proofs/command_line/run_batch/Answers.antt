use Rattle.zeb_program.proofs.Cited.{◌≡◌, inl, inr, refl, rules, subst, sym, Err, places_of, IsToldSince, IsText, batch_part, batch_ran, batch_silent, batch_stopped}
use Rattle.zeb_program.proofs.LeftLemmas.{left_unread, starved}
use Rattle.zeb_program.proofs.SinkLemmas.{ends_so, told_only, unbegun}
use Rattle.zeb_program.proofs.ToldLemmas.{told_caused}
use Rattle.zeb_program.proofs.WordRunLemmas.{lines_named}
use Rattle.zeb_program.proofs.command_line.run_batch.Goals as goal

pub returns-in-Ok-clause-answer : goal.returns-in-Ok-clause-answer
returns-in-Ok-clause-answer g c =
    let at = places_of g.P.Store.Store g.P.Paths c.args.paths.now c.serve_batch.new.paths in
    let text = c.as_str-text.result.now in
    let is = subst (IsText (g.R.Source.remaining c.args.input.now)) (sym c.as_str-text.ensures.value) c.in-Ok.ensures.begun.1 in
    ends_so c.args.output.now c.serve_batch.new.output c.args.fault_output.now c.serve_batch.new.fault_output _ _ _ _ c.serve_batch.result
    (λ bytes told status runs. batch_ran c.in-Ok.profile text c.in-Ok.ensures.begun.0 is (lines_named at c.args.config c.in-Ok.profile text bytes told c.in_ok-named.named status c.in_ok-named.ensures.cases runs))
    (λ bytes told stops. batch_part c.in-Ok.profile text c.in-Ok.ensures.begun.0 is stops) c.serve_batch.ensures.answer

pub returns-in-Err-clause-answer : goal.returns-in-Err-clause-answer
returns-in-Err-clause-answer g c =
    told_only c.args.output.now c.args.fault_output.now c.tell_failure.new.output _ _ _ _ c.tell_failure.result
    (λ told status tells. batch_stopped c.in-Err.failure.fault c.in-Err.failure.cause refl c.in-Err.ensures.refused refl tells) (λ told silent. batch_silent refl refl silent.0) c.tell_failure.ensures.told

-- there is no memory for the name of the profile's file
pub returns-in_err-named-clause-answer : goal.returns-in_err-named-clause-answer
returns-in_err-named-clause-answer g c =
    let is : c.from_residual.result ≡ Err c.in_err-named.field-0.0 = search rules in
    unbegun c.args.output.now c.args.fault_output.now _ _ c.from_residual.result c.in_err-named.field-0.0 is (batch_silent refl refl refl)

pub returns-in-Ok-clause-store : goal.returns-in-Ok-clause-store
returns-in-Ok-clause-store g c =
    inr (c.as_str-text.result.now, subst (IsText (g.R.Source.remaining c.args.input.now)) (sym c.as_str-text.ensures.value) c.in-Ok.ensures.begun.1, c.in-Ok.profile, c.in-Ok.ensures.begun.0, c.serve_batch.ensures.store)

pub returns-in-Err-clause-store : goal.returns-in-Err-clause-store
returns-in-Err-clause-store g c =
    left_unread (places_of g.P.Store.Store g.P.Paths c.args.paths.now c.args.paths.now) c.args.config (g.R.Source.remaining c.args.input.now) (g.R.Source.has_failed c.begin_batch.new.input) c.in-Err.failure.fault c.in-Err.failure.cause c.tell_failure.result
    (IsToldSince c.args.fault_output.now c.tell_failure.new.output) refl c.in-Err.ensures.refused
    (told_caused c.args.fault_output.now c.tell_failure.new.output c.in-Err.failure.fault c.in-Err.failure.cause c.tell_failure.result c.tell_failure.ensures.told)

pub returns-in_err-named-clause-store : goal.returns-in_err-named-clause-store
returns-in_err-named-clause-store g c =
    let is : c.from_residual.result ≡ Err c.in_err-named.field-0.0 = search rules in
    inl (refl, inl (starved c.from_residual.result c.in_err-named.field-0.0 is))
