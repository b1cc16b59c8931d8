use Rattle.zeb_program.proofs.Cited.{◌≡◌, ◌∙◌, ap, inr, refl, rules, Err, places_of, StopsReading}
use Rattle.zeb_program.proofs.ScriptAnswerLemmas.{text_input}
use Rattle.zeb_program.proofs.ResultValues.{passed_failure}
use Rattle.zeb_program.proofs.WordRunLemmas.{profile_fault}
use Rattle.zeb_program.proofs.command_line.begin_batch.Goals as goal

pub returns-in-Ok-clause-begun : goal.returns-in-Ok-clause-begun
returns-in-Ok-clause-begun g c = (c.in_ok-profile.ensures.read, (text_input c.in-Ok.text c.in-Ok.ensures.text.0, c.in-Ok.ensures.text.1))

pub returns-in_err-profile-clause-refused : goal.returns-in_err-profile-clause-refused
returns-in_err-profile-clause-refused g c =
    let is : c.from_residual.result ≡ Err c.in_err-profile.field-0.0 = search rules in
    let at = places_of g.P.Store.Store g.P.Paths c.args.paths.now c.args.paths.now in
    let given = g.R.Source.remaining c.args.input.now in
    let failed = g.R.Source.has_failed c.args.input.now in
    passed_failure (λ failure. StopsReading at c.args.config given failed failure.fault failure.cause) c.from_residual.result c.in_err-profile.field-0.0 is
    (profile_fault at c.args.config given failed c.in_err-profile.field-0.0 c.in_err-profile.ensures.read c.in_err-profile.ensures.explains)

pub returns-in-Err-Unreadable-clause-refused : goal.returns-in-Err-Unreadable-clause-refused
returns-in-Err-Unreadable-clause-refused g c =
    let cause = c.in-Err-Unreadable.cause in
    inr (
      c.in_ok-profile.profile,
      c.in_ok-profile.ensures.read,
      (
        c.in_ok-input_path-in-Err-Unreadable.input_path,
        refl,
        c.in_ok-input_path-in-Err-Unreadable.ensures.ok,
        cause,
        c.read_input.ensures.unreadable cause (c.in-Err-Unreadable.is ∙ ap Err c.in-Err-Unreadable.field-0-is),
        rw (c.in-Err-Unreadable.field-0-is) refl,
      ),
    )
