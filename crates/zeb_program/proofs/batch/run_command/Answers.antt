use Rattle.zeb_program.proofs.Cited.{◌∙◌, refl, rules, ◌≡◌, Err, Ok, HasCleanDisk, answer_status, answer_text, state}
use Rattle.zeb_program.proofs.ShownLemmas.{starved, told_or_done}
use Rattle.zeb_program.proofs.batch.run_command.Goals as goal

pub returns-in_ok-render-in-Ok-clause-shows : goal.returns-in_ok-render-in-Ok-clause-shows
returns-in_ok-render-in-Ok-clause-shows g c =
    let done = c.in-Ok.ensures in
    (c.as_slice.result.now, (λ clean. (Ok c.in-Ok.reply, c.as_slice.ensures.value ∙ c.in_ok-render-in-Ok.ensures, refl, (done.step clean, done.tables clean, done.lasts, done.holds.0.durable clean))), c.write.ensures.sent)

pub returns-in_err-render-in-Ok-clause-shows : goal.returns-in_err-render-in-Ok-clause-shows
returns-in_err-render-in-Ok-clause-shows g c =
    let reply = c.in-Ok.reply in
    let done = c.in-Ok.ensures in
    let is : c.from_residual.result ≡ Err c.in_err-render-in-Ok.field-0.0 = search rules in
    starved (HasCleanDisk (state g.S.Store c.command.new.self.connection)) _ _ c.args.output.now c.from_residual.result c.in_err-render-in-Ok.field-0.0 is
    (λ clean. (answer_text (Ok reply), answer_status (Ok reply), (Ok reply, refl, refl, (done.step clean, done.tables clean, done.lasts, done.holds.0.durable clean))))

pub returns-in-Err-clause-shows : goal.returns-in-Err-clause-shows
returns-in-Err-clause-shows g c =
    let why = c.in-Err.refusal in
    let done = c.in-Err.ensures in
    told_or_done (HasCleanDisk (state g.S.Store c.command.new.self.connection)) _ _ _ _ _ c.refuse.result c.refuse.ensures.told
    (λ clean bytes status said. (Err why, said.0, said.1, (done.step clean, done.tables clean, done.lasts, done.holds.0.durable clean)))
    (λ clean. (answer_text (Err why), answer_status (Err why), (Err why, refl, refl, (done.step clean, done.tables clean, done.lasts, done.holds.0.durable clean))))
