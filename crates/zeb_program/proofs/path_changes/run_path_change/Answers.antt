use Rattle.zeb_program.proofs.Cited.{◌∙◌, ◌≡◌, ap, Err, Ok, HasCleanDisk, answer_status, answer_text, inr, refl, rules, state, TellsFault, telling_of}
use Rattle.zeb_program.proofs.LineStopLemmas.{path_over, path_stops}
use Rattle.zeb_program.proofs.ShownLemmas.{starved, told_or_done}
use Rattle.zeb_program.proofs.path_changes.run_path_change.Goals as goal
use Rattle.zeb_engine.specs.Sessions.{conditions_in}

pub returns-in_ok-render-in-Ok-clause-shows : goal.returns-in_ok-render-in-Ok-clause-shows
returns-in_ok-render-in-Ok-clause-shows g c =
    let bytes = c.as_slice.result.now in (
      bytes,
      (λ clean. path_over g.S.Store (telling_of g.P.Paths c.args.paths.now) g.L.Layout.format (conditions_in g.L.Layout.format c.args.session.now) c.args.change.now c.args.session.now.connection c.change_by_paths.new.session.connection
          c.from_ref-named.result.now c.from_ref-named.ensures.value (Ok c.in-Ok.reply) bytes _ c.in-Ok.ensures.reaches (c.in-Ok.ensures.changes clean) (c.as_slice.ensures.value ∙ c.in_ok-render-in-Ok.ensures, refl)),
      c.write.ensures.sent,
    )

pub returns-in_err-render-in-Ok-clause-shows : goal.returns-in_err-render-in-Ok-clause-shows
returns-in_err-render-in-Ok-clause-shows g c =
    let reply = c.in-Ok.reply in
    let is : c.from_residual.result ≡ Err c.in_err-render-in-Ok.field-0.0 = search rules in
    starved (HasCleanDisk (state g.S.Store c.change_by_paths.new.session.connection)) _ _ c.args.output.now c.from_residual.result c.in_err-render-in-Ok.field-0.0 is
    (λ clean. inr (
      answer_text (Ok reply),
      answer_status (Ok reply),
      path_over g.S.Store (telling_of g.P.Paths c.args.paths.now) g.L.Layout.format (conditions_in g.L.Layout.format c.args.session.now) c.args.change.now c.args.session.now.connection c.change_by_paths.new.session.connection
          c.from_ref-named.result.now c.from_ref-named.ensures.value (Ok reply) _ _ c.in-Ok.ensures.reaches (c.in-Ok.ensures.changes clean) (refl, refl),
    ))

pub returns-in-Err-clause-shows : goal.returns-in-Err-clause-shows
returns-in-Err-clause-shows g c =
    let at = telling_of g.P.Paths c.args.paths.now in
    let k = conditions_in g.L.Layout.format c.args.session.now in
    let old = c.args.session.now.connection in
    let new = c.change_by_paths.new.session.connection in
    told_or_done (HasCleanDisk (state g.S.Store new)) _ _ c.args.output.now c.tell.new.output (TellsFault c.in-Err.fault) c.tell.result c.tell.ensures.told
    (λ clean bytes status told. path_over g.S.Store at g.L.Layout.format k c.args.change.now old new c.from_ref-named.result.now c.from_ref-named.ensures.value (Err c.in-Err.fault) bytes status c.in-Err.ensures.reaches (c.in-Err.ensures.changes clean) told)
    (λ clean. path_stops g.S.Store at g.L.Layout.format k c.args.change.now old new c.from_ref-named.result.now c.from_ref-named.ensures.value c.in-Err.fault
    (λ unread. ap (λ session. session.connection) (c.in-Err.ensures.unread unread)) c.in-Err.ensures.reaches (c.in-Err.ensures.changes clean))
