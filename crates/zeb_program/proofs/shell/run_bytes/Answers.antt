use Rattle.zeb_program.proofs.Cited.{◌∙◌, ap, subst, bad_line, first_line, ShowsLine, telling_of}
use Rattle.zeb_program.proofs.ShellLemmas.{no_text_over}
use Rattle.zeb_program.proofs.SinkLemmas.{sends_so}
use Rattle.zeb_program.proofs.shell.run_bytes.Goals as goal
use Rattle.zeb_engine.specs.Sessions.{conditions_in}

pub returns-in_default-clause-shows : goal.returns-in_default-clause-shows
returns-in_default-clause-shows g c =
    let k = conditions_in g.L.Layout.format c.args.session.now in (
      bad_line c.args.number,
      (λ _ alone. no_text_over g.S.Store (telling_of g.P.Paths c.args.paths.now) g.L.Layout.format k c.args.number c.args.bytes.items c.args.session.now.connection c.refuse_line.result
          (λ text. absurd (cc (c.in_default.ensures.succeeds text))) c.refuse_line.ensures.status alone),
      c.refuse_line.ensures.line,
    )

pub returns-clause-shows : goal.returns-clause-shows
returns-clause-shows g c =
    let k = conditions_in g.L.Layout.format c.args.session.now in
    sends_so c.args.output.now c.run_line.new.output _ _
    (λ bytes shows clean _. subst (λ line. ShowsLine g.S.Store (telling_of g.P.Paths c.args.paths.now) g.L.Layout.format k c.args.number line c.args.session.now.connection c.run_line.new.session.connection bytes c.run_line.result)
    (c.cut_line.ensures.line ∙ ap first_line (c.as_str.ensures.value ∙ ap (λ bytes. bytes.items) c.in-Ok.ensures.ok)) (shows clean)) c.run_line.ensures.shows
