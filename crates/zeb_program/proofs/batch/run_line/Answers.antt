use Rattle.zeb_program.proofs.Cited.{◌≡◌, [], inl, refl, rules, subst, Err, HasCleanDisk, Sent, state, string_bytes, bad_line, mark_line, SaysText, Remark, Mark, Bad, telling_of}
use Rattle.zeb_program.proofs.OverLemmas.{alone}
use Rattle.zeb_program.proofs.ShownLemmas.{ordered_line, path_line, starved}
use Rattle.zeb_program.proofs.SinkLemmas.{sends_so, sent_none}
use Rattle.zeb_program.proofs.batch.run_line.Goals as goal
use Rattle.zeb_engine.specs.Sessions.{conditions_in}

pub returns-in-Remark-clause-shows : goal.returns-in-Remark-clause-shows
returns-in-Remark-clause-shows g c =
    ([], (λ _. (Remark, inl (c.utf8.line, subst (SaysText c.args.line.now) c.in-Remark.is c.in_ok-read.ensures), (refl, refl, alone (state g.S.Store c.args.session.now.connection)))), sent_none c.args.output.now)

pub returns-in-Command-clause-shows : goal.returns-in-Command-clause-shows
returns-in-Command-clause-shows g c =
    sends_so c.args.output.now c.run_command.new.output _ _
    (λ bytes shows clean. ordered_line g.S.Store (telling_of g.P.Paths c.args.paths.now) g.L.Layout.format (conditions_in g.L.Layout.format c.args.session.now) c.args.number c.args.line.now c.args.session.now.connection c.run_command.new.session.connection bytes
    c.in-Command.command c.run_command.result (inl (c.utf8.line, subst (SaysText c.args.line.now) c.in-Command.is c.in_ok-read.ensures)) (shows clean)) c.run_command.ensures.shows

pub returns-in-Path-clause-shows : goal.returns-in-Path-clause-shows
returns-in-Path-clause-shows g c =
    sends_so c.args.output.now c.run_path_change.new.output _ _
    (λ bytes shows clean. path_line g.S.Store (telling_of g.P.Paths c.args.paths.now) g.L.Layout.format (conditions_in g.L.Layout.format c.args.session.now) c.args.number c.args.line.now c.args.session.now.connection c.run_path_change.new.session.connection bytes
    c.in-Path.change c.run_path_change.result (inl (c.utf8.line, subst (SaysText c.args.line.now) c.in-Path.is c.in_ok-read.ensures)) (shows clean)) c.run_path_change.ensures.shows

pub returns-in-Mark-clause-shows : goal.returns-in-Mark-clause-shows
returns-in-Mark-clause-shows g c =
    (mark_line (string_bytes c.in-Mark.text), (λ _. (Mark c.in-Mark.text, inl (c.utf8.line, subst (SaysText c.args.line.now) c.in-Mark.is c.in_ok-read.ensures), (refl, c.write_mark.ensures.status, alone (state g.S.Store c.args.session.now.connection)))), subst (λ t. Sent c.args.output.now c.write_mark.new.output (mark_line t)) c.as_str.ensures.value c.write_mark.ensures.line)

pub returns-in-Bad-clause-shows : goal.returns-in-Bad-clause-shows
returns-in-Bad-clause-shows g c =
    (bad_line c.args.number, (λ _. (Bad, inl (c.utf8.line, subst (SaysText c.args.line.now) c.in-Bad.is c.in_ok-read.ensures), (refl, c.refuse_line.ensures.status, alone (state g.S.Store c.args.session.now.connection)))), c.refuse_line.ensures.line)

-- nothing is done for a line that there is no memory to read
pub returns-in_err-read-clause-shows : goal.returns-in_err-read-clause-shows
returns-in_err-read-clause-shows g c =
    let is : c.from_residual.result ≡ Err c.in_err-read.field-0.0 = search rules in
    starved (HasCleanDisk (state g.S.Store c.args.session.now.connection)) _ _ c.args.output.now c.from_residual.result c.in_err-read.field-0.0 is (λ _. inl refl)
