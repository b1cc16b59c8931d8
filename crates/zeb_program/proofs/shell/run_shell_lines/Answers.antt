use Rattle.zeb_program.proofs.Cited.{[], ◌≡◌, ◌∙◌, ◌+◌, ◌++◌, true, Err, Ok, inr, refl, rules, subst, subst₂, sym, IfSome, conditions, version_of, first_line, EndsShell, LineOver, Memory, telling_of, KeepsUnread}
use Rattle.zeb_program.proofs.LineStopLemmas.{stopped_still}
use Rattle.zeb_program.proofs.LineInputLemmas.{ends_before}
use Rattle.zeb_program.proofs.ShellLemmas.{both_left, each_left, goes_end, goes_line, goes_start, more_left, none_left}
use Rattle.zeb_program.proofs.ShellTextLemmas.{found_end, found_line, read_sound}
use Rattle.zeb_program.proofs.SinkLemmas.{sends_so, sends_then, sent_none}
use Rattle.zeb_program.proofs.StatusLemmas.{max_greater}
use Rattle.zeb_program.proofs.shell.run_shell_lines.Goals as goal
use Rattle.zeb_engine.specs.Sessions.{conditions_in}

pub loop-lines_before-init : goal.loop-lines_before-init
loop-lines_before-init g c =
    let k = conditions_in g.L.Layout.format c.args.session.now in
    record {
      read = search rules;
      under = (refl, refl);
      clean = λ clean. clean;
      lines = ([], (λ _. goes_start g.S.Store (telling_of g.P.Paths c.args.paths.now) g.L.Layout.format k (g.R.Source.remaining c.args.input.now) c.args.session.now.connection), sent_none c.args.output.now);
    }

pub loop-lines_before-preserved : goal.loop-lines_before-preserved
loop-lines_before-preserved g c =
    let at = telling_of g.P.Paths c.args.paths.now in
    let k = conditions_in g.L.Layout.format c.args.session.now in
    let left = g.R.Source.remaining c.loop-lines_before.input in
    let n = c.loop-lines_before.lines_before in
    let same = c.loop-lines_before.invariant.under in
    let line = found_line _ _ c.in_ok-status.field-0 c.in-Some.status c.in-Some.is c.in_ok-status.ensures.line in
    record {
      read = read_sound (g.R.Source.has_failed c.run_next_line.new.input) c.run_next_line.result c.in_ok-status.field-0 c.run_next_line.ensures.failed (search rules);
      under = (c.run_next_line.ensures.stays.0.0 ∙ same.0, c.run_next_line.ensures.stays.0.1 ∙ same.1);
      clean = λ clean. c.loop-lines_before.invariant.clean (c.run_next_line.ensures.stays.1 clean);
      lines = sends_then c.args.output.now c.loop-lines_before.output c.run_next_line.new.output _ _ _
          (λ bytes here far step clean.
          goes_line g.S.Store at g.L.Layout.format k (g.R.Source.remaining c.args.input.now) left (g.R.Source.remaining c.run_next_line.new.input)
          n c.loop-lines_before.greatest c.in-Some.status c.max-greatest.result c.args.session.now.connection c.loop-lines_before.session.connection c.run_next_line.new.session.connection bytes here
          (c.max-greatest.ensures ∙ max_greater c.loop-lines_before.greatest c.in-Some.status) line.some line.taken
          (subst₂ (λ p l. IfSome left (λ text. LineOver g.S.Store at g.L.Layout.format (conditions (version_of g.L.Layout.format) p l) (n + 1) (first_line text) c.loop-lines_before.session.connection here c.in-Some.status c.run_next_line.new.session.connection))
          same.0 same.1 (step clean)) (far (c.run_next_line.ensures.stays.1 clean)))
          c.loop-lines_before.invariant.lines line.line;
    }

-- A write failed: no further line is run.
pub returns-then-has_failed-clause-lines : goal.returns-then-has_failed-clause-lines
returns-then-has_failed-clause-lines g c =
    let broke : c.has_failed.result ≡ true = search rules in
    let left = g.R.Source.remaining c.loop-lines_before.input in
    sends_so c.args.output.now c.loop-lines_before.output _ _
    (λ bytes far clean. goes_end g.S.Store (telling_of g.P.Paths c.args.paths.now) g.L.Layout.format (conditions_in g.L.Layout.format c.args.session.now) (g.R.Source.remaining c.args.input.now) left left c.loop-lines_before.output.failed c.loop-lines_before.lines_before c.loop-lines_before.greatest
    c.args.session.now.connection c.loop-lines_before.session.connection c.loop-lines_before.session.connection _ bytes bytes (each_left _ left (λ rest. (refl, (refl, λ whole. absurd (cc (whole, broke, c.has_failed.ensures)))))) (far clean)) c.loop-lines_before.invariant.lines

-- The line before which it ended is the one that couldn't be read, or for which memory ran out.
pub returns-in_err-status-clause-lines : goal.returns-in_err-status-clause-lines
returns-in_err-status-clause-lines g c =
    let k = conditions_in g.L.Layout.format c.args.session.now in
    let why = c.in_err-status.field-0.0 in
    let at = telling_of g.P.Paths c.args.paths.now in
    let same = c.loop-lines_before.invariant.under in
    let is : c.from_residual.result ≡ Err why = search rules in
    let left = g.R.Source.remaining c.loop-lines_before.input in
    let later = g.R.Source.remaining c.run_next_line.new.input in
    let held = c.loop-lines_before.session.connection in
    let new = c.run_next_line.new.session.connection in
    sends_then c.args.output.now c.loop-lines_before.output c.run_next_line.new.output _ _ _
    (λ bytes here far stops clean.
    goes_end g.S.Store at g.L.Layout.format k (g.R.Source.remaining c.args.input.now) left later c.run_next_line.new.output.failed
    c.loop-lines_before.lines_before c.loop-lines_before.greatest c.args.session.now.connection held new c.from_residual.result bytes (bytes ++ here)
    (subst (λ r. IfSome left (λ rest. (bytes ++ here ≡ bytes) × EndsShell g.S.Store at g.L.Layout.format k later c.run_next_line.new.output.failed rest c.loop-lines_before.greatest held new r)) (sym is)
    (more_left g.S.Store at g.L.Layout.format k left later c.run_next_line.new.output.failed c.loop-lines_before.greatest held new why bytes here c.in_err-status.ensures.line.1
    (subst₂ (λ p l. IfSome left (λ text. (here ≡ []) × KeepsUnread g.S.Store at g.L.Layout.format (conditions (version_of g.L.Layout.format) p l) why text held new)) same.0 same.1 (stops clean))))
    (far (c.run_next_line.ensures.stays.1 clean)))
    c.loop-lines_before.invariant.lines c.in_err-status.ensures.line.0

pub returns-in-None-clause-lines : goal.returns-in-None-clause-lines
returns-in-None-clause-lines g c =
    let idle = found_end _ _ c.in_ok-status.field-0 c.in-None.is c.in_ok-status.ensures.line in
    let left = g.R.Source.remaining c.loop-lines_before.input in
    let held = c.loop-lines_before.session.connection in
    rw (idle.2, idle.3)
    (sends_so c.args.output.now c.loop-lines_before.output _ _
    (λ bytes far clean. goes_end g.S.Store (telling_of g.P.Paths c.args.paths.now) g.L.Layout.format (conditions_in g.L.Layout.format c.args.session.now)
    (g.R.Source.remaining c.args.input.now) left (g.R.Source.remaining c.run_next_line.new.input) c.loop-lines_before.output.failed c.loop-lines_before.lines_before c.loop-lines_before.greatest c.args.session.now.connection held held (Ok c.loop-lines_before.greatest) bytes bytes
    (none_left _ left idle.0 (refl, (refl, λ _. (refl, refl)))) (far clean)) c.loop-lines_before.invariant.lines)

pub returns-in-None-clause-ends : goal.returns-in-None-clause-ends
returns-in-None-clause-ends g c =
    let read = read_sound (g.R.Source.has_failed c.run_next_line.new.input) c.run_next_line.result c.in_ok-status.field-0 c.run_next_line.ensures.failed (search rules) in
    ((λ is. absurd (cc is), λ broke. absurd (cc (read, broke))), inr (found_end _ _ c.in_ok-status.field-0 c.in-None.is c.in_ok-status.ensures.line).1)

-- A line more than there are numbers.
pub returns-clause-lines : goal.returns-clause-lines
returns-clause-lines g c =
    let at = telling_of g.P.Paths c.args.paths.now in
    let k = conditions_in g.L.Layout.format c.args.session.now in
    let left = g.R.Source.remaining c.loop-lines_before.input in
    let held = c.loop-lines_before.session.connection in
    sends_so c.args.output.now c.loop-lines_before.output _ _
    (λ bytes far clean. goes_end g.S.Store at g.L.Layout.format k (g.R.Source.remaining c.args.input.now) left left c.loop-lines_before.output.failed
    c.loop-lines_before.lines_before c.loop-lines_before.greatest c.args.session.now.connection held held (Err Memory) bytes bytes
    (both_left (λ _. bytes ≡ bytes) _ left (each_left (λ _. bytes ≡ bytes) left (λ _. refl)) (both_left _ _ left (ends_before left) (stopped_still g.S.Store at g.L.Layout.format k Memory left held))) (far clean)) c.loop-lines_before.invariant.lines
