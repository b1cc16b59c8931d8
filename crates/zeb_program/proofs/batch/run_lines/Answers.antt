use Rattle.zeb_program.proofs.Cited.{◌≡◌, ◌∙◌, [], ◌+◌, Err, arith, ap, length, refl, rules, subst, subst₂, sym, IsUtf8, BreaksOff, conditions, EachLine, LineOver, StopsLine, version_of, telling_of}
use Rattle.zeb_program.proofs.AnswerLemmas.{answered_line, answered_lines, answered_start}
use Rattle.zeb_program.proofs.ScriptLemmas.{after_first_line-IsUtf8, not_empty, is_empty, length-after_first_line}
use Rattle.zeb_program.proofs.ShownLemmas.{broken_off}
use Rattle.zeb_program.proofs.SinkLemmas.{sends_so, sends_then, sent_none}
use Rattle.zeb_program.proofs.StatusLemmas.{max_greater}
use Rattle.zeb_program.proofs.batch.run_lines.Goals as goal
use Rattle.zeb_engine.specs.Sessions.{conditions_in}

pub loop-rest-init : goal.loop-rest-init
loop-rest-init g c =
    let over = LineOver g.S.Store (telling_of g.P.Paths c.args.paths.now) g.L.Layout.format (conditions_in g.L.Layout.format c.args.session.now) in
    record {
      text = search rules;
      room = search rules;
      under = (refl, refl);
      clean = λ clean. clean;
      lines = ([], (λ _. answered_start over c.args.batch.lines_before c.args.batch.text.now c.args.session.now.connection), sent_none c.args.output.now);
    }

pub loop-rest-preserved : goal.loop-rest-preserved
loop-rest-preserved g c =
    let rest = c.loop-rest.rest.now in
    let some = not_empty rest c.loop-rest-test.ensures in
    let same = c.loop-rest.invariant.under in
    let line = c.cut_line.result.0.now in
    let number = c.loop-rest.number in
    let at = telling_of g.P.Paths c.args.paths.now in
    let k = conditions_in g.L.Layout.format c.args.session.now in
    record {
      text = subst IsUtf8 (sym c.cut_line.ensures.rest) (after_first_line-IsUtf8 rest c.loop-rest.invariant.text);
      room = omega (arith, ap length c.cut_line.ensures.rest, length-after_first_line rest some);
      under = (c.run_line.ensures.stays.0.0 ∙ same.0, c.run_line.ensures.stays.0.1 ∙ same.1);
      clean = λ clean. c.loop-rest.invariant.clean (c.run_line.ensures.stays.1 clean);
      lines = sends_then c.args.output.now c.loop-rest.output c.run_line.new.output _ _ _
          (λ bytes here far step clean.
          answered_line (LineOver g.S.Store at g.L.Layout.format k) c.args.batch.lines_before c.args.batch.text.now c.args.session.now.connection number rest line c.cut_line.result.1.now c.loop-rest.greatest c.in_ok-run_line.field-0 c.max-greatest.result
          c.loop-rest.session.connection c.run_line.new.session.connection bytes here some c.cut_line.ensures.line c.cut_line.ensures.rest (c.max-greatest.ensures ∙ max_greater c.loop-rest.greatest c.in_ok-run_line.field-0) (far (c.run_line.ensures.stays.1 clean))
          (subst₂ (λ p l. LineOver g.S.Store at g.L.Layout.format (conditions (version_of g.L.Layout.format) p l) (number + 1) line c.loop-rest.session.connection here c.in_ok-run_line.field-0 c.run_line.new.session.connection) same.0 same.1 (step clean)))
          c.loop-rest.invariant.lines c.in_ok-run_line.ensures.shows;
    }

pub returns-clause-lines : goal.returns-clause-lines
returns-clause-lines g c =
    let over = LineOver g.S.Store (telling_of g.P.Paths c.args.paths.now) g.L.Layout.format (conditions_in g.L.Layout.format c.args.session.now) in
    let held = c.loop-rest.session.connection in
    sends_so c.args.output.now c.loop-rest.output _ _
    (λ bytes far clean. subst (λ left. EachLine over c.args.batch.lines_before c.args.batch.text.now c.args.session.now.connection bytes c.loop-rest.greatest left held) (is_empty c.loop-rest.rest.now c.loop-rest-test.ensures)
    (answered_lines over c.args.batch.lines_before c.args.batch.text.now c.args.session.now.connection c.loop-rest.number c.loop-rest.rest.now c.loop-rest.greatest held bytes (far clean))) c.loop-rest.invariant.lines

pub returns-in_err-run_line-clause-lines : goal.returns-in_err-run_line-clause-lines
returns-in_err-run_line-clause-lines g c =
    let is : c.from_residual.result ≡ Err c.in_err-run_line.field-0.0 = search rules in
    let rest = c.loop-rest.rest.now in
    let same = c.loop-rest.invariant.under in
    let format = g.L.Layout.format in
    let k = conditions_in format c.args.session.now in
    let at = telling_of g.P.Paths c.args.paths.now in
    let n = c.args.batch.lines_before in
    let text = c.args.batch.text.now in
    let first = c.args.session.now.connection in
    let now = c.loop-rest.session.connection in
    let new = c.run_line.new.session.connection in
    sends_then c.args.output.now c.loop-rest.output c.run_line.new.output _ _ _
    (λ bytes here far step clean.
    let stops = step clean in
    let off : BreaksOff g.S.Store at format k n text first new bytes = record {
      rest = rest;
      last = now;
      status = c.loop-rest.greatest;
      some = not_empty rest c.loop-rest-test.ensures;
      first = answered_lines (LineOver g.S.Store at format k) n text first c.loop-rest.number rest c.loop-rest.greatest now bytes (far (c.run_line.ensures.stays.1 clean));
      stops = subst (λ line. StopsLine g.S.Store at format k line now new) c.cut_line.ensures.line
          (subst₂ (λ p l. StopsLine g.S.Store at format (conditions (version_of format) p l) c.cut_line.result.0.now now new) same.0 same.1 stops.1);
    } in
    broken_off g.S.Store at format k n text first new bytes here c.from_residual.result c.in_err-run_line.field-0.0 is stops.0 off)
    c.loop-rest.invariant.lines c.in_err-run_line.ensures.shows
