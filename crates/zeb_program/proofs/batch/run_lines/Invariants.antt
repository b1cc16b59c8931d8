use Rattle.zeb_program.proofs.Cited.{◌≡◌, ◌+◌, ◌<◌, ◌^◌, length, state, HasCleanDisk, LineOver, Sends, Utf8, shadow, telling_of}
use Rattle.zeb_program.proofs.AnswerLemmas.{IsAnswered}
use Rattle.zeb_program.proofs.batch.run_lines.Given as goal
use Rattle.zeb_engine.specs.Sessions.{conditions_in}

-- Each line takes a byte at least, so their numbers fit. What was written answers the lines so far.
abbrev pub invariant-loop-rest : goal.invariant-loop-rest
invariant-loop-rest g l =
    let before = l.initial.session in
    record {
      text : shadow (Utf8 l.rest);
      room : l.number + length l.rest < 2 ^ 64;
      under : (l.session.profile ≡ before.profile) × (l.session.limits ≡ before.limits);
      clean : HasCleanDisk (state g.S.Store l.session.connection) → HasCleanDisk (state g.S.Store before.connection);
      lines : Sends l.initial.output l.output (λ bytes. HasCleanDisk (state g.S.Store l.session.connection)
          → IsAnswered (LineOver g.S.Store (telling_of g.P.Paths l.paths) g.L.Layout.format (conditions_in g.L.Layout.format before)) l.batch.lines_before l.batch.text.now before.connection
          l.number l.rest l.greatest l.session.connection bytes);
    }

abbrev pub decreases-loop-rest : goal.decreases-loop-rest
decreases-loop-rest g l = length l.rest
