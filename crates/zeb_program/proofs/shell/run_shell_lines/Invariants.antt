use Rattle.zeb_program.proofs.Cited.{◌≡◌, false, state, HasCleanDisk, Sends, telling_of}
use Rattle.zeb_program.proofs.ShellLemmas.{Goes}
use Rattle.zeb_program.proofs.shell.run_shell_lines.Given as goal
use Rattle.zeb_engine.specs.Sessions.{conditions_in}

-- What was written answers the lines so far, of an input that tells its bytes.
abbrev pub invariant-loop-lines_before : goal.invariant-loop-lines_before
invariant-loop-lines_before g l =
    let before = l.initial.session in
    record {
      read : g.R.Source.has_failed l.input ≡ false;
      under : (l.session.profile ≡ before.profile) × (l.session.limits ≡ before.limits);
      clean : HasCleanDisk (state g.S.Store l.session.connection) → HasCleanDisk (state g.S.Store before.connection);
      lines : Sends l.initial.output l.output (λ bytes. HasCleanDisk (state g.S.Store l.session.connection)
          → Goes g.S.Store (telling_of g.P.Paths l.paths) g.L.Layout.format (conditions_in g.L.Layout.format before) (g.R.Source.remaining l.initial.input) (g.R.Source.remaining l.input) l.lines_before l.greatest
          before.connection l.session.connection bytes);
    }
