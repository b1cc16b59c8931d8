use Rattle.zeb_program.proofs.Cited.{◌++◌}
use Rattle.zeb_program.proofs.SinkLemmas.{sent_then}
use Rattle.zeb_program.proofs.ShellTextLemmas.{closes_below}
use Rattle.zeb_program.proofs.register_lines.serve_in.Goals as goal

pub returns : goal.returns
returns g c =
    let told = c.tell_input-ended.ensures in
    let closed = c.end_session.ensures in
    record {
      answered = c.run_shell_lines-answered.result;
      ended = c.tell_input-ended.result;
      last = c.run_shell_lines-answered.new.session.connection;
      first = told.0;
      clean = c.run_shell_lines-answered.ensures.clean;
      lines = c.run_shell_lines-answered.ensures.lines;
      reads = c.run_shell_lines-answered.ensures.ends;
      tells = told.1;
      ends = (
        told.0 ++ closed.0,
        closes_below g.P.Store.Store (g.P.Paths.leaves c.args.paths.now) c.run_shell_lines-answered.new.session.connection told.0 closed.0 c.tell_input-ended.result c.end_session.result closed.1,
        sent_then c.args.fault_output.now c.tell_input-ended.new.fault_output c.end_session.new.fault_output told.0 closed.0 told.2 closed.2,
      );
    }
