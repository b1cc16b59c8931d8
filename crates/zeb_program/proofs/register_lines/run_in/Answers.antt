use Rattle.zeb_program.proofs.register_lines.run_in.Goals as goal

pub returns : goal.returns
returns g c = record {
  answered = c.run_lines-answered.result;
  last = c.run_lines-answered.new.session.connection;
  clean = c.run_lines-answered.ensures.clean;
  lines = c.run_lines-answered.ensures.lines;
  ends = c.end_session.ensures;
}
