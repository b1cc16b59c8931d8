use Rattle.zeb_engine.proofs.registers.Session.begin_analysis.Goals as goal

pub returns : goal.returns
returns g c = c.no_lines.ensures c.args.self.now.limits.records
