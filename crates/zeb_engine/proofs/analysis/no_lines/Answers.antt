use Rattle.zeb_engine.proofs.Cited.{[], subst, AreLines}
use Rattle.zeb_engine.proofs.analysis.no_lines.Goals as goal

pub returns : goal.returns
returns c = λ limit. subst (λ names. AreLines names c.args.profile.now limit [] c.new.result) c.in_ok-names.ensures (c.new.ensures c.args.profile.now limit)
