use Rattle.zeb_text.proofs.Cited.{sym, subst, AreRuns}
use Rattle.zeb_text.proofs.MaximalRuns.{are_the_runs, runs-are}
use Rattle.zeb_lower_laws.proofs.text.runs_are_maximal.Goals as goal

pub returns : goal.returns
returns c = λ passes text runs. (are_the_runs passes text runs, λ e. subst (AreRuns passes text) (sym e) (runs-are passes text))
