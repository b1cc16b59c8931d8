use Rattle.zeb_analysis.proofs.Cited.{[], refl, rules}
use Rattle.zeb_analysis.proofs.lines.AnalysedLines.new.Goals as goal

pub returns : goal.returns
returns c = λ profile limit. record { analyses = []; said = (refl, tt); named = refl; counted = refl; told = search rules }
