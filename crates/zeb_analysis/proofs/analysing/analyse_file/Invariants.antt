use Rattle.zeb_analysis.proofs.Cited.{◌+◌, ◌*◌, ◌≤◌, length}
use Rattle.zeb_analysis.proofs.AnalysesWalk.{Walked}
use Rattle.zeb_analysis.proofs.analysing.analyse_file.Given as goal

-- The analyses of the records before stand behind the others.
abbrev pub invariant-loop-analysis : goal.invariant-loop-analysis
invariant-loop-analysis l = record {
  under : Walked l.setting l.file l.bytes l.nth l.left l.fn.analyses.items l.analyses.items;
  room : 26 * l.nth + length l.left ≤ length l.bytes + 26;
}

abbrev pub decreases-loop-analysis : goal.decreases-loop-analysis
decreases-loop-analysis l = length l.left
