use Rattle.zeb_analysis.proofs.Cited.{◌+◌, ◌*◌, ◌≤◌, length}
use Rattle.zeb_analysis.proofs.LinesWalk.{LinesWalked}
use Rattle.zeb_analysis.proofs.lines.AnalysedLines.with_file.Given as goal

-- The lines of the records before stand behind the others.
abbrev pub invariant-loop-buffer : goal.invariant-loop-buffer
invariant-loop-buffer l = record {
  under : LinesWalked l.setting l.file l.bytes l.nth l.left l.fn.self l.self;
  room : 26 * l.nth + length l.left ≤ length l.bytes + 26;
}

abbrev pub decreases-loop-buffer : goal.decreases-loop-buffer
decreases-loop-buffer l = length l.left
