use Rattle.zeb_program.proofs.Cited.{length, Utf8, shadow}
use Rattle.zeb_program.proofs.ScriptLemmas.{IsReached}
use Rattle.zeb_program.proofs.script.Script.cut.Given as goal

abbrev pub invariant-loop-rest : goal.invariant-loop-rest
invariant-loop-rest l = shadow (Utf8 l.rest) × IsReached l.lines_before l.text l.rest

abbrev pub decreases-loop-rest : goal.decreases-loop-rest
decreases-loop-rest l = length l.rest
