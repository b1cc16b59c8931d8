use Rattle.zeb_program.proofs.Cited.{length, BeginsRegister, Utf8, shadow}
use Rattle.zeb_program.proofs.script.Batch.begins.Given as goal

-- a line of the whole is one of the rest
abbrev pub invariant-loop-rest : goal.invariant-loop-rest
invariant-loop-rest l = record {
  text : shadow (Utf8 l.rest);
  none : ¬ BeginsRegister l.rest → ¬ BeginsRegister l.self.text.now;
  some : BeginsRegister l.rest → BeginsRegister l.self.text.now;
}

abbrev pub decreases-loop-rest : goal.decreases-loop-rest
decreases-loop-rest l = length l.rest
