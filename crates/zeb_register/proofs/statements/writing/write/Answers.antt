use Rattle.zeb_register.proofs.Cited.{rules}
use Rattle.zeb_register.proofs.Calls.{on_err}
use Rattle.zeb_register.proofs.CallsInTurn.{inside_keeps}
use Rattle.zeb_register.proofs.statements.writing.write.Goals as goal

pub returns-clause-ran : goal.returns-clause-ran
returns-clause-ran g c = record {
  ok = λ clean inside. let ran = c.in_ok-execute.ensures.runs clean inside in (_, ran.0, ran.1);
  err = search rules;
  crash = search rules;
}

pub returns-in_err-execute-clause-ran : goal.returns-in_err-execute-clause-ran
returns-in_err-execute-clause-ran g c = record {
  ok = search rules;
  err = λ clean inside. on_err _ _ (inside_keeps _ _ _ _ _ (c.execute.ensures.runs clean inside));
  crash = search rules;
}
