use Rattle.zeb_register.proofs.Cited.{rules}
use Rattle.zeb_register.proofs.Calls.{on_err}
use Rattle.zeb_register.proofs.CallsInTurn.{inside_keeps}
use Rattle.zeb_register.proofs.TableStatements.{table_kept, table_made, table_there}
use Rattle.zeb_register.proofs.tables.table_make.Goals as goal

pub returns-clause-made : goal.returns-clause-made
returns-clause-made g c clean inside was = table_made c.args.table _ _ _ (simp (c.create_text.ensures) at (c.in_ok-execute.ensures.runs clean inside).0) was inside

pub returns-clause-there : goal.returns-clause-there
returns-clause-there g c clean inside has = table_there c.args.table _ _ _ (simp (c.create_text.ensures) at (c.in_ok-execute.ensures.runs clean inside).0) has

pub returns-clause-kept : goal.returns-clause-kept
returns-clause-kept g c clean inside = table_kept c.args.table _ _ _ (simp (c.create_text.ensures) at (c.in_ok-execute.ensures.runs clean inside).0)

pub returns-in_err-execute-clause-call : goal.returns-in_err-execute-clause-call
returns-in_err-execute-clause-call g c = record {
  same = search rules;
  does = record {
    ok = search rules;
    err = λ clean inside. on_err _ _ (inside_keeps _ _ _ _ _ (c.execute.ensures.runs clean inside));
    crash = search rules;
  };
}
