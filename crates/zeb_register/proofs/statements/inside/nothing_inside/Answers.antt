use Rattle.zeb_register.proofs.Cited.{rules, ℕ, Err, err_from_is_err_and}
use Rattle.zeb_register.proofs.Refusals.{not_late, refused}
use Rattle.zeb_register.proofs.Calls.{alone_inside, on_err, query_keeps}
use Rattle.zeb_register.proofs.TermStatements.{nothing_query}
use Rattle.zeb_register.proofs.statements.inside.nothing_inside.Goals as goal

pub returns-clause-call : goal.returns-clause-call
returns-clause-call g c = record {
  same = search rules;
  does = record {
    ok = λ clean inside. alone_inside _ _ _ _ _ nothing_query.silent (c.in_ok-rows.ensures.ok clean) inside;
    err = search rules;
    crash = search rules;
  };
}

pub returns-in_err-rows-clause-call : goal.returns-in_err-rows-clause-call
returns-in_err-rows-clause-call g c = record {
  same = search rules;
  does = record {
    ok = search rules;
    err = λ clean inside. on_err _ _ (query_keeps {A = ℕ} _ _ _ _ (Err _) nothing_query.silent (c.in_err-rows.ensures.err clean));
    crash = search rules;
  };
}

pub returns-in_err-rows-clause-err : goal.returns-in_err-rows-clause-err
returns-in_err-rows-clause-err g c clean inside store =
    let is = err_from_is_err_and c.from_residual.result c.from_residual.ensures.1 in
    rw (is.1, is.2) (λ told. refused nothing_query _ _ _ store told (not_late _ _ _ _ _ inside (c.in_err-rows.ensures.err clean)))
