use Rattle.zeb_leaves.proofs.Cited.{ℕ, Err, rules, alone_inside, on_err, query_keeps}
use Rattle.sqlite.specs.Values.{bound}
use Rattle.zeb_leaves.proofs.statements_inside.last_shown.Goals as goal

pub returns : goal.returns
returns g c = record {
  same = search rules;
  does = record {
    ok = λ clean inside. record { reads = alone_inside _ _ _ _ _ c.requires (c.in_ok-rows.ensures.ok clean) inside; last = (c.in_ok-rows.rows.items, c.in_ok-rows.ensures.ok clean, c.last_row.ensures) };
    err = λ clean inside. tt;
    crash = c.query_all.ensures.survives;
  };
}

pub returns-in_err-rows : goal.returns-in_err-rows
returns-in_err-rows g c = record {
  same = search rules;
  does = record {
    ok = search rules;
    err = λ clean inside. on_err c.from_residual.result _ (query_keeps {A = ℕ} c.args.sql.now (bound c.args.params.now) _ _ (Err _) c.requires (c.in_err-rows.ensures.err clean));
    crash = c.query_all.ensures.survives;
  };
}
