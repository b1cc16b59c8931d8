use Rattle.zeb_register.proofs.Cited.{rules}
use Rattle.zeb_register.proofs.Calls.{nothing, quiet, shown_each}
use Rattle.zeb_register.proofs.statements.queries.look_up.Goals as goal

pub returns : goal.returns
returns g c =
    let silent = c.requires in
    record {
      call = record {
        idle = search rules;
        ok = λ clean. shown_each (λ rows. rows.items) _ _ _ _ c.query_all.result silent (c.query_all.ensures.ok clean);
        same = λ clean. nothing (λ rows. rows.items) _ _ _ _ c.query_all.result _ silent c.is_autocommit-idle.ensures.value c.is_autocommit-idle.ensures.settled (c.query_all.ensures.ok clean) (c.query_all.ensures.err clean);
        crash = quiet _ _ _ _ silent c.query_all.ensures.survives;
      };
      ok = c.query_all.ensures.ok;
      err = c.query_all.ensures.err;
    }
