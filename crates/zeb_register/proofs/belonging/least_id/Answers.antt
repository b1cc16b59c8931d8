use Rattle.zeb_register.proofs.Cited.{state, ◌≤ℤ◌, Owns, tree_of}
use Rattle.zeb_register.proofs.AsksInTurn.{asks_handed, asks_so}
use Rattle.zeb_register.proofs.OwnersListed.{first_seen}
use Rattle.zeb_register.proofs.belonging.least_id.Goals as goal

pub returns-in_err-rows : goal.returns-in_err-rows
returns-in_err-rows g c = asks_handed _ _ _ c.from_residual.result _ _ c.in_err-rows.ensures c.from_residual.ensures.1

pub returns : goal.returns
returns g c =
    asks_so _ _ _ c.id_of.result _ _ c.in_ok-rows.ensures (λ store shown.
    first_seen (λ id other. id ≤ℤ other) (Owns (tree_of c.args.table) (state g.S.Store c.args.conn.now).now.trees) c.in_ok-rows.rows.items c.deref.result.now c.id_of.result shown c.deref.ensures.value (c.id_of.ensures.none, c.id_of.ensures.some))
