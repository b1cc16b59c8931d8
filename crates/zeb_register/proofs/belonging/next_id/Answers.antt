use Rattle.zeb_register.proofs.Cited.{state, ◌≤ℤ◌, w64, to_z, of_z, subst, to_z-of_z, Owns, IsLeastFrom, tree_of}
use Rattle.zeb_register.proofs.AsksInTurn.{asks_handed, asks_so}
use Rattle.zeb_register.proofs.OwnersListed.{first_seen, least_from}
use Rattle.zeb_register.proofs.belonging.next_id.Goals as goal

pub returns-in_err-rows : goal.returns-in_err-rows
returns-in_err-rows g c = asks_handed _ _ _ c.from_residual.result _ _ c.in_err-rows.ensures c.from_residual.ensures.1

pub returns : goal.returns
returns g c =
    let owned = Owns (tree_of c.args.table) (state g.S.Store c.args.conn.now).now.trees in
    let start = to_z w64 (of_z w64 c.args.start) in
    asks_so _ _ _ c.id_of.result _ _ c.in_ok-rows.ensures (λ store shown.
    let first = first_seen (λ id other. id ≤ℤ other) (λ id. owned id × (start ≤ℤ id)) c.in_ok-rows.rows.items c.deref.result.now c.id_of.result shown c.deref.ensures.value (c.id_of.ensures.none, c.id_of.ensures.some) in
    subst (λ z. IsLeastFrom owned z c.id_of.result) (to_z-of_z {w = w64} {z = c.args.start} c.ranges.start) (least_from owned start c.id_of.result first))
