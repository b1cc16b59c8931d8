use Rattle.zeb_register.proofs.Cited.{state, Int, Err, Has, ◌≡◌, ◌∙◌, [], ◌∷◌, map, ap, subst, w64, to_z, of_z, to_z-of_z, IsListOf, IsRest, records_tree, first_three}
use Rattle.zeb_register.proofs.LooksInTurn.{looks_failed, looks_refused, looks_told}
use Rattle.zeb_register.proofs.RecordLemmas.{records_listed, records_shown}
use Rattle.zeb_register.proofs.kept.records.Goals as goal

pub returns : goal.returns
returns g c =
    let here = state g.S.Store c.args.conn.now in
    let items = c.in_ok-rows.rows.items in
    let known : to_z w64 (of_z w64 c.column.result) ≡ c.args.db.0 = to_z-of_z {w = w64} {z = c.column.result} c.column.ensures.fits ∙ c.column.ensures.value in
    looks_told _ _ _ c.in_ok-records_of.field-0 _ _ _ c.in_ok-rows.ensures (λ store listed.
    records_listed here c.args.db.0 store items c.in_ok-records_of.field-0.items (subst (λ d. IsListOf (IsRest records_tree (Int d ∷ []) here.now.trees) items) known listed) (c.in_ok-records_of.ensures.ok ∙ ap (map first_three) c.deref.ensures.value))

pub returns-in_err-rows : goal.returns-in_err-rows
returns-in_err-rows g c = looks_failed _ _ _ c.from_residual.result _ _ _ c.in_err-rows.ensures c.from_residual.ensures.1

pub returns-in_err-records_of : goal.returns-in_err-records_of
returns-in_err-records_of g c =
    let here = state g.S.Store c.args.conn.now in
    let items = c.in_ok-rows.rows.items in
    let known : to_z w64 (of_z w64 c.column.result) ≡ c.args.db.0 = to_z-of_z {w = w64} {z = c.column.result} c.column.ensures.fits ∙ c.column.ensures.value in
    looks_refused _ _ _ c.in_err-records_of.field-0.0 c.from_residual-in_err-records_of.result _ _ _ c.in_ok-rows.ensures c.from_residual-in_err-records_of.ensures.1 (λ store listed told readable.
    let held = subst (λ d. IsListOf (IsRest records_tree (Int d ∷ []) here.now.trees) items) known listed in
    c.in_err-records_of.ensures.honest (ap Err told) (λ row in_it. records_shown here c.args.db.0 store items held readable row (subst (λ l. Has l row) c.deref.ensures.value in_it)))
