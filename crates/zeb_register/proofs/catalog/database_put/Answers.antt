use Rattle.zeb_register.proofs.Cited.{rules, Err, Option, state, HasCleanDisk, arith, ◌∙◌, subst, pos, ◌≡◌, ℤ, to_z, to_z-of_z, of_z, w64, Changes, databases_tree, SetsLast, AddsDatabase, IsIdOf}
use Rattle.zeb_register.specs.declared.catalog.DatabaseId.{DatabaseId}
use Rattle.zeb_register.proofs.Answered.{damage_of}
use Rattle.zeb_register.proofs.DatabaseStatements.{puts_added, puts_set}
use Rattle.zeb_register.proofs.Calls.{changes_after, changes_so, reads_goes, store_same}
use Rattle.zeb_register.proofs.Columns.{column_is}
use Rattle.zeb_register.proofs.HandedOn.{shows_none, failed_inside, untouched_inside, failed_on, told_on, not_refused, as_met, never_damaged}
use Rattle.zeb_register.proofs.catalog.database_put.Goals as goal

pub returns-in_ok-last_set-in-Some-clause-put : goal.returns-in_ok-last_set-in-Some-clause-put
returns-in_ok-last_set-in-Some-clause-put g c clean inside store =
    let old = state g.S.Store c.args.tx.now.conn.now in
    let new = state g.S.Store c.last_set.new.tx.conn.now in
    let name = c.args.name.now in
    let clean1 : HasCleanDisk (state g.S.Store c.id_inside.new.tx.conn.now) = omega (arith, clean, c.last_set.ensures.call.does.crash.clean) in
    let reads = c.in_ok-id.ensures.found.looks.call.ok clean1 inside in
    let there = subst (IsIdOf old.now.trees name) c.in-Some.is (c.in_ok-id.ensures.found.looks.finds clean1 inside store) in
    let done = changes_after _ _ _ _ _ reads inside ((c.in_ok-last_set-in-Some.ensures.call.does.ok clean reads.mode).rows (store_same _ _ reads.now_is store)) in
    let set = subst (λ (i : ℤ). Changes databases_tree (SetsLast i (pos c.args.last)) old new) (column_is c.column.ensures.fits c.column.ensures.value)
    (subst (λ (l : ℤ). Changes databases_tree (SetsLast (to_z w64 (of_z w64 c.column.result)) l) old new) (column_is c.in_ok-last.ensures.ok.1 c.in_ok-last.ensures.ok.0) done) in
    changes_so databases_tree _ _ old new (puts_set old new.now.trees c.in-Some.id.0 (pos c.args.last) there.0 name store there.1) set

pub returns-in_err-last_set-in-Some-clause-call : goal.returns-in_err-last_set-in-Some-clause-call
returns-in_err-last_set-in-Some-clause-call g c = record { same = search rules; does = failed_on _ _ _ _ _ _ c.from_residual-in_err-last_set-in-Some.result _ _ _ (reads_goes _ _) c.in_ok-id.ensures.found.looks.call c.in_err-last_set-in-Some.ensures.call.does c.from_residual-in_err-last_set-in-Some.ensures.1 }

pub returns-in_ok-database_add-in-None-clause-put : goal.returns-in_ok-database_add-in-None-clause-put
returns-in_ok-database_add-in-None-clause-put g c clean inside store =
    let old = state g.S.Store c.args.tx.now.conn.now in
    let new = state g.S.Store c.database_add.new.tx.conn.now in
    let name = c.args.name.now in
    let clean1 : HasCleanDisk (state g.S.Store c.id_inside.new.tx.conn.now) = omega (arith, clean, c.database_add.ensures.call.does.crash.clean) in
    let reads = c.in_ok-id.ensures.found.looks.call.ok clean1 inside in
    let none = subst (IsIdOf old.now.trees name) c.in-None.is (c.in_ok-id.ensures.found.looks.finds clean1 inside store) in
    let done = changes_after _ _ _ _ _ reads inside ((c.in_ok-database_add-in-None.ensures.call.does.ok clean reads.mode).rows (store_same _ _ reads.now_is store)) in
    let same : to_z w64 (of_z w64 c.last_insert_rowid.result) ≡ new.last_rowid = to_z-of_z {w = w64} {z = c.last_insert_rowid.result} (record { sfits = c.last_insert_rowid.type_inv }) ∙ c.last_insert_rowid.ensures in
    let added = subst (λ (l : ℤ). Changes databases_tree (AddsDatabase new.last_rowid name l) old new) (column_is c.in_ok-last.ensures.ok.1 c.in_ok-last.ensures.ok.0) done in
    rw same (changes_so databases_tree _ _ old new (puts_added old.now.trees new.now.trees new.last_rowid (pos c.args.last) name none) added)

pub returns-in_err-last-clause-call : goal.returns-in_err-last-clause-call
returns-in_err-last-clause-call g c = record { same = search rules; does = untouched_inside _ (state g.S.Store c.args.tx.now.conn.now) c.from_residual.result _ c.from_residual.ensures.1 }

pub returns-in_err-last-clause-put : goal.returns-in_err-last-clause-put
returns-in_err-last-clause-put g c clean inside store = shows_none _ c.from_residual.result _ c.from_residual.ensures.1

pub returns-in_err-last-clause-honest : goal.returns-in_err-last-clause-honest
returns-in_err-last-clause-honest g c clean inside store = never_damaged c.in_err-last.field-0.0 c.from_residual.result c.from_residual.ensures.1

pub returns-in_err-last-clause-opened : goal.returns-in_err-last-clause-opened
returns-in_err-last-clause-opened g c clean inside is = absurd (never_damaged c.in_err-last.field-0.0 c.from_residual.result c.from_residual.ensures.1 is)

pub returns-in_err-id-clause-call : goal.returns-in_err-id-clause-call
returns-in_err-id-clause-call g c = record { same = search rules; does = failed_inside _ _ _ _ c.from_residual-in_err-id.result _ _ c.in_err-id.ensures.found.looks.call c.from_residual-in_err-id.ensures.1 }

pub returns-in_err-id-clause-put : goal.returns-in_err-id-clause-put
returns-in_err-id-clause-put g c clean inside store = shows_none _ c.from_residual-in_err-id.result _ c.from_residual-in_err-id.ensures.1

pub returns-in_err-id-clause-honest : goal.returns-in_err-id-clause-honest
returns-in_err-id-clause-honest g c clean inside store is = damage_of ⊥ (λ (id : Option DatabaseId). ⊥) (Err c.in_err-id.field-0.0) (c.in_err-id.ensures.found.looks.finds clean inside store) (as_met c.from_residual-in_err-id.result _ _ c.from_residual-in_err-id.ensures.1 is)

pub returns-in_err-id-clause-opened : goal.returns-in_err-id-clause-opened
returns-in_err-id-clause-opened g c clean inside is = c.in_err-id.ensures.opened clean inside (as_met c.from_residual-in_err-id.result _ _ c.from_residual-in_err-id.ensures.1 is)

pub returns-in_ok-last_set-in-Some-clause-call : goal.returns-in_ok-last_set-in-Some-clause-call
returns-in_ok-last_set-in-Some-clause-call g c = record { same = search rules; does = told_on _ _ _ _ _ _ _ _ (reads_goes _ _) (λ done. done.on) c.in_ok-id.ensures.found.looks.call c.in_ok-last_set-in-Some.ensures.call.does }

pub returns-in_ok-last_set-in-Some-clause-honest : goal.returns-in_ok-last_set-in-Some-clause-honest
returns-in_ok-last_set-in-Some-clause-honest g c clean inside store = not_refused _ _

pub returns-in_ok-last_set-in-Some-clause-opened : goal.returns-in_ok-last_set-in-Some-clause-opened
returns-in_ok-last_set-in-Some-clause-opened g c clean inside is = absurd (not_refused _ _ is)

pub returns-in_err-last_set-in-Some-clause-put : goal.returns-in_err-last_set-in-Some-clause-put
returns-in_err-last_set-in-Some-clause-put g c clean inside store = shows_none _ c.from_residual-in_err-last_set-in-Some.result _ c.from_residual-in_err-last_set-in-Some.ensures.1

pub returns-in_err-last_set-in-Some-clause-honest : goal.returns-in_err-last_set-in-Some-clause-honest
returns-in_err-last_set-in-Some-clause-honest g c clean inside store = never_damaged c.in_err-last_set-in-Some.field-0.0 c.from_residual-in_err-last_set-in-Some.result c.from_residual-in_err-last_set-in-Some.ensures.1

pub returns-in_err-last_set-in-Some-clause-opened : goal.returns-in_err-last_set-in-Some-clause-opened
returns-in_err-last_set-in-Some-clause-opened g c clean inside is = absurd (never_damaged c.in_err-last_set-in-Some.field-0.0 c.from_residual-in_err-last_set-in-Some.result c.from_residual-in_err-last_set-in-Some.ensures.1 is)

pub returns-in_ok-database_add-in-None-clause-call : goal.returns-in_ok-database_add-in-None-clause-call
returns-in_ok-database_add-in-None-clause-call g c = record { same = search rules; does = told_on _ _ _ _ _ _ _ _ (reads_goes _ _) (λ done. done.on) c.in_ok-id.ensures.found.looks.call c.in_ok-database_add-in-None.ensures.call.does }

pub returns-in_ok-database_add-in-None-clause-honest : goal.returns-in_ok-database_add-in-None-clause-honest
returns-in_ok-database_add-in-None-clause-honest g c clean inside store = not_refused _ _

pub returns-in_ok-database_add-in-None-clause-opened : goal.returns-in_ok-database_add-in-None-clause-opened
returns-in_ok-database_add-in-None-clause-opened g c clean inside is = absurd (not_refused _ _ is)

pub returns-in_err-database_add-in-None-clause-call : goal.returns-in_err-database_add-in-None-clause-call
returns-in_err-database_add-in-None-clause-call g c = record { same = search rules; does = failed_on _ _ _ _ _ _ c.from_residual-in_err-database_add-in-None.result _ _ _ (reads_goes _ _) c.in_ok-id.ensures.found.looks.call c.in_err-database_add-in-None.ensures.call.does c.from_residual-in_err-database_add-in-None.ensures.1 }

pub returns-in_err-database_add-in-None-clause-put : goal.returns-in_err-database_add-in-None-clause-put
returns-in_err-database_add-in-None-clause-put g c clean inside store = shows_none _ c.from_residual-in_err-database_add-in-None.result _ c.from_residual-in_err-database_add-in-None.ensures.1

pub returns-in_err-database_add-in-None-clause-honest : goal.returns-in_err-database_add-in-None-clause-honest
returns-in_err-database_add-in-None-clause-honest g c clean inside store = never_damaged c.in_err-database_add-in-None.field-0.0 c.from_residual-in_err-database_add-in-None.result c.from_residual-in_err-database_add-in-None.ensures.1

pub returns-in_err-database_add-in-None-clause-opened : goal.returns-in_err-database_add-in-None-clause-opened
returns-in_err-database_add-in-None-clause-opened g c clean inside is = absurd (never_damaged c.in_err-database_add-in-None.field-0.0 c.from_residual-in_err-database_add-in-None.result c.from_residual-in_err-database_add-in-None.ensures.1 is)
