use Rattle.zeb_search.proofs.Cited.{arith, pos, subst, state, IsIdentOf}
use Rattle.zeb_register.specs.declared.faults.RowFault.TheVariants.{Memory as NoMemory}
use Rattle.zeb_register.proofs.LooksInTurn.{found_refused, looks_handed, looks_so}
use Rattle.zeb_search.proofs.PlanLemmas.{kept_none, kept_one}
use Rattle.zeb_search.proofs.plans.record_hits.Goals as goal

pub returns-in_err-_ident : goal.returns-in_err-_ident
returns-in_err-_ident g c =
    looks_handed _ _ _ c.from_residual.result _ _ _ _ c.in_err-_ident.ensures c.from_residual.ensures.1 (λ store hidden. hidden)

pub returns-in_default : goal.returns-in_default
returns-in_default g c =
    let trees = (state g.S.Store c.args.connection.now).now.trees in
    looks_so _ _ _ _ _ _ _ _ c.in_ok-_ident.ensures (λ store found.
    kept_none trees c.args.database.0 c.args.number c.new.result.items (subst (IsIdentOf trees c.args.database.0 (pos c.args.number)) c.in_default.is (found.small (omega arith))) c.new.ensures.items)

pub returns-in_err-from_slice : goal.returns-in_err-from_slice
returns-in_err-from_slice g c =
    found_refused _ _ _ NoMemory c.from_residual-in_err-from_slice.result _ _ _ _ c.in_ok-_ident.ensures
    c.from_residual-in_err-from_slice.ensures.1 (λ store found told. cc)

pub returns : goal.returns
returns g c =
    let trees = (state g.S.Store c.args.connection.now).now.trees in
    looks_so _ _ _ _ _ _ _ _ c.in_ok-_ident.ensures (λ store found.
    kept_one trees c.args.database.0 c.args.number c.in-Some._ident c.in_ok-from_slice.field-0.items (subst (IsIdentOf trees c.args.database.0 (pos c.args.number)) c.in-Some.is (found.small (omega arith))) c.in_ok-from_slice.ensures.items)
