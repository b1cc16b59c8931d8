use Rattle.zeb_register.proofs.Cited.{rules, ◌≤ℤ◌, ℤ, FitsSigned, w64, sym, subst₂, to_z-of_z, state, Owns, tree_of}
use Rattle.zeb_register.proofs.AsksInTurn.{asks_behind, asks_handed, asks_handed_behind, asks_so}
use Rattle.zeb_register.proofs.belonging.ends_of.Goals as goal

pub returns-in_err-first : goal.returns-in_err-first
returns-in_err-first g c = asks_handed _ _ _ c.from_residual.result _ _ c.in_err-first.ensures c.from_residual.ensures.1

pub returns-in_default : goal.returns-in_default
returns-in_default g c = asks_so _ _ _ _ _ _ c.in_ok-first.ensures (λ store first. rw c.in_default.is at first)

pub returns-in_err-last : goal.returns-in_err-last
returns-in_err-last g c = asks_handed_behind _ _ _ _ _ c.from_residual-in_err-last.result _ _ _ c.in_ok-first.ensures c.in_err-last.ensures c.from_residual-in_err-last.ensures.1

pub returns-in_default-2 : goal.returns-in_default-2
returns-in_default-2 g c = asks_behind _ _ _ _ _ _ _ _ _ c.in_ok-first.ensures c.in_ok-last.ensures (λ store first last. rw c.in_default-2.is at last)

pub returns : goal.returns
returns g c =
    let owned = Owns (tree_of c.args.table) (state g.S.Store c.args.conn.now).now.trees in
    let first_fits : FitsSigned w64 c.in-Some.first = search rules in
    let last_fits : FitsSigned w64 c.in-Some-2.last = search rules in
    asks_behind _ _ _ _ _ _ _ _ _ c.in_ok-first.ensures c.in_ok-last.ensures (λ store first last.
    let least = rw c.in-Some.is at first in
    let greatest = rw c.in-Some-2.is at last in
    subst₂ (λ a b. owned a × ((id : ℤ) → owned id → (a ≤ℤ id) × (id ≤ℤ b))) (sym (to_z-of_z {w = w64} {z = c.in-Some.first} first_fits)) (sym (to_z-of_z {w = w64} {z = c.in-Some-2.last} last_fits))
    (least.0, λ id there. (least.1 id there, greatest.1 id there)))
