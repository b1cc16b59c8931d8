use Rattle.zeb_leaves.proofs.Cited.{◌≤◌, arith, rules, state, subst, sym, packed_leaves, Comes, ListsFrom}
use Rattle.zeb_register.proofs.LooksInTurn.{looks_handed, looks_so, looks_then}
use Rattle.zeb_leaves.proofs.HandedOn.{looks_ended}
use Rattle.zeb_leaves.proofs.NearTold.{leafless_from, none_asked, uncovered_from}
use Rattle.zeb_leaves.proofs.near_terms.terms_from.Goals as goal

pub returns-then-n-eq0 : goal.returns-then-n-eq0
returns-then-n-eq0 g c =
    let trees = (state g.S.Store c.args.conn.now).now.trees in
    let at = c.args.at in
    looks_ended _ _ c.no_terms.result _ _ _ _ c.no_terms.ensures (λ store never. absurd never)
    (λ store list none. subst (ListsFrom packed_leaves trees at.db.0 at.index at.register c.args.start.now c.args.n) (sym none) (none_asked trees at (λ term. ¬ Comes term c.args.start.now) Comes c.args.n (λ term on. search rules)))

pub returns-in_err-leaf : goal.returns-in_err-leaf
returns-in_err-leaf g c =
    let some : 1 ≤ c.args.n = omega arith in
    looks_handed _ _ _ c.from_residual.result _ _ _ _ c.in_err-leaf.ensures c.from_residual.ensures.1 (λ store. uncovered_from (state g.S.Store c.args.conn.now) store c.args.at c.args.start.now c.args.n some)

pub returns-in-Some : goal.returns-in-Some
returns-in-Some g c =
    looks_then _ _ _ _ c.terms_beside.result _ _ _ _ _ _ c.in_ok-leaf.ensures c.terms_beside.ensures (λ store covers hides. hides (rw c.in-Some.is at covers)) (λ store covers list told. told (rw c.in-Some.is at covers))

pub returns-in-None : goal.returns-in-None
returns-in-None g c =
    let s = state g.S.Store c.args.conn.now in
    let at = c.args.at in
    let some : 1 ≤ c.args.n = omega arith in
    looks_so _ _ _ _ _ _ _ _ c.in_ok-leaf.ensures (λ store none.
    subst (ListsFrom packed_leaves s.now.trees at.db.0 at.index at.register c.args.start.now c.args.n) (sym c.new.ensures.items) (leafless_from s store at c.args.start.now c.args.n some (rw c.in-None.is at none)))
