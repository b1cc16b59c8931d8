use Rattle.zeb_leaves.proofs.Cited.{◌≡◌, ℕ, List, length, refl, sym, subst, state, packed_leaves, Comes, ListsBefore}
use Rattle.zeb_leaves.proofs.HandedOn.{looks_ended}
use Rattle.zeb_leaves.proofs.LastTold.{none_before, none_there, some_there}
use Rattle.zeb_leaves.proofs.NearTold.{none_asked}
use Rattle.zeb_leaves.proofs.near_terms.terms_before.Goals as goal
use Rattle.zeb_leaves.proofs.near_terms.terms_before.Goals.{then-n-eq0-via-then-n-eq0, then-n-eq0-via-else-n-eq0+then-is_empty}

pub returns-then-n-eq0 : goal.returns-then-n-eq0
returns-then-n-eq0 g c =
    let trees = (state g.S.Store c.args.conn.now).now.trees in
    let at = c.args.at in
    let start = c.args.start.now in
    let never : (term : List ℕ) → Comes term start → c.args.n ≡ 0 = λ term on. elim c.then-n-eq0.branch [
      | then-n-eq0-via-then-n-eq0 w ↦ w.if-n-eq0.true
      | then-n-eq0-via-else-n-eq0+then-is_empty w ↦ absurd (none_before term (subst (Comes term) (none_there start (length start) refl (sym w.if-is_empty.ensures)) on))
    ] in
    looks_ended _ _ c.no_terms.result _ _ _ _ c.no_terms.ensures (λ store no. absurd no)
    (λ store list none. subst (ListsBefore packed_leaves trees at.db.0 at.index at.register start c.args.n) (sym none) (none_asked trees at (λ term. Comes term start) (λ one other. Comes other one) c.args.n never))

pub returns : goal.returns
returns g c =
    let some = some_there c.args.start.now (length c.args.start.now) refl (sym c.if-is_empty.ensures) in
    looks_ended _ _ c.terms_beside.result _ _ _ _ c.terms_beside.ensures (λ store hides. hides some) (λ store list told. told some)
