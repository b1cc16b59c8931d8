use Rattle.zeb_leaves.proofs.Cited.{arith, rules, state}
use Rattle.zeb_register.proofs.LooksInTurn.{looks_handed, looks_so}
use Rattle.zeb_leaves.proofs.NearTurns.{looks_still, none_yet, one_more, refused_still}
use Rattle.zeb_leaves.proofs.near_terms.terms_beside.Goals as goal

pub turns-init : goal.turns-init
turns-init g c = record { some = search rules; still = none_yet (state g.S.Store c.args.conn.now) }

pub turns-preserved : goal.turns-preserved
turns-preserved g c = record {
  some = omega (arith, c.turns.invariant.some, c.saturating_mul-limit.ensures);
  still = one_more _ _ _ _ _ c.turns.invariant.still _ c.in_ok-counts.ensures;
}

pub returns-in_err-counts : goal.returns-in_err-counts
returns-in_err-counts g c = looks_handed _ _ _ c.from_residual.result _ _ _ _ (looks_still _ _ _ _ _ c.turns.invariant.still _ c.in_err-counts.ensures) c.from_residual.ensures.1 (λ store hides. hides)

pub returns-in-Some : goal.returns-in-Some
returns-in-Some g c = looks_so _ _ _ _ _ _ _ _ (looks_still _ _ _ _ _ c.turns.invariant.still _ c.in_ok-counts.ensures) (λ store told. rw c.in-Some.is at told)

pub returns : goal.returns
returns g c = record { call = refused_still _ _ _ c.turns.invariant.still; finds = λ clean store. search rules; refused = λ clean store is. absurd (cc); opened = λ clean is. absurd (cc) }
