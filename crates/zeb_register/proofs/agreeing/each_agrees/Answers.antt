use Rattle.zeb_register.proofs.Cited.{state, ◌≡◌, ◌∙◌, true, false, inl, inr, slice_get, sym, ap, subst, refl, arith, ListedDatabase, AsExpected}
use Rattle.zeb_register.proofs.AsksInTurn.{asks_behind, asks_handed, asks_handed_behind, asks_so}
use Rattle.zeb_register.proofs.ListsInStep.{at_or_below, got_in, got_is, got_same}
use Rattle.zeb_register.proofs.ContentLemmas.{has_at}
use Rattle.zeb_register.proofs.agreeing.each_agrees.Goals as goal

pub returns-in_err-nothing_of : goal.returns-in_err-nothing_of
returns-in_err-nothing_of g c = asks_handed _ _ _ c.from_residual.result _ _ c.in_err-nothing_of.ensures c.from_residual.ensures.1

pub loop-at-init : goal.loop-at-init
loop-at-init g c = record { asks = asks_so _ _ _ true _ _ c.in_ok-nothing_of.ensures (λ store none order k one database below. absurd (omega arith)) }

pub returns-in_err-database_agrees : goal.returns-in_err-database_agrees
returns-in_err-database_agrees g c = asks_handed_behind _ _ _ _ _ c.from_residual-in_err-database_agrees.result _ _ _ c.loop-at.invariant.asks c.in_err-database_agrees.ensures c.from_residual-in_err-database_agrees.ensures.1

pub returns-then-not-branch : goal.returns-then-not-branch
returns-then-not-branch g c =
    let trees = (state g.S.Store c.args.conn.now).now.trees in
    asks_behind _ _ _ _ _ _ _ _ _ c.loop-at.invariant.asks c.in_ok-database_agrees.ensures (λ store before value order. (
      λ h. absurd (let e : false ≡ true = h in cc),
      λ each.
          let here = each c.index-listed-at.result c.index-expected-at.result
          (c.loop-at.at, got_is c.args.listed.now c.loop-at.at c.index-listed-at.result c.index-listed-at.is (omega (arith, c.requires, c.loop-at-test.true)), got_is c.args.expected.now c.loop-at.at c.index-expected-at.result c.index-expected-at.is c.loop-at-test.true) in
          let yes' : c.in_ok-database_agrees.field-0 ≡ true = (value (order c.index-expected-at.result (has_at _ _ _ c.index-expected-at.is c.loop-at-test.true))).1
          (subst (λ (l : ListedDatabase). AsExpected c.args.table l.id.0 c.index-expected-at.result trees) c.index-listed-at.is here) in
          let no' : c.in_ok-database_agrees.field-0 ≡ false = c.if-not-branch.true in
          absurd (cc),
    ))

pub loop-at-preserved : goal.loop-at-preserved
loop-at-preserved g c =
    let trees = (state g.S.Store c.args.conn.now).now.trees in
    record {
      asks = asks_behind _ _ _ _ _ true _ _ _ c.loop-at.invariant.asks c.in_ok-database_agrees.ensures (λ store before value order k one database below here there.
          elim (at_or_below k c.loop-at.at below) [
            | inl earlier ↦ before order k one database earlier here there
            | inr this ↦
                let left : one ≡ c.index-listed-at.result = got_same c.args.listed.now c.loop-at.at one c.index-listed-at.result (ap (slice_get c.args.listed.now) (sym this) ∙ here) c.index-listed-at.is in
                let right : database ≡ c.index-expected-at.result = got_same c.args.expected.now c.loop-at.at database c.index-expected-at.result (ap (slice_get c.args.expected.now) (sym this) ∙ there) c.index-expected-at.is in
                let held = subst (λ (l : ListedDatabase). AsExpected c.args.table l.id.0 c.index-expected-at.result trees) (sym c.index-listed-at.is) ((value (order c.index-expected-at.result (has_at _ _ _ c.index-expected-at.is c.loop-at-test.true))).0 c.if-not-branch.false) in
                subst (λ l. AsExpected c.args.table l.id.0 database trees) (sym left) (subst (λ d. AsExpected c.args.table c.index-listed-at.result.id.0 d trees) (sym right) held)
          ]);
    }

pub returns : goal.returns
returns g c = asks_so _ _ _ _ _ _ c.loop-at.invariant.asks (λ store done order. (
  λ h one database pair. done order pair.0 one database (let e = got_in c.args.expected.now pair.0 database pair.2 in omega (arith, e, c.loop-at-test.false)) pair.1 pair.2,
  λ each. refl,
))
