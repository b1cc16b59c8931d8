use Rattle.zeb_register.proofs.Cited.{state, HasCleanDisk, ◌∙◌, arith, inl, inr, refl}
use Rattle.zeb_register.proofs.CallsInTurn.{quiet_still, quiet_then}
use Rattle.zeb_register.proofs.Calls.{stays_still, stays_then}
use Rattle.zeb_register.proofs.PlaceLemmas.{puts_more}
use Rattle.zeb_register.proofs.plain_changes.places_put.Goals as goal

pub loop-place-init : goal.loop-place-init
loop-place-init g c =
    let first = state g.S.Store c.args.tx.now.conn.now in
    record {
      same = refl;
      crash = quiet_still first;
      stays = λ clean inside. stays_still first inside;
      within = omega arith;
      put = λ clean inside store. record {
        store = store;
        rows = λ row. (λ there. inl there, λ h. elim h [ inl there ↦ there | inr none ↦ absurd none.1 ]);
        others = ((refl, refl, refl), refl, refl);
      };
    }

pub loop-place-preserved : goal.loop-place-preserved
loop-place-preserved g c = record {
  same = c.in_ok-place_put.ensures.call.same ∙ c.loop-place.invariant.same;
  crash = quiet_then _ _ _ c.loop-place.invariant.crash c.place_put.ensures.call.does.crash;
  stays = λ clean inside.
      let before = c.loop-place.invariant.stays (omega (arith, c.place_put.ensures.call.does.crash.clean)) inside in stays_then _ _ _ before (c.in_ok-place_put.ensures.call.does.ok clean before.inside).on;
  within = omega (arith, c.loop-place-test.true);
  put = λ clean inside store.
      let mid : HasCleanDisk (state g.S.Store c.loop-place.tx.conn.now) = omega (arith, c.place_put.ensures.call.does.crash.clean) in
      let before = c.loop-place.invariant.stays mid inside in
      let put' = c.loop-place.invariant.put mid inside store in
      puts_more c.args.db.0 c.args.key.now c.args.sysno c.args.places.now c.loop-place.place-index _ _ _ _ c.loop-place-test.true put' ((c.in_ok-place_put.ensures.call.does.ok clean before.inside).rows put'.store);
}
