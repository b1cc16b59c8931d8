use Rattle.std.specs.Prelude.{IsSome}
use Rattle.zeb_image.proofs.Cited.{rules, ◌≡◌, ◌∙◌, ◌++◌, pos, [], ◌∷◌, append_assoc, Err, inl, refl, sym, ap, subst, arith, string_bytes, AllZip, is_some, into_iter_items, Database, state, HasCleanDisk, Has, has_right, store_same, CanBeHeld, IsMadeOf, IsMadeOrNone, may_after, RegFault}
use Rattle.zeb_image.proofs.CheckedLists.{zip_push}
use Rattle.zeb_image.proofs.LookLemmas.{ended, looked, looked_then}
use Rattle.zeb_register.specs.declared.RegFault.TheVariants as fault
use Rattle.zeb_image.proofs.checking_databases.expected_databases.Goals as goal

pub loop-listed-preserved : goal.loop-listed-preserved
loop-listed-preserved g c =
    let inv = c.loop-listed.invariant in
    let s0 = state g.S.Store c.args.connection.now in
    let s1 = state g.S.Store c.loop-listed.connection in
    let s2 = state g.S.Store c.expected_database.new.connection in
    let listed = c.in-Some.listed in
    let made = c.in-Some-2.made in
    let profile = c.args.profile.now in
    let clean_a = λ (clean : HasCleanDisk (state g.S.Store c.expected_database.new.connection)). (let e : HasCleanDisk (state g.S.Store c.loop-listed.connection) = omega (arith, c.expected_database.ensures.call.crash.clean) in e) in
    record {
      looked = looked_then _ s0 s1 s2 _ inv.looked c.in_ok-made.ensures.call (λ clean. c.in_ok-made.ensures.call.ok clean (ap is_some c.in-Some-2.is));
      clean = λ clean. inv.clean (clean_a clean);
      items = inv.items ∙ ap (λ rest. c.loop-listed.yielded ++ rest) c.in-Some.ensures.steps.0 ∙ sym (append_assoc c.loop-listed.yielded (listed ∷ []) _);
      made = λ clean store.
          let at = (inv.looked.ok (clean_a clean)).0.now_is in
          let value = subst (IsMadeOrNone profile s1.now.trees listed) c.in-Some-2.is (c.in_ok-made.ensures.value clean (store_same s0 s1 at store)) in
          let here = subst (λ (d : Database). IsMadeOf profile d.trees listed made) at value in
          subst (λ l. AllZip (IsMadeOf profile s0.now.trees) (c.loop-listed.yielded ++ listed ∷ []) l) (sym c.in_ok-push.ensures.items)
          (zip_push (IsMadeOf profile s0.now.trees) c.loop-listed.yielded c.loop-listed.expected.items listed made (inv.made (clean_a clean) store) here);
    }

pub returns-in_default-clause-value : goal.returns-in_default-clause-value
returns-in_default-clause-value g c clean store sound =
    let inv = c.loop-listed.invariant in
    let s1 = state g.S.Store c.loop-listed.connection in
    let listed = c.in-Some.listed in
    let list = c.in-Ok.list.items in
    let first : HasCleanDisk s1 = omega (arith, c.expected_database.ensures.call.crash.clean) in
    let at = (inv.looked.ok first).0.now_is in
    let none = subst (IsMadeOrNone c.args.profile.now s1.now.trees listed) c.in_default.is (c.in_ok-made.ensures.value clean (store_same (state g.S.Store c.args.connection.now) s1 at store)) in
    let begun : into_iter_items c.into_iter-listed-iterator.result ≡ list = search rules in
    let all = sym begun ∙ inv.items ∙ ap (λ rest. c.loop-listed.yielded ++ rest) c.in-Some.ensures.steps.0 in
    let there = subst (λ l. Has l listed) (sym all) (has_right c.loop-listed.yielded (listed ∷ into_iter_items c.next.new.self) listed (inl refl)) in
    let row = ((c.in-Ok.ensures.finds (inv.clean first) store).each listed.id.0 (string_bytes listed.name) (pos listed.last)).1 (listed, there, refl, refl, refl) in
    subst (λ (d : Database). CanBeHeld c.args.profile.now d.trees listed.id.0 (string_bytes listed.name) listed.last → ⊥) at none (sound.each listed.id.0 (string_bytes listed.name) listed.last row)

pub returns-in_err-made-clause-refused : goal.returns-in_err-made-clause-refused
returns-in_err-made-clause-refused g c clean store told =
    let inv = c.loop-listed.invariant in
    let s0 = state g.S.Store c.args.connection.now in
    let s1 = state g.S.Store c.loop-listed.connection in
    let s2 = state g.S.Store c.expected_database.new.connection in
    let first : HasCleanDisk s1 = omega (arith, c.expected_database.ensures.call.crash.clean) in
    let same = inv.looked.ok first in
    let cause = c.in_err-made.field-0.0 in
    let is_store : ◌≡◌ {A = RegFault} cause fault.Store = let is : c.from_residual.result ≡ Err cause = search rules in cc in
    may_after s0 s1 s2 inv.looked.crash (λ _. same.0.is_open) (λ _. c.in_err-made.ensures.refused clean (store_same s0 s1 same.0.now_is store) (ap Err is_store))

pub returns-clause-call : goal.returns-clause-call
returns-clause-call g c = looked (λ found. IsSome found) _ _ _ c.loop-listed.invariant.looked

pub returns-in_default-clause-call : goal.returns-in_default-clause-call
returns-in_default-clause-call g c = ended (λ found. IsSome found) _ _ _ _ _ _ (λ some. absurd cc) c.loop-listed.invariant.looked c.in_ok-made.ensures.call

pub returns-in_err-made-clause-call : goal.returns-in_err-made-clause-call
returns-in_err-made-clause-call g c =
    let cause = c.in_err-made.field-0.0 in
    let told : c.from_residual.result ≡ Err cause = search rules in
    ended (λ found. IsSome found) _ _ _ _ _ _ (rw told tt) c.loop-listed.invariant.looked c.in_err-made.ensures.call

pub returns-in_err-push-clause-call : goal.returns-in_err-push-clause-call
returns-in_err-push-clause-call g c =
    looked (λ found. IsSome found) _ _ _ (looked_then _ _ _ _ _ c.loop-listed.invariant.looked c.in_ok-made.ensures.call (λ clean. c.in_ok-made.ensures.call.ok clean (ap is_some c.in-Some-2.is)))
