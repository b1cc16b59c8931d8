use Rattle.zeb_image.proofs.Cited.{rules, sym, ap, subst, arith, is_some, Database, state, HasCleanDisk, unchanged_then, AreExpected, nothing_then, store_same, quiet_then, IsExpectationOrNone, may_after}
use Rattle.zeb_image.proofs.CheckedImages.{all_ordered, expected_is, is_expected, no_image}
use Rattle.zeb_image.proofs.checking.is_image.Goals as goal

pub returns-in_default-clause-value : goal.returns-in_default-clause-value
returns-in_default-clause-value g c clean store =
    let s0 = state g.S.Store c.args.connection.now in
    let none = subst (IsExpectationOrNone g.L.Layout.format c.args.profile.now s0.now.trees) c.in_default.is (c.in_ok-expected.ensures.value clean store) in
    (λ no. absurd (cc), λ some. absurd (no_image g.L.Layout.format c.args.profile.now c.is_of_some_text.ensures s0 none some))

pub returns-clause-value : goal.returns-clause-value
returns-clause-value g c clean store =
    let format = g.L.Layout.format in
    let profile = c.args.profile.now in
    let expected = c.in-Some.expected in
    let s0 = state g.S.Store c.args.connection.now in
    let s1 = state g.S.Store c.expectation.new.connection in
    let first : HasCleanDisk s1 = omega (arith, c.agrees.ensures.call.crash.clean) in
    let at = ((c.in_ok-expected.ensures.call.ok first).1 (ap is_some c.in-Some.is)).0.now_is in
    let is = subst (IsExpectationOrNone format profile s0.now.trees) c.in-Some.is (c.in_ok-expected.ensures.value first store) in
    let said = c.in_ok-agrees.ensures.value clean (store_same s0 s1 at store) (all_ordered format profile c.is_of_some_text.ensures s0 store expected is) in (
      λ yes. expected_is format profile c.is_of_some_text.ensures s0 store expected is (subst (λ (d : Database). AreExpected format d.trees expected) at (said.0 yes)),
      λ some. said.1 (subst (λ (d : Database). AreExpected format d.trees expected) (sym at) (is_expected format profile c.is_of_some_text.ensures s0 store expected is some)),
    )

pub returns-clause-call : goal.returns-clause-call
returns-clause-call g c =
    let s0 = state g.S.Store c.args.connection.now in
    let s1 = state g.S.Store c.expectation.new.connection in
    let s2 = state g.S.Store c.agrees.new.conn in
    let clean_a = λ (clean : HasCleanDisk (state g.S.Store c.agrees.new.conn)). (let e : HasCleanDisk (state g.S.Store c.expectation.new.connection) = omega (arith, c.agrees.ensures.call.crash.clean) in e) in
    let before = c.in_ok-expected.ensures.call in
    record {
      idle = λ i. c.agrees.ensures.call.idle (before.idle i);
      ok = λ clean.
          let first = (before.ok (clean_a clean)).1 (ap is_some c.in-Some.is) in
          (first.0.was_open, λ yes. unchanged_then s0 s1 s2 first (c.in_ok-agrees.ensures.call.ok clean));
      same = λ clean i. nothing_then s0 s1 s2 (before.same (clean_a clean) i) (c.agrees.ensures.call.same clean (before.idle i));
      crash = quiet_then s0 s1 s2 before.crash c.agrees.ensures.call.crash;
    }

pub returns-in_err-agrees-clause-call : goal.returns-in_err-agrees-clause-call
returns-in_err-agrees-clause-call g c =
    let s0 = state g.S.Store c.args.connection.now in
    let s1 = state g.S.Store c.expectation.new.connection in
    let s2 = state g.S.Store c.agrees.new.conn in
    let clean_a = λ (clean : HasCleanDisk (state g.S.Store c.agrees.new.conn)). (let e : HasCleanDisk (state g.S.Store c.expectation.new.connection) = omega (arith, c.agrees.ensures.call.crash.clean) in e) in
    let before = c.in_ok-expected.ensures.call in
    record {
      idle = λ i. c.agrees.ensures.call.idle (before.idle i);
      ok = search rules;
      same = λ clean i. nothing_then s0 s1 s2 (before.same (clean_a clean) i) (c.agrees.ensures.call.same clean (before.idle i));
      crash = quiet_then s0 s1 s2 before.crash c.agrees.ensures.call.crash;
    }

pub returns-in_err-agrees-clause-refused : goal.returns-in_err-agrees-clause-refused
returns-in_err-agrees-clause-refused g c clean store told =
    let s0 = state g.S.Store c.args.connection.now in
    let s1 = state g.S.Store c.expectation.new.connection in
    let first : HasCleanDisk s1 = omega (arith, c.agrees.ensures.call.crash.clean) in
    let same = (c.in_ok-expected.ensures.call.ok first).1 (ap is_some c.in-Some.is) in
    may_after s0 s1 (state g.S.Store c.agrees.new.conn) c.in_ok-expected.ensures.call.crash (λ _. same.0.is_open) (λ _. c.in_err-agrees.ensures.refused clean (store_same s0 s1 same.0.now_is store) (search rules))
