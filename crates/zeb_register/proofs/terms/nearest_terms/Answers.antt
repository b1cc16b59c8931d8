use Rattle.zeb_register.proofs.Cited.{state, ◌≡◌, ◌↔◌, [], ◌∷◌, None, Some, true, length, ap, subst, arith, string_bytes, length-append, IsNearer, IsOn}
use Rattle.zeb_register.proofs.LooksInTurn.{looks_behind, looks_failed, looks_handed_behind, looks_so, looks_told}
use Rattle.zeb_register.proofs.PlainTerms.{found_as, gone_all, gone_hides, gone_more, hidden_as, none_gone}
use Rattle.zeb_register.proofs.terms.nearest_terms.Goals as goal

pub returns-in_err-nothing_of : goal.returns-in_err-nothing_of
returns-in_err-nothing_of g c = looks_failed _ _ _ c.from_residual-in_err-nothing_of.result _ _ _ c.in_err-nothing_of.ensures c.from_residual-in_err-nothing_of.ensures.1

pub loop-done-init : goal.loop-done-init
loop-done-init g c = record {
  long = ap length c.new-counts.ensures.items;
  looks = looks_told _ _ _ true _ _ _ c.in_ok-nothing_of.ensures (λ store none.
      none_gone c.args.at c.args.way c.args.start.now (string_bytes c.in_ok-text.text) (state g.S.Store c.args.conn.now).now.trees c.in_ok-text.ensures.ok c.new-counts.result.items c.new-counts.ensures.items);
}

pub loop-done-preserved : goal.loop-done-preserved
loop-done-preserved g c =
    let trees = (state g.S.Store c.args.conn.now).now.trees in
    let items = c.loop-done.counts.items in
    let text = string_bytes c.loop-done.text in
    let count = c.in-Some.count in
    record {
      long = omega (arith, c.loop-done.invariant.long, ap length c.in_ok-push.ensures.items, length-append items (count ∷ []));
      looks = looks_behind _ _ _ _ _ _ _ _ _ _ c.loop-done.invariant.looks _ true c.in_ok-count.ensures (λ store gone found.
          gone_more c.args.at c.args.way c.args.start.now text trees items gone count (found_as c.args.at c.args.way trees _ text c.deref.ensures c.in_ok-count.field-0 (Some count) c.in-Some.is found) (string_bytes c.in_ok-text-2.text)
          (λ u. subst (λ t. IsOn c.args.way (string_bytes c.in_ok-text-2.text) u ↔ IsNearer c.args.way t u) c.as_str.ensures (c.in_ok-text-2.ensures u)) _ c.in_ok-push.ensures.items);
    }

pub returns-in_err-count : goal.returns-in_err-count
returns-in_err-count g c =
    let trees = (state g.S.Store c.args.conn.now).now.trees in
    let text = string_bytes c.loop-done.text in
    looks_handed_behind _ _ _ _ _ _ _ _ _ _ c.loop-done.invariant.looks _ c.from_residual-in_err-count.result c.in_err-count.ensures c.from_residual-in_err-count.ensures.1 (λ store gone hides.
    gone_hides c.args.at c.args.way c.args.start.now text trees c.loop-done.counts.items gone c.args.n (omega (arith, c.loop-done.invariant.long, c.loop-done-test.true)) (hidden_as c.args.at c.args.way trees _ text c.deref.ensures hides))

pub returns-in_default : goal.returns-in_default
returns-in_default g c =
    let trees = (state g.S.Store c.args.conn.now).now.trees in
    let text = string_bytes c.loop-done.text in
    looks_behind _ _ _ _ _ _ _ _ _ _ c.loop-done.invariant.looks _ _ c.in_ok-count.ensures (λ store gone found.
    gone_all c.args.at c.args.way c.args.start.now text trees c.loop-done.counts.items gone c.args.n (omega (arith, c.loop-done.invariant.long, c.loop-done-test.true))
    (λ few. found_as c.args.at c.args.way trees _ text c.deref.ensures c.in_ok-count.field-0 None c.in_default.is found))

pub returns : goal.returns
returns g c =
    let many : length c.loop-done.counts.items ≡ c.args.n = omega (arith, c.loop-done.invariant.long, c.loop-done-test.false, c.loop-done.auto._done-end) in
    looks_so _ _ _ _ _ _ _ _ c.loop-done.invariant.looks (λ store gone.
    gone_all c.args.at c.args.way c.args.start.now (string_bytes c.loop-done.text) (state g.S.Store c.args.conn.now).now.trees c.loop-done.counts.items gone c.args.n (omega (arith, many)) (λ few. absurd (omega (arith, few, many))))
