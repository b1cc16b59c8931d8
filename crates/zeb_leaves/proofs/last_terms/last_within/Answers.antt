use Rattle.zeb_leaves.proofs.Cited.{◌++◌, ap, ap₂, arith, length, state, sym}
use Rattle.zeb_register.proofs.LooksInTurn.{looks_as, looks_failed, looks_refused, looks_then, looks_told}
use Rattle.zeb_leaves.proofs.LastTold.{last_found, last_hidden, leafless_found, leafless_hidden, more_there, none_there, some_there}
use Rattle.zeb_leaves.proofs.last_terms.last_within.Goals as goal

pub returns-in_err-rows : goal.returns-in_err-rows
returns-in_err-rows g c = looks_failed _ _ _ c.from_residual.result _ _ _ c.in_err-rows.ensures c.from_residual.ensures.1

pub returns-then-is_empty : goal.returns-then-is_empty
returns-then-is_empty g c =
    let s = state g.S.Store c.args.conn.now in
    let rows = c.in_ok-rows.rows in
    let none = none_there rows.items rows.len (omega (arith, rows.ok.0)) (sym c.if-is_empty.ensures) in
    looks_then _ _ _ _ c.no_leaf_terms.result _ _ _ _ _ _ (looks_as _ _ _ _ c.in_ok-rows.ensures) c.no_leaf_terms.ensures (λ store listed some.
    let ended = listed.4 (omega (arith, c.requires.1, ap length none)) in
    leafless_hidden s store c.args.at c.args.start.now c.args.n c.requires.0 listed.0 listed.2 (rows.items ++ listed.1) listed.3 (ap₂ (λ xs ys. xs ++ ys) none ended) some)
    (λ store listed found told. leafless_found s store c.args.at c.args.start.now c.args.n c.requires.0 found told.0 told.1)

pub returns-in_err-terms_below : goal.returns-in_err-terms_below
returns-in_err-terms_below g c =
    let rows = c.in_ok-rows.rows in
    let whole = rw (c.deref.ensures.value) at c.are_all-whole.ensures in
    let some = some_there rows.items rows.len (omega (arith, rows.ok.0)) (sym c.if-is_empty.ensures) in
    looks_refused _ _ _ c.in_err-terms_below.field-0.0 c.from_residual-in_err-terms_below.result _ _ _ c.in_ok-rows.ensures c.from_residual-in_err-terms_below.ensures.1 (λ store listed told.
    let hidden = (rw (c.deref-2.ensures.value, c.as_bytes.ensures.value) at c.in_err-terms_below.ensures) listed.1 (λ yes'. listed.4 (whole.0 yes')) in
    last_hidden (state g.S.Store c.args.conn.now) store c.args.at c.args.start.now c.args.n c.requires.0 listed.0 listed.2 (rows.items ++ listed.1) listed.3 (more_there rows.items listed.1 some) (hidden told))

pub returns : goal.returns
returns g c =
    let rows = c.in_ok-rows.rows in
    let whole = rw (c.deref.ensures.value) at c.are_all-whole.ensures in
    looks_told _ _ _ _ _ _ _ c.in_ok-rows.ensures (λ store listed.
    last_found (state g.S.Store c.args.conn.now) store c.args.at c.args.start.now c.args.n c.requires.0 listed.0 listed.2 (rows.items ++ listed.1) listed.3 c.in_ok-terms_below.field-0
    ((rw (c.deref-2.ensures.value, c.as_bytes.ensures.value) at c.in_ok-terms_below.ensures) listed.1 (λ yes'. listed.4 (whole.0 yes'))))
