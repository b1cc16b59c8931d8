use Rattle.zeb_leaves.proofs.Cited.{◌++◌, state}
use Rattle.zeb_register.proofs.LooksInTurn.{looks_failed, looks_refused, looks_told}
use Rattle.zeb_leaves.proofs.NearTold.{first_found, first_hidden}
use Rattle.zeb_leaves.proofs.first_terms.first_within.Goals as goal

pub returns-in_err-rows : goal.returns-in_err-rows
returns-in_err-rows g c = looks_failed _ _ _ c.from_residual.result _ _ _ c.in_err-rows.ensures c.from_residual.ensures.1

pub returns-in_err-counts : goal.returns-in_err-counts
returns-in_err-counts g c =
    let rows = c.in_ok-rows.rows.items in
    let whole = rw (c.deref.ensures.value) at c.are_all-whole.ensures in
    looks_refused _ _ _ c.in_err-counts.field-0.0 c.from_residual-in_err-counts.result _ _ _ c.in_ok-rows.ensures c.from_residual-in_err-counts.ensures.1 (λ store listed told.
    let hidden = (rw (c.deref-2.ensures.value, c.as_bytes.ensures.value) at c.in_err-counts.ensures) listed.0 (λ yes'. listed.2 (whole.0 yes')) in
    first_hidden (state g.S.Store c.args.conn.now) store c.args.at c.args.start.now c.args.n c.requires c.args.leaf.now (rows ++ listed.0) listed.1 (hidden told))

pub returns : goal.returns
returns g c =
    let rows = c.in_ok-rows.rows.items in
    let whole = rw (c.deref.ensures.value) at c.are_all-whole.ensures in
    looks_told _ _ _ _ _ _ _ c.in_ok-rows.ensures (λ store listed.
    first_found (state g.S.Store c.args.conn.now) store c.args.at c.args.start.now c.args.n c.requires c.args.leaf.now (rows ++ listed.0) listed.1 c.in_ok-counts.counts
    ((rw (c.deref-2.ensures.value, c.as_bytes.ensures.value) at c.in_ok-counts.ensures) listed.0 (λ yes'. listed.2 (whole.0 yes'))))
