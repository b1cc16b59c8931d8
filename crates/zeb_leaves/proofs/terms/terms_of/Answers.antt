use Rattle.zeb_leaves.proofs.Cited.{Row, List, [], subst, state, HideAllOwns, IsNoText, ShowAllOwns}
use Rattle.zeb_register.proofs.LooksInTurn.{found_refused, looks_handed, looks_so}
use Rattle.zeb_leaves.proofs.TermsTold.{all_hidden, all_listed, uncovered_hides}
use Rattle.zeb_leaves.proofs.terms.terms_of.Goals as goal

pub returns-in_err-rows : goal.returns-in_err-rows
returns-in_err-rows g c = looks_handed _ _ _ c.from_residual.result _ _ _ _ c.in_err-rows.ensures c.from_residual.ensures.1 (λ store. uncovered_hides (state g.S.Store c.args.conn.now) store c.args.at)

pub returns-in_err-counts_in : goal.returns-in_err-counts_in
returns-in_err-counts_in g c =
    found_refused _ _ _ c.in_err-counts_in.field-0.0 c.from_residual-in_err-counts_in.result _ _ _ _ c.in_ok-rows.ensures c.from_residual-in_err-counts_in.ensures.1 (λ store are told.
    all_hidden (state g.S.Store c.args.conn.now) store c.args.at c.in_ok-rows.rows.items are (subst (HideAllOwns IsNoText []) c.deref.ensures.value (c.in_err-counts_in.ensures told)))

pub returns : goal.returns
returns g c =
    let counted = c.in_ok-counts_in.ensures in
    looks_so _ _ _ _ _ _ _ _ c.in_ok-rows.ensures (λ store are.
    all_listed (state g.S.Store c.args.conn.now) store c.args.at c.in_ok-rows.rows.items are counted.0 c.in_ok-counts_in.field-0.items (subst (λ (l : List Row). ShowAllOwns [] l counted.0) c.deref.ensures.value counted.1) counted.2)
