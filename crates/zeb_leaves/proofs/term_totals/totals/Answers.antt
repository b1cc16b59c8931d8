use Rattle.zeb_leaves.proofs.Cited.{Row, List, [], arith, inl, subst, state, HideAllOwns, IsNoText, SaysNone, ShowAllOwns}
use Rattle.zeb_register.proofs.LooksInTurn.{found_refused, looks_handed, looks_so}
use Rattle.zeb_leaves.proofs.SpotsSaid.{sums_hidden, sums_told, terms_hidden}
use Rattle.zeb_leaves.proofs.TermsTold.{uncovered_hides}
use Rattle.zeb_leaves.proofs.term_totals.totals.Goals as goal

pub returns-in_err-rows : goal.returns-in_err-rows
returns-in_err-rows g c =
    looks_handed _ _ _ c.from_residual.result _ _ _ _ c.in_err-rows.ensures c.from_residual.ensures.1 (λ store uncovered. let it = uncovered_hides (state g.S.Store c.args.conn.now) store c.args.at uncovered in (it.0, inl it.1))

pub returns-in_err-counts : goal.returns-in_err-counts
returns-in_err-counts g c =
    found_refused _ _ _ c.in_err-counts.field-0.0 c.from_residual-in_err-counts.result _ _ _ _ c.in_ok-rows.ensures c.from_residual-in_err-counts.ensures.1 (λ store are told.
    terms_hidden (state g.S.Store c.args.conn.now) store c.args.at c.in_ok-rows.rows.items are (subst (HideAllOwns IsNoText []) c.deref.ensures.value (c.in_err-counts.ensures told)))

pub returns-in_err-occurrences : goal.returns-in_err-occurrences
returns-in_err-occurrences g c =
    found_refused _ _ _ c.in_err-occurrences.field-0.0 c.from_residual-in_err-occurrences.result _ _ _ _ c.in_ok-rows.ensures c.from_residual-in_err-occurrences.ensures.1 (λ store are told.
    sums_hidden (state g.S.Store c.args.conn.now) store c.args.at c.in_ok-rows.rows.items are (subst (HideAllOwns SaysNone []) c.deref-2.ensures.value (c.in_err-occurrences.ensures told)))

pub returns : goal.returns
returns g c =
    let counted = c.in_ok-counts.ensures in
    let said = c.in_ok-occurrences.ensures in
    looks_so _ _ _ _ _ _ _ _ c.in_ok-rows.ensures (λ store are.
    sums_told (state g.S.Store c.args.conn.now) store c.args.at c.in_ok-rows.rows.items are counted.0 said.0 c.in_ok-counts.counts.items said.1 (subst (λ (l : List Row). ShowAllOwns [] l counted.0) c.deref.ensures.value counted.1) counted.2
    (subst (λ (l : List Row). ShowAllOwns [] l said.0) c.deref-2.ensures.value said.2) said.3 _ (omega (arith, c.len.ensures, c.in_ok-counts.counts.ok.0)) said.4)
