use Rattle.zeb_register.proofs.Cited.{state, plain_rows, subst, sym, ListsBefore}
use Rattle.zeb_register.proofs.LooksInTurn.{looks_handed, looks_so}
use Rattle.zeb_register.proofs.plain.RowsLayout.terms_before.Goals as goal

pub returns-in_err-counts-clause-units : goal.returns-in_err-counts-clause-units
returns-in_err-counts-clause-units g c = looks_handed _ _ _ c.from_residual.result _ _ _ _ c.in_err-counts.ensures c.from_residual.ensures.1 (λ store hides. hides)

pub returns-clause-units : goal.returns-clause-units
returns-clause-units g c =
    let at = c.args.at in
    looks_so _ _ _ _ _ _ _ _ c.in_ok-counts.ensures (λ store lists.
    subst (ListsBefore plain_rows (state g.S.Store c.args.conn.now).now.trees at.db.0 at.index at.register c.args.start.now c.args.n) (sym c.reverse.ensures.items) lists)
