use Rattle.zeb_register.proofs.Cited.{state, rules, Err, ap, pos, IsIdentRow}
use Rattle.zeb_register.proofs.Columns.{column_is}
use Rattle.zeb_register.proofs.LookUps.{ident_told, idents_shown, list_is}
use Rattle.zeb_register.proofs.LooksInTurn.{looks_failed, looks_refused, looks_told}
use Rattle.zeb_register.proofs.kept.ident_of.Goals as goal

pub returns : goal.returns
returns g c =
    let trees = (state g.S.Store c.args.conn.now).now.trees in
    looks_told _ _ _ c.in_ok-first_text.field-0 _ _ _ c.in_ok-rows.ensures (λ store listed. record {
      small = λ small.
          let list = list_is (λ db n. IsIdentRow db n trees) (column_is c.column.ensures.fits c.column.ensures.value) (column_is c.in-Ok.ensures.ok.1 c.in-Ok.ensures.ok.0) c.deref.ensures.value listed in
          ident_told trees c.args.db.0 (pos c.args.sysno) list c.in_ok-first_text.field-0 c.in_ok-first_text.ensures.ok;
      large = search rules;
    })

pub returns-in_err-rows : goal.returns-in_err-rows
returns-in_err-rows g c = looks_failed _ _ _ c.from_residual-in_err-rows.result _ _ _ c.in_err-rows.ensures c.from_residual-in_err-rows.ensures.1

pub returns-in_err-first_text : goal.returns-in_err-first_text
returns-in_err-first_text g c =
    let trees = (state g.S.Store c.args.conn.now).now.trees in
    looks_refused _ _ _ c.in_err-first_text.field-0.0 c.from_residual-in_err-first_text.result _ _ _ c.in_ok-rows.ensures c.from_residual-in_err-first_text.ensures.1 (λ store listed told readable.
    let list = list_is (λ db n. IsIdentRow db n trees) (column_is c.column.ensures.fits c.column.ensures.value) (column_is c.in-Ok.ensures.ok.1 c.in-Ok.ensures.ok.0) c.deref.ensures.value listed in
    c.in_err-first_text.ensures.honest (ap Err told) (idents_shown trees c.args.db.0 (pos c.args.sysno) list readable))
