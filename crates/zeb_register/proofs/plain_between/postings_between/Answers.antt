use Rattle.zeb_register.proofs.Cited.{state, [], ◌∷◌, ◌++◌, ◌∙◌, subst, sym, IsRestBetween, register_columns, IsListOf, postings_tree}
use Rattle.zeb_register.proofs.BetweenLists.{none_between, rows_between}
use Rattle.zeb_register.proofs.LooksInTurn.{looks_failed, looks_refused, looks_told}
use Rattle.zeb_register.proofs.plain_between.postings_between.Goals as goal

pub returns-in_err-rows : goal.returns-in_err-rows
returns-in_err-rows g c = looks_failed _ _ _ c.from_residual-in_err-rows.result _ _ _ c.in_err-rows.ensures c.from_residual-in_err-rows.ensures.1

pub returns-in_err-postings_behind : goal.returns-in_err-postings_behind
returns-in_err-postings_behind g c =
    let old = state g.S.Store c.args.conn.now in
    let first = c.args.first.now in
    let last = c.args.last.now in
    looks_refused _ _ _ c.in_err-postings_behind.field-0.0 c.from_residual-in_err-postings_behind.result _ _ _ c.in_ok-rows.ensures c.from_residual-in_err-postings_behind.ensures.1 (λ store listed told.
    let are = subst (λ end. IsListOf (IsRestBetween postings_tree (register_columns c.args.at) first end old.now.trees) c.in_ok-rows.rows.items) (c.as_str.ensures.value ∙ c.in_ok-end.ensures) listed in
    none_between old store c.args.at first last c.deref.result.now (subst (IsListOf (IsRestBetween postings_tree (register_columns c.args.at) first (last ++ 0 ∷ []) old.now.trees)) (sym c.deref.ensures.value) are) (c.in_err-postings_behind.ensures told))

pub returns : goal.returns
returns g c =
    let old = state g.S.Store c.args.conn.now in
    let first = c.args.first.now in
    let last = c.args.last.now in
    looks_told _ _ _ c.in_ok-postings_behind.field-0 _ _ _ c.in_ok-rows.ensures (λ store listed.
    let are = subst (λ end. IsListOf (IsRestBetween postings_tree (register_columns c.args.at) first end old.now.trees) c.in_ok-rows.rows.items) (c.as_str.ensures.value ∙ c.in_ok-end.ensures) listed in
    rows_between old store c.args.at first last c.deref.result.now (subst (IsListOf (IsRestBetween postings_tree (register_columns c.args.at) first (last ++ 0 ∷ []) old.now.trees)) (sym c.deref.ensures.value) are) c.in_ok-postings_behind.field-0.items c.in_ok-postings_behind.ensures)
