use Rattle.zeb_register.proofs.Cited.{state, string_bytes, IsUtf8-string_bytes}
use Rattle.zeb_register.proofs.LooksInTurn.{looks_behind, looks_handed, looks_handed_behind}
use Rattle.zeb_register.proofs.PlainTerms.{count_hides_next, next_counted, text_hides_next}
use Rattle.zeb_register.proofs.terms.count_on.Goals as goal

pub returns-in_err-term : goal.returns-in_err-term
returns-in_err-term g c =
    looks_handed _ _ _ c.from_residual.result _ _ _ _ c.in_err-term.ensures c.from_residual.ensures.1 (λ store. text_hides_next c.args.at c.args.way c.args.text.now (state g.S.Store c.args.conn.now).now.trees)

pub returns-in_err-term_count : goal.returns-in_err-term_count
returns-in_err-term_count g c =
    let term = string_bytes c.in-Some.term in
    looks_handed_behind _ _ _ _ _ _ _ _ _ _ c.in_ok-term.ensures _ c.from_residual-in_err-term_count.result c.in_err-term_count.ensures c.from_residual-in_err-term_count.ensures.1
    (λ store found. count_hides_next c.args.at c.args.way c.args.text.now (state g.S.Store c.args.conn.now).now.trees term (rw c.in-Some.is at found))

pub returns : goal.returns
returns g c =
    let term = string_bytes c.in-Some.term in
    looks_behind _ _ _ _ _ _ _ _ _ _ c.in_ok-term.ensures c.in_ok-term_count.field-0 _ c.in_ok-term_count.ensures (λ store found.
    next_counted c.args.at c.args.way c.args.text.now (state g.S.Store c.args.conn.now).now.trees term (rw c.in-Some.is at found) (IsUtf8-string_bytes c.in-Some.term) c.in_ok-term_count.field-0)
