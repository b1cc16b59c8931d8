use Rattle.zeb_register.proofs.Cited.{state, Has, Err, ◌∙◌, arith, length, length-map, sym, ap, map, subst, listed_name, first_three}
use Rattle.zeb_register.proofs.AsksInTurn.{asks_so}
use Rattle.zeb_register.proofs.DatabaseLists.{database_shown, databases_listed}
use Rattle.zeb_register.proofs.ExpectedDatabases.{names_readable, names_same}
use Rattle.zeb_register.proofs.agreeing.databases_beside.Goals as goal

pub returns-then-are_named-clause-asks : goal.returns-then-are_named-clause-asks
returns-then-are_named-clause-asks g c =
    asks_so _ _ _ _ _ _ c.in_ok-rows.ensures (λ store held up.
    let s = state g.S.Store c.args.conn.now in
    let rows = c.in_ok-rows.rows.items in
    let are = databases_listed s store rows held c.in-Ok.listed.items (c.in-Ok.ensures.ok ∙ ap (map first_three) c.deref.ensures.value) in
    (are, ap (map listed_name) (sym c.deref-in-Ok.ensures.value) ∙ c.are_named.ensures.same c.if-are_named.true))

pub returns-in-Ok-clause-asks : goal.returns-in-Ok-clause-asks
returns-in-Ok-clause-asks g c =
    asks_so _ _ _ _ _ _ c.in_ok-rows.ensures (λ store held up has.
    let s = state g.S.Store c.args.conn.now in
    let rows = c.in_ok-rows.rows.items in
    let are = databases_listed s store rows held c.in-Ok.listed.items (c.in-Ok.ensures.ok ∙ ap (map first_three) c.deref.ensures.value) in
    c.are_named.ensures.other c.if-are_named.false (ap (map listed_name) c.deref-in-Ok.ensures.value ∙ names_same s.now.trees c.args.expected.now c.in-Ok.listed.items are up has))

pub returns-in-Err-Damaged-clause-asks : goal.returns-in-Err-Damaged-clause-asks
returns-in-Err-Damaged-clause-asks g c =
    asks_so _ _ _ _ _ _ c.in_ok-rows.ensures (λ store held up has.
    let s = state g.S.Store c.args.conn.now in
    let rows = c.in_ok-rows.rows.items in
    c.in-Err-Damaged.ensures.honest (ap Err c.in-Err-Damaged.field-0-is) (λ row here. database_shown s store rows held (names_readable s.now.trees c.args.expected.now has) row (subst (λ l. Has l row) c.deref.ensures.value here)))

pub returns-then-are_named-clause-long : goal.returns-then-are_named-clause-long
returns-then-are_named-clause-long g c = omega (arith, ap length c.deref-in-Ok.ensures.value, simp length-map at (ap length (c.are_named.ensures.same c.if-are_named.true)))
