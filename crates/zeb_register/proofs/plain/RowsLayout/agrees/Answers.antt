use Rattle.zeb_register.proofs.Cited.{state, ◌≡◌, ◌↔◌, ◌∙◌, List, true, false, length, IsTrue, sym, ap, subst, Postings, ListedDatabase, ExpectedDatabase, plain_rows, AreBeside, AreInOrder, HoldsExpected, LacksPacked, ListsAgree}
use Rattle.zeb_register.proofs.AsksInTurn.{asks_handed, asks_so, asks_then}
use Rattle.zeb_register.proofs.ExpectedDatabases.{expected_there}
use Rattle.zeb_register.proofs.AgreeingTables.{lists_agree}
use Rattle.zeb_register.proofs.AgreeingRows.{rows_agree, rows_expected}
use Rattle.zeb_register.proofs.plain.RowsLayout.agrees.Goals as goal

pub returns-in_err-listed : goal.returns-in_err-listed
returns-in_err-listed g c = asks_handed _ _ _ c.from_residual.result _ _ c.in_err-listed.ensures.asks c.from_residual.ensures.1

pub returns-in_default : goal.returns-in_default
returns-in_default g c =
    let s = state g.S.Store c.args.conn.now in
    asks_so _ _ _ _ _ _ c.in_ok-listed.ensures.asks (λ store listed ordered.
    let none : ¬ ListsAgree s.now.trees c.args.expected.now = rw c.in_default.is at (listed ordered) in
    (λ h. absurd (let e : false ≡ true = h in cc), λ are. absurd (none (lists_agree s store c.args.expected.now ordered plain_rows are))))

pub rows_agree-requires : goal.rows_agree-requires
rows_agree-requires g c =
    let long : length c.in-Some.listed.items ≡ length c.args.expected.now.databases.items = rw c.in-Some.is at c.in_ok-listed.ensures.long in ap length c.deref.ensures.value ∙ long ∙ ap length (sym c.deref-2.ensures.value)

pub returns : goal.returns
returns g c =
    let s = state g.S.Store c.args.conn.now in
    let databases = c.args.expected.now.databases.items in
    let listed = c.in-Some.listed.items in
    asks_then _ _ _ _ c.rows_agree.result _ _ _ c.in_ok-listed.ensures.asks c.rows_agree.ensures (λ store told answer value ordered.
    let found : AreBeside listed databases s.now.trees × ListsAgree s.now.trees c.args.expected.now = rw c.in-Some.is at (told ordered) in
    let is = subst (λ (l : List ListedDatabase). IsTrue answer ↔ (HoldsExpected Postings l databases s.now.trees × LacksPacked s.now.trees)) c.deref.ensures.value
    (subst (λ (l : List ExpectedDatabase). AreInOrder l → IsTrue answer ↔ (HoldsExpected Postings c.deref.result.now l s.now.trees × LacksPacked s.now.trees)) c.deref-2.ensures.value value (λ database here. (ordered.records database here, ordered.postings database here))) in
    let there = expected_there s store databases listed found.0.0 found.0.1 Postings in (
      λ h. let both = is.0 h in rows_expected s store c.args.expected.now ordered listed found.0.0 found.1 (there.0 both.0, both.1),
      λ are. let both = rows_agree s store c.args.expected.now ordered are in is.1 (there.1 both.0, both.1),
    ))
