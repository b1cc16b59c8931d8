use Rattle.zeb_leaves.proofs.Cited.{state, ◌≡◌, ◌∙◌, length, sym, ap, false, true, lists_agree, AreBeside, ListsAgree, packed_leaves}
use Rattle.zeb_register.proofs.AsksInTurn.{asks_handed, asks_so, asks_then}
use Rattle.zeb_leaves.proofs.ExpectedLeaves.{leaves_agree, leaves_expected}
use Rattle.zeb_leaves.proofs.LeavesOfIds.{by_list, by_names}
use Rattle.zeb_leaves.proofs.agreeing_tables.leaves_agree.Goals as goal

pub returns-in_err-listed : goal.returns-in_err-listed
returns-in_err-listed g c = asks_handed _ _ _ c.from_residual.result _ _ c.in_err-listed.ensures.asks c.from_residual.ensures.1

pub returns-in_default : goal.returns-in_default
returns-in_default g c =
    let s = state g.S.Store c.args.conn.now in
    asks_so _ _ _ _ _ _ c.in_ok-listed.ensures.asks (λ store found ordered.
    let none : ¬ ListsAgree s.now.trees c.args.expected.now = rw c.in_default.is at (found ordered) in
    (λ h. absurd (let e : false ≡ true = h in cc), λ are. absurd (none (lists_agree s store c.args.expected.now ordered packed_leaves are))))

pub registers_agree-requires : goal.registers_agree-requires
registers_agree-requires g c =
    let long : length c.in-Some.listed.items ≡ length c.args.expected.now.databases.items = rw c.in-Some.is at c.in_ok-listed.ensures.long in ap length c.deref.ensures.value ∙ long ∙ ap length (sym c.deref-2.ensures.value)

pub returns : goal.returns
returns g c =
    let s = state g.S.Store c.args.conn.now in
    let expected = c.args.expected.now in
    let listed = c.in-Some.listed.items in
    asks_then _ _ _ _ c.registers_agree.result _ _ _ c.in_ok-listed.ensures.asks c.registers_agree.ensures (λ store found answer told ordered.
    let beside : AreBeside listed expected.databases.items s.now.trees × ListsAgree s.now.trees expected = rw c.in-Some.is at (found ordered) in
    let is = (rw (c.deref.ensures.value, c.deref-2.ensures.value) at told) ordered.postings in (
      λ h. let all = is.0 h in leaves_expected s store expected ordered listed beside.0.0 beside.1 (by_names s store expected.databases.items listed beside.0.0 beside.0.1 all.0 all.1.0 all.1.1),
      λ are. let agree = leaves_agree s store expected ordered are in is.1 (agree.lacks, by_list s store expected.databases.items listed beside.0.0 beside.0.1 agree),
    ))
