use Rattle.zeb_register.proofs.Cited.{state, List, Option, Some, None, subst, MatchOption, ExpectedDatabase, name_order, AreBeside, AreInOrder, HasNames, RecordsAgree, ListsAgree}
use Rattle.std.specs.List.Sorted.{IsStrictlySortedBy}
use Rattle.zeb_register.proofs.AsksInTurn.{asks_then}
use Rattle.zeb_register.proofs.ExpectedDatabases.{names_there}
use Rattle.zeb_register.proofs.agreeing.lists_beside.Goals as goal

found_so : {X : Type 0} (P Q : Type 0) (A B : X → Type 0) → (Q → P) → ((x : X) → A x → B x) → (found : Option X) → MatchOption found (¬ P) A → MatchOption found (¬ Q) B
found_so P Q A B back so None none = λ q. none (back q)
found_so P Q A B back so (Some x) is = so x is

pub returns-clause-asks : goal.returns-clause-asks
returns-clause-asks g c =
    let s = state g.S.Store c.args.conn.now in
    let databases = c.args.expected.now.databases.items in
    asks_then _ _ _ _ c.records_beside.result _ _ _ c.in_ok-texts_agree.ensures c.records_beside.ensures.asks (λ store texts found beside ordered.
    let is = subst (λ (l : List ExpectedDatabase). IsStrictlySortedBy name_order l → AreInOrder l
    → MatchOption found (¬ (HasNames s.now.trees l × RecordsAgree l s.now.trees)) (λ listed. AreBeside listed.items l s.now.trees × RecordsAgree l s.now.trees))
    c.deref.ensures.value beside ordered.names (λ database here. (ordered.records database here, ordered.postings database here)) in
    found_so (HasNames s.now.trees databases × RecordsAgree databases s.now.trees) (ListsAgree s.now.trees c.args.expected.now) _ _ (λ lists. (lists.names, lists.records))
    (λ listed both. (both.0, record { texts = texts.0 c.if-not-branch.false; names = names_there s.now.trees databases listed.items both.0.0 both.0.1; records = both.1 })) found is)
