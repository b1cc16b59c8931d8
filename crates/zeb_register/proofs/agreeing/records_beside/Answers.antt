use Rattle.zeb_register.proofs.Cited.{◌≡◌, ◌↔◌, ◌∙◌, Bool, IsTrue, List, State, true, false, length, ap, state, subst, Records, ListedDatabase, ExpectedDatabase, AreBeside, HoldsExpected, RecordsAgree, IsStore}
use Rattle.zeb_register.proofs.AsksInTurn.{asks_behind}
use Rattle.zeb_register.proofs.ExpectedDatabases.{expected_there}
use Rattle.zeb_register.proofs.agreeing.records_beside.Goals as goal

pub table_agrees-requires : goal.table_agrees-requires
table_agrees-requires g c = let long : length c.in-Some.listed.items ≡ length c.args.expected.now = rw c.in-Some.is at c.in_ok-listed.ensures.long in ap length c.deref.ensures.value ∙ long

-- what is told of the databases that were looked at is told of those that are there
told_there : (s : State) (expected : List ExpectedDatabase) (listed seen : List ListedDatabase) (agree : Bool) → IsStore s → AreBeside listed expected s.now.trees → seen ≡ listed
    → (IsTrue agree ↔ HoldsExpected Records seen expected s.now.trees) → IsTrue agree ↔ RecordsAgree expected s.now.trees
told_there s expected listed seen agree store beside same value =
    let there = expected_there s store expected listed beside.0 beside.1 Records in
    let value0 = subst (λ (l : List ListedDatabase). IsTrue agree ↔ HoldsExpected Records l expected s.now.trees) same value in
    (λ yes'. there.0 (value0.0 yes'), λ held. value0.1 (there.1 held))

pub returns-then-agree-clause-asks : goal.returns-then-agree-clause-asks
returns-then-agree-clause-asks g c =
    let s = state g.S.Store c.args.conn.now in
    asks_behind _ _ _ _ _ _ _ _ _ c.in_ok-listed.ensures.asks c.in_ok-agree.ensures (λ store found value up order.
    let beside : AreBeside c.in-Some.listed.items c.args.expected.now s.now.trees = rw c.in-Some.is at (found up) in
    let told = told_there s c.args.expected.now c.in-Some.listed.items c.deref.result.now c.in_ok-agree.agree store beside c.deref.ensures.value (value order) in
    (beside, told.0 c.if-agree.true))

pub returns-else-agree-clause-asks : goal.returns-else-agree-clause-asks
returns-else-agree-clause-asks g c =
    let s = state g.S.Store c.args.conn.now in
    asks_behind _ _ _ _ _ _ _ _ _ c.in_ok-listed.ensures.asks c.in_ok-agree.ensures (λ store found value up order both.
    let beside : AreBeside c.in-Some.listed.items c.args.expected.now s.now.trees = rw c.in-Some.is at (found up) in
    let told = told_there s c.args.expected.now c.in-Some.listed.items c.deref.result.now c.in_ok-agree.agree store beside c.deref.ensures.value (value order) in
    let yes' : c.in_ok-agree.agree ≡ true = told.1 both.1 in
    let no' : c.in_ok-agree.agree ≡ false = c.if-agree.false in
    absurd (cc))
