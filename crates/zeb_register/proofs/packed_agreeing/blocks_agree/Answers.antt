use Rattle.zeb_register.proofs.Cited.{state, ◌≡◌, ◌↔◌, ◌∙◌, List, true, false, length, IsTrue, sym, ap, subst, Blocks, Dict, ListedDatabase, ExpectedDatabase, packed_blocks, AreBeside, AreInOrder, HoldsExpected, HoldsKeysAlone, ListsAgree}
use Rattle.zeb_register.proofs.AsksInTurn.{asks_handed, asks_so, asks_then}
use Rattle.zeb_register.proofs.ExpectedDatabases.{expected_there}
use Rattle.zeb_register.proofs.AgreeingTables.{lists_agree}
use Rattle.zeb_register.proofs.AgreeingBlocks.{blocks_agree, blocks_expected}
use Rattle.zeb_register.proofs.packed_agreeing.blocks_agree.Goals as goal

pub returns-in_err-listed : goal.returns-in_err-listed
returns-in_err-listed g c = asks_handed _ _ _ c.from_residual.result _ _ c.in_err-listed.ensures.asks c.from_residual.ensures.1

pub returns-in_default : goal.returns-in_default
returns-in_default g c =
    let s = state g.S.Store c.args.conn.now in
    asks_so _ _ _ _ _ _ c.in_ok-listed.ensures.asks (λ store listed ordered.
    let none : ¬ ListsAgree s.now.trees c.args.expected.now = rw c.in_default.is at (listed ordered) in
    (λ h. absurd (let e : false ≡ true = h in cc), λ are. absurd (none (lists_agree s store c.args.expected.now ordered packed_blocks are))))

pub packed_agree-requires : goal.packed_agree-requires
packed_agree-requires g c =
    let long : length c.in-Some.listed.items ≡ length c.args.expected.now.databases.items = rw c.in-Some.is at c.in_ok-listed.ensures.long in ap length c.deref.ensures.value ∙ long ∙ ap length (sym c.deref-2.ensures.value)

pub returns : goal.returns
returns g c =
    let s = state g.S.Store c.args.conn.now in
    let databases = c.args.expected.now.databases.items in
    let listed = c.in-Some.listed.items in
    asks_then _ _ _ _ c.packed_agree.result _ _ _ c.in_ok-listed.ensures.asks c.packed_agree.ensures (λ store told answer value ordered.
    let found : AreBeside listed databases s.now.trees × ListsAgree s.now.trees c.args.expected.now = rw c.in-Some.is at (told ordered) in
    let is = subst (λ (l : List ListedDatabase). IsTrue answer ↔ (HoldsExpected Blocks l databases s.now.trees × HoldsKeysAlone l databases s.now.trees)) c.deref.ensures.value
    (subst (λ (l : List ExpectedDatabase). AreInOrder l → IsTrue answer ↔ (HoldsExpected Blocks c.deref.result.now l s.now.trees × HoldsKeysAlone c.deref.result.now l s.now.trees)) c.deref-2.ensures.value value (λ database here. (ordered.records database here, ordered.postings database here))) in
    let blocks = expected_there s store databases listed found.0.0 found.0.1 Blocks in
    let keys = expected_there s store databases listed found.0.0 found.0.1 Dict in (
      λ h. let both = is.0 h in blocks_expected s store c.args.expected.now ordered listed found.0.0 found.1 (blocks.0 both.0, (keys.0 both.1.0, both.1.1)),
      λ are. let both = blocks_agree s store c.args.expected.now ordered are in is.1 (blocks.1 both.0, (keys.1 both.1.0, both.1.1)),
    ))
