use Rattle.zeb_change.proofs.Cited.{◌≡◌, None, subst, sym, BTreeMap, get, Key, key_order, KeyNotes, Pending, change_in}
use Rattle.zeb_change.proofs.NotedChanges.{absent, behind, noted_by}
use Rattle.zeb_change.proofs.CostLemmas.{ok_so}
use Rattle.zeb_change.proofs.pending.Pending.note.Goals as goal

pub returns-in_ok-more-in-Some : goal.returns-in_ok-more-in-Some
returns-in_ok-more-in-Some c =
    let new : Pending = record { alloc = c.args.self.now.alloc; notes = c.get_mut.follows.lender c.note.new.self; weight = c.saturating_add-self.result; most_weight = c.args.self.now.most_weight } in
    behind _ c.order_is_by_parts.ensures.keys c.args.key.now (change_in c.args.change) c.in-Some.notes.now c.note.new.self c.args.self.now new (sym c.in-Some.ensures.value)
    c.in_ok-more-in-Some.ensures.count c.in_ok-more-in-Some.ensures.words (c.get_mut.follows.holds c.note.new.self)

pub returns-in-None : goal.returns-in-None
returns-in-None c =
    let none = absent _ c.order_is_by_parts.ensures.keys c.args.key.now c.args.self.now (sym c.in-None.ensures.value) in
    let same = c.get_mut.follows.holds-at-none in
    let between : Pending = record { alloc = c.args.self.now.alloc; notes = c.get_mut.follows.lender-at-none; weight = c.args.self.now.weight; most_weight = c.args.self.now.most_weight } in
    ok_so c.note_first.result _ _ (noted_by c.args.key.now (change_in c.args.change) between c.args.self.now c.note_first.new.self (sym same))
    (c.note_first.ensures (subst (λ (m : BTreeMap Key KeyNotes). get key_order m c.args.key.now ≡ None) (sym same) none))
