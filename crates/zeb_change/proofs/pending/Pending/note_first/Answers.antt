use Rattle.zeb_change.proofs.Cited.{◌≡◌, ◌∙◌, ◌++◌, List, ℕ, ap, arith, subst, sym, Key, Pending, IsNotNoted, IsNotedAlso, change_in, change_words}
use Rattle.zeb_change.proofs.NotedChanges.{first}
use Rattle.zeb_change.proofs.pending.Pending.note_first.Goals as goal

pub returns : goal.returns
returns c none =
    let change = change_in c.args.change in
    let copy = c.in_ok-clone.ensures.cases in
    let same : c.in_ok-clone.field-0 ≡ c.args.key.now = λ i. record { index = copy.0 i; register = copy.1.0 i; term = copy.1.1 i } in
    let one : c.note.new.self.count ≡ 1 = omega (arith, c.in_ok-more.ensures.count, c.new-notes.ensures.0) in
    let words = c.in_ok-more.ensures.words ∙ ap (λ (l : List ℕ). l ++ change_words change) c.new-notes.ensures.1 in
    let new : Pending = record { alloc = c.args.self.now.alloc; notes = c.insert.new.self; weight = c.saturating_add-self.result; most_weight = c.args.self.now.most_weight } in
    subst (λ (k : Key). IsNotedAlso k change c.args.self.now new) same
    (first _ c.order_is_by_parts.ensures.keys c.in_ok-clone.field-0 change c.note.new.self c.args.self.now new
    (subst (λ (k : Key). IsNotNoted k c.args.self.now) (sym same) none) one words c.in_ok-insert.ensures.entries c.in_ok-insert.ensures.updates)
