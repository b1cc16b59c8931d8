-- Each entry stands behind those before it.
use Rattle.zeb_leaf.proofs.Cited.{◌≡◌, ◌<◌, ◌++◌, ◌∷◌, ◌∙◌, [], List, ℕ, Err, length, sym, ap, subst, arith, common_steps, rules, Entry, entry_of, IsLeaf, IsStuck}
use Rattle.zeb_leaf.proofs.Faults.{told_worse}
use Rattle.zeb_leaf.proofs.Numbers.{step_shorter}
use Rattle.zeb_leaf.proofs.Walked.{Reaches, empty_leaf, reaches_end, reaches_first, reaches_more, reaches_stuck}
use Rattle.zeb_leaf.proofs.reading.read_leaf.Goals as goal

pub returns-then-is_empty : goal.returns-then-is_empty
returns-then-is_empty c =
    let none : length c.args.bytes.now ≡ 0 = grind (arith, common_steps) in
    empty_leaf c.args.bytes.now none

pub loop-entries-init : goal.loop-entries-init
loop-entries-init c = rw (c.new-entries.ensures.items, c.new-reader.ensures) (reaches_first c.args.bytes.now)

pub returns-in_err-held : goal.returns-in_err-held
returns-in_err-held c =
    let fault = c.in_err-held.field-0.0 in
    let told : c.from_residual.result ≡ Err fault = search rules in
    rw told (told_worse (IsStuck c.loop-entries.reader) ((list : List Entry) → ¬ IsLeaf c.args.bytes.now list) fault (reaches_stuck c.args.bytes.now c.loop-entries.entries.items c.loop-entries.reader c.loop-entries.invariant) c.in_err-held.ensures.answers)

pub loop-entries-smaller : goal.loop-entries-smaller
loop-entries-smaller c =
    let step = rw c.in-Some.is at c.in_ok-held.ensures.answers in
    step_shorter c.loop-entries.reader c.next.new.self _ step

pub loop-entries-preserved : goal.loop-entries-preserved
loop-entries-preserved c =
    let step = rw c.in-Some.is at c.in_ok-held.ensures.answers in
    let old = c.loop-entries.entries.items in
    let e = entry_of c.next.new.self.place.term c.in-Some.held in
    let more = reaches_more c.args.bytes.now old c.loop-entries.reader c.next.new.self e c.loop-entries.invariant step in
    let same : c.in_ok-entry.entry ≡ e = c.in_ok-entry.ensures ∙ ap (λ (t : List ℕ). entry_of t c.in-Some.held) c.term.ensures in
    let items = c.in_ok-push.ensures.items ∙ ap (λ (f : Entry). old ++ f ∷ []) same in
    subst (λ (list : List Entry). Reaches c.args.bytes.now list c.next.new.self) (sym items) more

pub returns : goal.returns
returns c =
    let some : 0 < length c.args.bytes.now = grind (arith, common_steps) in
    let ended = rw c.in_default.is at c.in_ok-held.ensures.answers in
    reaches_end c.args.bytes.now c.loop-entries.entries.items c.loop-entries.reader c.loop-entries.invariant ended.0 some
