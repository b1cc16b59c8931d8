-- Each entry is own, or it is passed over.
use Rattle.zeb_leaves.proofs.Cited.{◌≡◌, true, false, subst, ◌∙◌, ◌++◌, ◌∷◌, [], ℕ, List, ap, sym, rules, Entry, filter, not, filter-append, option_map, is_lt, reaches_first, reaches_more, entry_of, key_cmp, BlockKey, is_own, refused_so}
use Rattle.zeb_leaf.proofs.Numbers.{step_shorter}
use Rattle.zeb_leaves.proofs.WalkedRows.{noted_from, stuck_none, told_own, walked_all}
use Rattle.zeb_leaves.proofs.own_entries.entries_in.Goals as goal

pub loop-own-init : goal.loop-own-init
loop-own-init c = ([], rw c.new-reader.ensures (reaches_first c.args.bytes.now), c.new-own.ensures.items, λ begun. absurd (let e : false ≡ true = begun in cc))

pub returns-in_err-held : goal.returns-in_err-held
returns-in_err-held c = refused_so _ _ c.from_residual.result c.in_err-held.field-0.0 (search rules) (λ told. stuck_none c.args.bytes.now c.loop-own.invariant.0 c.loop-own.reader c.loop-own.invariant.1 (c.in_err-held.ensures told))

pub is_own_entry-chosen-requires : goal.is_own_entry-chosen-requires
is_own_entry-chosen-requires c = λ begun.
    let step = rw c.in-Some.is at c.in_ok-held.ensures in
    let e = entry_of c.next_entry.new.reader.place.term c.in-Some.held in
    subst (λ (t : List ℕ). is_lt (key_cmp t c.in-Some.held.block c.args.from.term.now c.args.from.block) ≡ false) (sym c.term.ensures) (c.loop-own.invariant.3 begun e step.follows)

pub loop-own-smaller : goal.loop-own-smaller
loop-own-smaller c =
    let step = rw c.in-Some.is at c.in_ok-held.ensures in
    step_shorter c.loop-own.reader c.next_entry.new.reader _ step

pub loop-own-preserved : goal.loop-own-preserved
loop-own-preserved c =
    let step = rw c.in-Some.is at c.in_ok-held.ensures in
    let done = c.loop-own.invariant.0 in
    let e = entry_of c.next_entry.new.reader.place.term c.in-Some.held in
    let test = is_own c.args.from.term.now c.args.from.block (option_map (λ (k : BlockKey). (k.term.now, k.block)) c.args.end) in
    let told = c.is_own_entry-chosen.ensures.own ∙ ap (λ (t : List ℕ). test (entry_of t c.in-Some.held)) c.term.ensures in
    let put = c.in_ok-push_if_own.ensures ∙ ap (λ (t : List ℕ). c.loop-own.own.items ++ filter (λ _. c.is_own_entry-chosen.result) (entry_of t c.in-Some.held ∷ [])) c.term-in-Some.ensures
    ∙ ap (λ (l : List Entry). c.loop-own.own.items ++ l) (told_own test e c.is_own_entry-chosen.result told) in
    let noted = c.is_own_entry-chosen.ensures.begun ∙ ap (λ (t : List ℕ). not (is_lt (key_cmp t c.in-Some.held.block c.args.from.term.now c.args.from.block))) c.term.ensures in (
      done ++ e ∷ [],
      reaches_more c.args.bytes.now done c.loop-own.reader c.next_entry.new.reader e c.loop-own.invariant.1 step,
      put ∙ ap (λ (l : List Entry). l ++ filter test (e ∷ [])) c.loop-own.invariant.2 ∙ sym (filter-append test done (e ∷ [])),
      λ begun. noted_from c.args.from.term.now c.args.from.block c.loop-own.reader c.next_entry.new.reader e c.is_own_entry-chosen.new.begun step noted begun,
    )

pub returns : goal.returns
returns c =
    let ended = rw c.in_default.is at c.in_ok-held.ensures in
    let done = c.loop-own.invariant.0 in
    (done, walked_all c.args.bytes.now done c.loop-own.reader c.loop-own.invariant.1 ended.0, c.loop-own.invariant.2)
