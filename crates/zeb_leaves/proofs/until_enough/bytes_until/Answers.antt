-- Each entry is counted, or passed over, or there are enough before it.
use Rattle.zeb_leaves.proofs.Cited.{◌≡◌, ◌∙◌, ap, Entry, ◌++◌, ◌∷◌, [], ℕ, List, true, false, sym, refl, subst, rules, filter, Bool, not, option_map, is_lt, IsUtf8, reaches_first, reaches_more, entry_of, key_cmp, BlockKey, CountUntil, is_own, refused_so}
use Rattle.zeb_leaf.proofs.Numbers.{step_shorter}
use Rattle.zeb_leaves.proofs.WalkedRows.{counted_more, enough_more, noted_from, still_from, stuck_none, told_own, walked_all}
use Rattle.zeb_leaves.proofs.until_enough.bytes_until.Goals as goal

pub loop-reader-init : goal.loop-reader-init
loop-reader-init c = ([], rw c.new-reader.ensures (reaches_first c.args.bytes.now), (refl, refl), λ begun. absurd (let e : false ≡ true = begun in cc))

pub returns-in_err-held : goal.returns-in_err-held
returns-in_err-held c = refused_so _ _ c.from_residual.result c.in_err-held.field-0.0 (search rules) (λ told. stuck_none c.args.bytes.now c.loop-reader.invariant.0 c.loop-reader.reader c.loop-reader.invariant.1 (c.in_err-held.ensures told))

pub is_own_entry-chosen-requires : goal.is_own_entry-chosen-requires
is_own_entry-chosen-requires c = λ begun.
    let step = rw c.in-Some.is at c.in_ok-held.ensures in
    let e = entry_of c.next_entry.new.reader.place.term c.in-Some.held in
    subst (λ (t : List ℕ). is_lt (key_cmp t c.in-Some.held.block c.args.from.term.now c.args.from.block) ≡ false) (sym c.term.ensures) (c.loop-reader.invariant.3 begun e step.follows)

-- the term of an entry of a leaf is text
pub returns-in_err-enough : goal.returns-in_err-enough
returns-in_err-enough c =
    let step = rw c.in-Some.is at c.in_ok-held.ensures in
    refused_so _ _ c.from_residual-in_err-enough.result c.in_err-enough.field-0.0 (search rules) (λ told. absurd (c.in_err-enough.ensures told (subst IsUtf8 (sym c.term-then-not-enough.ensures) step.follows.sound.text)))

pub loop-reader-smaller-then-not-enough : goal.loop-reader-smaller-then-not-enough
loop-reader-smaller-then-not-enough c =
    let step = rw c.in-Some.is at c.in_ok-held.ensures in
    step_shorter c.loop-reader.reader c.next_entry.new.reader _ step

pub loop-reader-preserved-then-not-enough : goal.loop-reader-preserved-then-not-enough
loop-reader-preserved-then-not-enough c =
    let step = rw c.in-Some.is at c.in_ok-held.ensures in
    let done = c.loop-reader.invariant.0 in
    let e = entry_of c.next_entry.new.reader.place.term c.in-Some.held in
    let test = is_own c.args.from.term.now c.args.from.block (option_map (λ (k : BlockKey). (k.term.now, k.block)) c.args.end) in
    let old = c.args.counts.now.items in
    let mid = c.loop-reader.counts.items in
    let new = c.own_until.new.counts.items in
    let enough = c.in_ok-enough.enough in
    let counts = subst (λ (b : Bool). CountUntil c.args.n (filter test done) old mid b) c.if-not-enough.true c.loop-reader.invariant.2 in
    let own = c.is_own_entry-chosen.result in
    let told = c.is_own_entry-chosen.ensures.own ∙ ap (λ (t : List ℕ). test (entry_of t c.in-Some.held)) c.term.ensures in
    let here = subst (λ (t : List ℕ). CountUntil c.args.n (filter (λ _. own) (entry_of t c.in-Some.held ∷ [])) mid new enough) c.term-then-not-enough.ensures c.in_ok-enough.ensures in
    let next = subst (λ (l : List Entry). CountUntil c.args.n l mid new enough) (told_own test e own told) here in
    let noted = c.is_own_entry-chosen.ensures.begun ∙ ap (λ (t : List ℕ). not (is_lt (key_cmp t c.in-Some.held.block c.args.from.term.now c.args.from.block))) c.term.ensures in (
      done ++ e ∷ [],
      reaches_more c.args.bytes.now done c.loop-reader.reader c.next_entry.new.reader e c.loop-reader.invariant.1 step,
      counted_more c.args.n test done e old mid new enough counts next,
      λ begun. noted_from c.args.from.term.now c.args.from.block c.loop-reader.reader c.next_entry.new.reader e c.is_own_entry-chosen.new.begun step noted begun,
    )

pub loop-reader-smaller : goal.loop-reader-smaller
loop-reader-smaller c =
    let step = rw c.in-Some.is at c.in_ok-held.ensures in
    step_shorter c.loop-reader.reader c.next_entry.new.reader _ step

pub loop-reader-preserved : goal.loop-reader-preserved
loop-reader-preserved c =
    let step = rw c.in-Some.is at c.in_ok-held.ensures in
    let done = c.loop-reader.invariant.0 in
    let e = entry_of c.next_entry.new.reader.place.term c.in-Some.held in
    let test = is_own c.args.from.term.now c.args.from.block (option_map (λ (k : BlockKey). (k.term.now, k.block)) c.args.end) in
    let old = c.args.counts.now.items in
    let mid = c.loop-reader.counts.items in
    let enough = subst (λ (b : Bool). CountUntil c.args.n (filter test done) old mid b) c.if-not-enough.false c.loop-reader.invariant.2 in (
      done ++ e ∷ [],
      reaches_more c.args.bytes.now done c.loop-reader.reader c.next_entry.new.reader e c.loop-reader.invariant.1 step,
      subst (λ (b : Bool). CountUntil c.args.n (filter test (done ++ e ∷ [])) old mid b) (sym c.if-not-enough.false) (enough_more c.args.n test done e old mid enough),
      λ begun. still_from c.args.from.term.now c.args.from.block c.loop-reader.reader c.next_entry.new.reader e step (c.loop-reader.invariant.3 begun),
    )

pub returns : goal.returns
returns c =
    let ended = rw c.in_default.is at c.in_ok-held.ensures in
    let done = c.loop-reader.invariant.0 in
    (done, walked_all c.args.bytes.now done c.loop-reader.reader c.loop-reader.invariant.1 ended.0, c.loop-reader.invariant.2)
