-- An entry more takes the bytes that it takes behind the last term.
use Rattle.zeb_leaf.proofs.Cited.{◌≡◌, ◌<◌, ◌∙◌, [], length, take, slice_index_or, refl, sym, ap, arith, Entry, Place, first_place, last_place, leaf_bytes}
use Rattle.zeb_leaf.specs.Leaves.{entries_bytes, entry_bytes}
use Rattle.zeb_leaf.proofs.Fronts.{front_longer, last_of}
use Rattle.zeb_leaf.proofs.parting.fitting.Goals.{else-count-gt0-via-then-count-gt0+else-len-most, else-count-gt0-via-else-count-gt0}
use Rattle.zeb_leaf.proofs.parting.fitting.Goals as goal

pub loop-count-init : goal.loop-count-init
unfolding entries_bytes
loop-count-init c = let none : length (leaf_bytes []) ≡ 0 = refl in record { taken = omega (arith, none); before = refl; fits = λ two. absurd (omega (arith, two)) }

pub returns-then-len-most-clause-full : goal.returns-then-len-most-clause-full
returns-then-len-most-clause-full c = λ inside.
    let entries = c.args.entries.now in
    let i = c.loop-count.count in
    let e = c.index-entries-count.result in
    let so_far = c.loop-count.invariant in
    let longer = front_longer entries i e inside in
    let same : length (entry_bytes c.loop-count.before.now e) ≡ length (entry_bytes (last_place first_place (take i entries)).term (slice_index_or entries i e)) = λ j. length (entry_bytes (so_far.before j) (c.index-entries-count.is j)) in
    omega (arith, longer, same, c.entry_len.ensures, c.saturating_add-len.ensures, so_far.taken, c.if-len-most.true)

pub loop-count-preserved : goal.loop-count-preserved
loop-count-preserved c =
    let entries = c.args.entries.now in
    let i = c.loop-count.count in
    let e = c.index-entries-count.result in
    let inside : i < length entries = c.loop-count-test.true in
    let so_far = c.loop-count.invariant in
    let longer = front_longer entries i e inside in
    let same : length (entry_bytes c.loop-count.before.now e) ≡ length (entry_bytes (last_place first_place (take i entries)).term (slice_index_or entries i e)) = λ j. length (entry_bytes (so_far.before j) (c.index-entries-count.is j)) in
    record {
      taken = omega (arith, longer, same, c.entry_len.ensures, c.saturating_add-len.ensures, so_far.taken);
      before = c.as_slice-before.ensures ∙ ap (λ (f : Entry). f.term) c.index-entries-count.is ∙ sym (ap (λ (p : Place). p.term) (last_of entries i e inside));
      fits = λ two. elim c.else-count-gt0.branch [
        | else-count-gt0-via-then-count-gt0+else-len-most w ↦ omega (arith, longer, same, c.entry_len.ensures, c.saturating_add-len.ensures, so_far.taken, w.if-len-most.false, c.requires.small)
        | else-count-gt0-via-else-count-gt0 w ↦ absurd (omega (arith, two, w.if-count-gt0.false))
      ];
    }
