-- What the columns and the entries tell of the leaf that the row shows.
use Rattle.zeb_leaves.proofs.Cited.{◌≡◌, ◌∙◌, ◌≢◌, ◌≤◌, List, true, false, length, refl, sym, ap, subst, Greater, Has, Entry, entry_cmp, key_in, ShowsEntries, leaf_key, row_cmp, LEAF_BYTES, entry_key, leaf_shown, rest_shown, shown_rises}
use Rattle.std.specs.List.Sorted.{IsStrictlySortedBy}
use Rattle.zeb_leaves.proofs.AgreeingEnds.{is_whole, shown_by, whole_is}
use Rattle.zeb_leaves.proofs.agreeing_rows.whole_leaf.Goals as goal
use Rattle.zeb_leaves.proofs.agreeing_rows.whole_leaf.Goals.{then-not-are_few-via-then-not-are_few, then-not-are_few-via-else-not-are_few+then-not-are_from}

pub returns-in_default-2 : goal.returns-in_default-2
returns-in_default-2 c leaf shows whole =
    let own = c.in-Some.columns in
    let key = key_in own.index own.register own.term.now in
    let none = rw c.in_default-2.is at (c.in_ok-entries.ensures key refl) in
    none leaf.entries (shown_by c.args.row.now key own.block own.bytes.now c.in-Some.ensures leaf shows).2

pub returns-then-not-are_few : goal.returns-then-not-are_few
returns-then-not-are_few c leaf shows whole =
    let own = c.in-Some.columns in
    let key = key_in own.index own.register own.term.now in
    let entries = c.in-Some-2.entries.items in
    let there : ShowsEntries (leaf_shown key own.block own.bytes.now) entries = rw c.in-Some-2.is at (c.in_ok-entries.ensures key refl) in
    let it = whole_is c.args.row.now key own.block own.bytes.now c.in-Some.ensures entries there leaf shows whole in
    elim c.then-not-are_few.branch [
      | then-not-are_few-via-then-not-are_few w ↦
          let yes' = c.are_few.ensures.1 (subst (λ (l : List Entry). 2 ≤ length l → length own.bytes.now ≤ LEAF_BYTES) (sym c.deref.ensures.value) it.0) in
          let e : true ≡ false = sym yes' ∙ w.if-not-are_few.true in cc
      | then-not-are_few-via-else-not-are_few+then-not-are_from w ↦
          let same = w.deref-else-not-are_few.ensures.value in
          let rising = subst (IsStrictlySortedBy entry_cmp) (sym same) (shown_rises (leaf_shown key own.block own.bytes.now) entries there) in
          let yes' = (w.are_from.ensures rising).1 (subst (λ (l : List Entry). (e : Entry) → Has l e → row_cmp (leaf_key own.term.now own.block) (entry_key e) ≢ Greater) (sym same) it.1) in
          let e : true ≡ false = sym yes' ∙ w.if-not-are_from.true in cc
    ]

pub returns : goal.returns
returns c =
    let own = c.in-Some.columns in
    let key = key_in own.index own.register c.new.result in
    let entries = c.in-Some-2.entries.items in
    let term : c.new.result ≡ own.term.now = c.new.ensures ∙ c.in_ok-term.ensures.items in
    let there : ShowsEntries (leaf_shown key own.block own.bytes.now) entries = rw c.in-Some-2.is at (c.in_ok-entries.ensures key term) in
    let row = c.in-Some.ensures ∙ ap (λ t. rest_shown (key_in own.index own.register t) own.block own.bytes.now) (sym term) in
    let rising = subst (IsStrictlySortedBy entry_cmp) (sym c.deref-else-not-are_few.ensures.value) (shown_rises (leaf_shown key own.block own.bytes.now) entries there) in
    let few = subst (λ (l : List Entry). 2 ≤ length l → length own.bytes.now ≤ LEAF_BYTES) c.deref.ensures.value (c.are_few.ensures.0 c.if-not-are_few.false) in
    let from = subst (λ (l : List Entry). (e : Entry) → Has l e → row_cmp (leaf_key own.term.now own.block) (entry_key e) ≢ Greater) c.deref-else-not-are_few.ensures.value ((c.are_from.ensures rising).0 c.if-not-are_from.false) in
    is_whole c.args.row.now key own.block own.bytes.now row entries there few (λ e h above. from e h (ap (λ t. row_cmp (leaf_key t own.block) (entry_key e)) (sym term) ∙ above))
