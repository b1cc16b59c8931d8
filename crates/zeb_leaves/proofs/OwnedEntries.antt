-- What a leaf covers: the keys from its own up to that of the next leaf. So its entries between these are those that it covers.
use Rattle.zeb_leaves.proofs.Cited.{Row, row_cmp, ◌≡◌, ◌≢◌, ◌↔◌, ℕ, List, Some, None, Option, sym, ap, subst, inl, inr, Greater, AllByRecursion, all_from, all_has, kept_rises, Entry, IsEntry, entry_cmp, Has, Covers, IsNextBehind, IsUpTo, ShowsEntries, leaf_key, own_key, has_filtered, has_kept, AreDistinct, HidesEnd, EndsLeaf, End, ShowsOwn, is_own, entries_total, shown_rises}
use Rattle.std.specs.List.Sorted.{IsStrictlySortedBy}
use Rattle.zeb_leaves.proofs.OneCover.{up_to_then}
use Rattle.zeb_leaves.proofs.OwnLeaves.{FromKey, Within, own_is}
use Rattle.zeb_leaves.proofs.PartedLeaves.{not_up}
use Rattle.zeb_leaves.proofs.PutTables.{OwnsEntries}
use Rattle.zeb_leaves.proofs.SpanRuns.{below_or}

module _ (Leaves : Row → Type 0) (leaf : Row) (there : Leaves leaf) (first : List ℕ) (from : ℕ) (own_key_is : own_key leaf ≡ leaf_key first from) where
  -- a leaf above it is behind its end
  covers_up : (end : End) → EndsLeaf Leaves leaf end → (t : List ℕ) (b : ℕ) → Within end t b → (other : Row) → Leaves other → IsUpTo (leaf_key t b) other → IsUpTo (own_key leaf) other
  covers_up None ends t b within other is up = ends other is
  covers_up (Some end) ends t b within other is up = elim (ends.4 other is) [
    | inl low ↦ low
    | inr high ↦ absurd (not_up (leaf_key t b) (leaf_key end.0 end.1) within
        (up_to_then (leaf_key end.0 end.1) (own_key other) (leaf_key t b) (subst (λ (k : Row). row_cmp k (own_key other) ≢ Greater) ends.2 high) up))
  ]

  covers_within : (end : End) → EndsLeaf Leaves leaf end → (t : List ℕ) (b : ℕ) → Covers Leaves (leaf_key t b) leaf → Within end t b
  covers_within None ends t b covers = tt
  covers_within (Some end) ends t b covers = elim (below_or (leaf_key t b) (leaf_key end.0 end.1)) [
    | inl less ↦ less
    | inr up ↦ absurd (ends.3 (covers.greatest ends.0 ends.1 (subst (λ (k : Row). row_cmp k (leaf_key t b) ≢ Greater) (sym ends.2) up)))
  ]

  module _ (end : End) (ends : EndsLeaf Leaves leaf end) where
    pub covered_range : (t : List ℕ) (b : ℕ) → Covers Leaves (leaf_key t b) leaf ↔ (FromKey first from t b × Within end t b)
    covered_range t b = (
      λ covers. (subst (λ (k : Row). row_cmp k (leaf_key t b) ≢ Greater) own_key_is covers.up_to, covers_within end ends t b covers),
      λ it. record { is = there; up_to = subst (λ (k : Row). row_cmp k (leaf_key t b) ≢ Greater) (sym own_key_is) it.0; greatest = covers_up end ends t b it.1 },
    )

    pub owns_shown : (own : List Entry) → ShowsOwn first from end leaf own → OwnsEntries Leaves leaf own
    owns_shown own shows = record {
      shown = shows.0;
      shows = shows.1;
      each = λ e. (
        λ h.
            let it = has_filtered (is_own first from end) shows.0 e (subst (λ (l : List Entry). Has l e) shows.2 h) in
            (it.0, (covered_range e.term e.block).1 ((own_is first from end e).0 it.1)),
        λ it. subst (λ (l : List Entry). Has l e) (sym shows.2) (has_kept (is_own first from end) shows.0 e it.0 ((own_is first from end e).1 ((covered_range e.term e.block).0 it.1))),
      );
    }

-- the leaf behind a key shows its own
pub end_shown : (Leaves : Row → Type 0) → AreDistinct Leaves → (key : Row) (next : Option Row) → IsNextBehind Leaves key next → ¬ HidesEnd next
end_shown Leaves distinct key None behind hides = hides
end_shown Leaves distinct key (Some next) behind hides = let it = distinct.shaped next behind.0 in hides it.0 it.1 (ap own_key it.3)

-- ---- the entries that a row shows of some keys

shown_are : (leaf : Row) (entries : List Entry) → ShowsEntries leaf entries → AllByRecursion IsEntry entries
shown_are leaf entries shows = elim shows.2 [ inl is ↦ is.each | inr none ↦ subst (AllByRecursion IsEntry) (sym none.1) tt ]

module _ (leaf : Row) (first : List ℕ) (from : ℕ) (end : End) (own : List Entry) (shows : ShowsOwn first from end leaf own) where
  pub own_rise : IsStrictlySortedBy entry_cmp own
  own_rise = subst (IsStrictlySortedBy entry_cmp) (sym shows.2) (kept_rises entries_total (is_own first from end) shows.0 (shown_rises leaf shows.0 shows.1))

  pub own_are : AllByRecursion IsEntry own
  own_are = all_from IsEntry own (λ e here. all_has IsEntry shows.0 e (shown_are leaf shows.0 shows.1) (has_filtered (is_own first from end) shows.0 e (subst (λ (l : List Entry). Has l e) shows.2 here)).0)
