-- What the call that puts leaves makes of tables, in a store: it puts the pieces whose changes the leaves' entries have.
use Rattle.zeb_leaves.proofs.Cited.{Row, column, Int, Text, State, Has, ◌≡◌, ◌⊎◌, ◌∙◌, ◌++◌, ◌∷◌, ℕ, ℤ, pos, true, false, List, [], drop, refl, sym, ap, subst, inl, inr, arith, Trees, Entry, Covers, HasRow, IsLeafOf, IsStore, Key, blocks_tree, dict_tree, entry_cmp, key_in, leaf_key, own_key, postings_tree, AreMerged, BlockChange, leaf_shape, AreDistinct, ArePartedFrom, BeginsLeavesOf, ReplacesLeafOf, IfToldPutsEntries, IsLeafWith, PutsEntries, TurnAllEntries, ArePiecesIn, packed_leaves, register_columns, PutsKeys, Changes, KeepsLists, IsTold, KeyChanges, RegisterOf}
use Rattle.std.specs.List.Sorted.{IsStrictlySortedBy}
use Rattle.zeb_register.proofs.Malformed.{key_begins}
use Rattle.zeb_leaves.proofs.MergedSayings.{has_of, of_has, put_at}
use Rattle.zeb_leaves.proofs.OneLeaf.{one_leaf}
use Rattle.zeb_leaves.proofs.PartedLeaves.{key_at, parts_keys}
use Rattle.zeb_leaves.proofs.PieceChanges.{piece_for}
use Rattle.zeb_leaves.proofs.PiecesPut.{first_pieces_put, leaf_pieces_put}
use Rattle.zeb_leaves.proofs.PutTables.{AreAllDistinct, IsCovered, IsLeafBeneath, KeepsBesideLeaves, OwnsEntries}

-- the tables of a store keep one row for each key of a leaf
pub store_distinct : (s : State) → IsStore s → AreAllDistinct s.now.trees
store_distinct s store db key = record { shaped = leaf_shape s store db key.index key.register; one = one_leaf s store db key.index key.register }

-- the entries that are put lie in what the leaf covers
news_within : (trees : Trees) (db : ℤ) (key : Key) (was : Row) (pieces : List KeyChanges) (changes : List BlockChange) (own news : List Entry) → ArePiecesIn key (IsCovered trees db key was) pieces → OwnsEntries (IsLeafOf trees db key) was own
    → TurnAllEntries own pieces changes → AreMerged changes own news → (e : Entry) → Has news e → Covers (IsLeafOf trees db key) (key_at e) was
news_within trees db key was pieces changes own news are owns turned merged e here = elim ((merged.has e).0 (of_has news e here)) [
  | inl old ↦ ((owns.each e).0 (has_of own e old.0)).1
  | inr put ↦
      let at = put_at put.0 e put.2 in
      let it = piece_for own pieces changes turned put.0 (has_of changes put.0 put.1) in
      subst (λ (k : Row). Covers (IsLeafOf trees db key) k was) (λ i. leaf_key ((sym it.2.term ∙ sym at.0) i) ((sym it.2.block ∙ sym at.1) i)) (are.own it.0 it.1)
]

module _ (at : RegisterOf) where
  abbrev key : Key
  key = key_in at.index at.register []

  abbrev Leaves : Trees → Row → Type 0
  Leaves trees = IsLeafOf trees at.db.0 key

  module _ (term : List ℕ) (block : ℕ) where
    -- a row of the register with a key shows a leaf with that key, and a leaf with it stands in such a row
    with_key : (leaf : Row) → IsLeafWith at term (pos block) (register_columns at ++ leaf) → own_key leaf ≡ leaf_key term block
    with_key leaf it i = it.3 i ∷ it.4 i ∷ []

    key_with : (leaf : Row) → own_key leaf ≡ leaf_key term block → IsLeafWith at term (pos block) (register_columns at ++ leaf)
    key_with leaf is = (refl, refl, refl, ap (λ (r : Row). column r 0) is, ap (λ (r : Row). column r 1) is)

    row_beneath : (row : Row) → IsLeafWith at term (pos block) row → IsLeafBeneath at.db.0 key row
    row_beneath row it =
        let begins = key_begins at.db.0 (key_in at.index at.register term) row it.0 it.1 it.2 it.3 in
        (Text term ∷ begins.0, block, begins.1, sym (ap (λ (r : Row). column r 4) begins.1) ∙ it.4)

    told_there : (trees : Trees) (was : Row) → Leaves trees was → own_key was ≡ leaf_key term block → IsTold true (IsLeafWith at term (pos block)) blocks_tree trees
    told_there trees was is own = (register_columns at ++ was, is.0, key_with was own)

    told_none : (trees : Trees) → ((leaf : Row) → ¬ Leaves trees leaf) → IsTold false (IsLeafWith at term (pos block)) blocks_tree trees
    told_none trees none row there with_it =
        let it = row_beneath row with_it in
        none it.0 (subst (HasRow trees blocks_tree) it.2 there, it.1, it.3)

    module _ (a b : Trees) (news : List Entry) (puts : PutsEntries at term block news blocks_tree a b) where
      abbrev first : Row
      first = puts.0

      abbrev more : List Row
      more = puts.1

      -- the new leaves have blocks in their keys
      numbered : (leaf : Row) → Has (first ∷ more) leaf → (n : ℕ) × (column leaf 1 ≡ Int (pos n))
      numbered leaf here = elim (parts_keys (leaf_key term block) first more news puts.2 leaf here) [
        | inl same ↦ (block, ap (λ (r : Row). column r 1) same)
        | inr it ↦ (it.0.block, ap (λ (r : Row). column r 1) it.2)
      ]

      new_leaf : (leaf : Row) → Has (first ∷ more) leaf → Leaves b leaf
      new_leaf leaf here = let n = numbered leaf here in ((puts.3 (register_columns at ++ leaf)).1 (inr (leaf, here, refl)), n.0, n.1)

      -- a leaf is one of them, or an old one with another key
      old_or_new : (leaf : Row) → Leaves b leaf → (Leaves a leaf × ¬ (own_key leaf ≡ leaf_key term block)) ⊎ Has (first ∷ more) leaf
      old_or_new leaf there = elim ((puts.3 (register_columns at ++ leaf)).0 there.0) [
        | inl was ↦ inl ((was.0, there.1, there.2), λ own. was.1 (key_with leaf own))
        | inr one ↦ inr (subst (Has (first ∷ more)) (sym (ap (drop 3) one.2)) one.1)
      ]

      old_stays : (leaf : Row) → Leaves a leaf → ¬ (own_key leaf ≡ leaf_key term block) → Leaves b leaf
      old_stays leaf there other = ((puts.3 (register_columns at ++ leaf)).1 (inl (there.0, λ it. other (with_key leaf it))), there.1, there.2)

      beside : AreAllDistinct a → AreAllDistinct b → (b postings_tree ≡ a postings_tree) × (b dict_tree ≡ a dict_tree) → KeepsLists a b → KeepsBesideLeaves at.db.0 key a b
      beside before after tables lists = record {
        stays = λ row out there. (puts.3 row).1 (inl (there, λ it. out (row_beneath row it)));
        comes = λ row there. elim ((puts.3 row).0 there) [ inl was ↦ inl was.0 | inr one ↦ let n = numbered one.0 one.1 in inr (one.0, n.0, one.2, n.1) ];
        postings = tables.0;
        dict = tables.1;
        lists = lists;
        before = before;
        after = after;
      }

      replaces : (was : Row) → Leaves a was → own_key was ≡ leaf_key term block → IsStrictlySortedBy entry_cmp news → ((e : Entry) → Has news e → Covers (Leaves a) (key_at e) was) → AreDistinct (Leaves a) → AreDistinct (Leaves b) → ReplacesLeafOf a b at.db.0 key was news
      replaces was is own up within before after = record {
        replaces = record {
          is = is;
          rising = up;
          within = within;
          first = first;
          more = more;
          parts = subst (λ (k : Row). ArePartedFrom k first more news) (sym own) puts.2;
          rows = λ leaf. (
            λ there. elim (old_or_new leaf there) [ inl old ↦ inl (old.0, λ same. old.1 (same ∙ own)) | inr new ↦ inr new ],
            λ h. elim h [ inl old ↦ old_stays leaf old.0 (λ same. old.1 (same ∙ sym own)) | inr new ↦ new_leaf leaf new ],
          );
        };
        before = before;
        after = after;
      }

  begins : (a b : Trees) (news : List Entry) → PutsEntries at [] 0 news blocks_tree a b → ((leaf : Row) → ¬ Leaves a leaf) → IsStrictlySortedBy entry_cmp news → AreDistinct (Leaves b) → BeginsLeavesOf b at.db.0 key news
  begins a b news puts none up after = record {
    begins = record {
      rising = up;
      first = puts.0;
      more = puts.1;
      parts = puts.2;
      rows = λ leaf. (
        λ there. elim (old_or_new [] 0 a b news puts leaf there) [ inl old ↦ absurd (none leaf old.0) | inr new ↦ new ],
        λ new. new_leaf [] 0 a b news puts leaf new,
      );
    };
    after = after;
  }

  -- ---- the call

  module _ (s t : State) (store : IsStore s) (then_store : IsStore t) (pieces : List KeyChanges) (changes : List BlockChange) (own news : List Entry) (turned : TurnAllEntries own pieces changes) (merged : AreMerged changes own news) where
    abbrev a : Trees
    a = s.now.trees

    abbrev b : Trees
    b = t.now.trees

    -- each other table is as it was
    others : (P : ℕ → Trees → Trees → Type 0) → Changes blocks_tree P s t → ((b postings_tree ≡ a postings_tree) × (b dict_tree ≡ a dict_tree)) × KeepsLists a b
    others P done = (
      (done.others.1.1.1.0 (λ e. absurd (omega (arith, e))), done.others.1.1.1.1.1.0 (λ e. absurd (omega (arith, e)))),
      (done.others.0 (λ e. absurd (omega (arith, e))), done.others.1.0 (λ e. absurd (omega (arith, e))), done.others.1.1.0 (λ e. absurd (omega (arith, e)))),
    )

    -- in the place of a leaf
    pub leaf_written : (term : List ℕ) (block : ℕ) (was : Row) → Leaves a was → own_key was ≡ leaf_key term block → ArePiecesIn key (IsCovered a at.db.0 key was) pieces → OwnsEntries (Leaves a) was own
        → Changes blocks_tree (IfToldPutsEntries true at term block news) s t → PutsKeys packed_leaves at.db.0 pieces a b
    leaf_written term block was is own_is are owns done =
        let puts = done.rows (told_there term block a was is own_is) in
        let before = store_distinct s store in
        let after = store_distinct t then_store in
        let other = others (IfToldPutsEntries true at term block news) done in
        leaf_pieces_put a b at.db.0 key pieces changes own news (beside term block a b news puts before after other.0 other.1) was are owns turned merged
        (replaces term block a b news puts was is own_is merged.rising (news_within a at.db.0 key was pieces changes own news are owns turned merged) (before at.db.0 key) (after at.db.0 key))

    -- as the first of the register
    pub first_written : ((leaf : Row) → ¬ Leaves a leaf) → ArePiecesIn key (λ term block. Unit {0}) pieces → own ≡ [] → Changes blocks_tree (IfToldPutsEntries false at [] 0 news) s t → PutsKeys packed_leaves at.db.0 pieces a b
    first_written none are is done =
        let puts = done.rows (told_none [] 0 a none) in
        let before = store_distinct s store in
        let after = store_distinct t then_store in
        let other = others (IfToldPutsEntries false at [] 0 news) done in
        first_pieces_put a b at.db.0 key pieces changes own news (beside [] 0 a b news puts before after other.0 other.1) none are is turned merged (begins a b news puts none merged.rising (after at.db.0 key))
