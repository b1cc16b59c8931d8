-- In a store each key of leaves has a number of records or is miscounted: none is neither. The proof refutes that one is neither.
use Rattle.zeb_leaves.proofs.Cited.{Row, column, row_cmp, Int, Has, has_either, has_left, has_right, ◌≡◌, ◌↔◌, ◌∙◌, ◌<◌, ◌≤◌, ◌+◌, ◌++◌, ◌∷◌, ℕ, ℤ, zero, suc, pos, List, [], filter, refl, sym, ap, subst, inl, inr, arith, nat_cmp, nat_eq, slice_cmp, ordering_then, less_is, sum_by, kept_rises, joined_rises, Entry, Key, State, IsStore, AreLeavesMiscounted, Covers, HasEntriesAt, IsEntryOf, IsLeafOf, LacksSum, LeavesCount, SumsRecords, blocks_tree, entry_cmp, leaf_key, own_key, register_front, has_filtered, has_kept, ◌^◌, leaf_shape, entries_total, one_shown, entry_below, leaf_there, shown_rises}
use Rattle.std.proofs.lemmas.Bool.{cases_lt, eq-eqb, eqb-true}
use Rattle.std.specs.List.Sorted.{IsStrictlySortedBy}
use Rattle.zeb_leaves.proofs.OneCover.{entries_at}
use Rattle.zeb_leaves.proofs.OneLeaf.{one_leaf}
use Rattle.zeb_leaves.proofs.SpanLists.{is_of, its, its_has}
use Rattle.zeb_leaves.proofs.TermEntries.{HasOwn, own_summed, shown_entry}
use Rattle.zeb_register.proofs.KeyOrder.{key_order}
use Rattle.zeb_register.proofs.TermRows.{natural_of}

none_rise : IsStrictlySortedBy entry_cmp []
unfolding IsStrictlySortedBy
none_rise = tt

-- ---- a number above the block of each leaf in the table

top : List Row → ℕ
top [] = 0
top (row ∷ rows) = suc (natural_of (column row 5)) + top rows

below_top : (rows : List Row) (row : Row) (block : ℕ) → Has rows row → column row 5 ≡ Int (pos block) → block < top rows
unfolding natural_of top
below_top [] row block here is = absurd here
below_top (r ∷ rows) row block (inl same) is =
    let n : natural_of (column r 5) ≡ block = ap natural_of (ap (λ (x : Row). column x 5) (sym same) ∙ is) in
    omega (arith, n)
below_top (r ∷ rows) row block (inr later) is = omega (arith, below_top rows row block later is)

-- ---- keys that each leaf is up to alike

module _ (Leaves : Row → Type 0) (x y : Row) where
  abbrev AreAlike : Type 0
  AreAlike = (leaf : Row) → Leaves leaf → row_cmp (own_key leaf) x ≡ row_cmp (own_key leaf) y

  covers_as : AreAlike → (leaf : Row) → Covers Leaves x leaf → Covers Leaves y leaf
  covers_as alike leaf covers = record {
    is = covers.is;
    up_to = λ above. covers.up_to (alike leaf covers.is ∙ above);
    greatest = λ other there low. covers.greatest other there (λ above. low (sym (alike other there) ∙ above));
  }

entries_as : (Leaves : Row → Type 0) (x y : Row) → AreAlike Leaves x y → (entries : List Entry) → HasEntriesAt Leaves x entries → HasEntriesAt Leaves y entries
entries_as Leaves x y alike entries at = record {
  shown = λ leaf covers. at.shown leaf (covers_as Leaves y x (λ other there. sym (alike other there)) leaf covers);
  covered = elim at.covered [ inl it ↦ inl (it.0, covers_as Leaves x y alike it.0 it.1) | inr none ↦ inr none ];
}

-- the keys of a term with greater blocks than this one
same_order : (t term : List ℕ) (b n m : ℕ) → b < n → n ≤ m → row_cmp (leaf_key t b) (leaf_key term n) ≡ row_cmp (leaf_key t b) (leaf_key term m)
same_order t term b n m low up =
    let numbers : nat_cmp b n ≡ nat_cmp b m = less_is b n low ∙ sym (less_is b m (omega (arith, low, up))) in
    key_order t term b n ∙ ap (ordering_then (slice_cmp nat_cmp t term)) numbers ∙ sym (key_order t term b m)

-- ---- the entries of a term, where each block of it has some

module _ (Leaves : Row → Type 0) (term : List ℕ) where
  abbrev At : ℕ → Type 0
  At block = (entries : List Entry) × HasEntriesAt Leaves (leaf_key term block) entries

  at_rises : (block : ℕ) (at : At block) → IsStrictlySortedBy entry_cmp at.0
  at_rises block at = elim at.1.covered [ inl it ↦ shown_rises it.0 at.0 (at.1.shown it.0 it.1) | inr none ↦ subst (IsStrictlySortedBy entry_cmp) (sym none.0) none_rise ]

  module _ (whole : (block : ℕ) → At block) where
    own_at : ℕ → List Entry
    own_at n = filter (λ (e : Entry). nat_eq e.block n) (its term (whole n).0)

    own_rises : (n : ℕ) → IsStrictlySortedBy entry_cmp (own_at n)
    unfolding its own_at
    own_rises n = kept_rises entries_total (λ (e : Entry). nat_eq e.block n) (its term (whole n).0) (kept_rises entries_total (is_of term) (whole n).0 (at_rises n (whole n)))

    own_has : (n : ℕ) (e : Entry) → Has (own_at n) e ↔ ((e.block ≡ n) × IsEntryOf Leaves term e)
    unfolding its own_at
    own_has n e = (
      λ h.
          let kept = has_filtered (λ (d : Entry). nat_eq d.block n) (its term (whole n).0) e h in
          let of = (its_has term (whole n).0 e).0 kept.0 in
          let block : e.block ≡ n = eqb-true e.block n kept.1 in
          let at : HasEntriesAt Leaves (leaf_key term e.block) (whole n).0 = subst (λ (b : ℕ). HasEntriesAt Leaves (leaf_key term b) (whole n).0) (sym block) (whole n).1 in
          let it = leaf_there Leaves (leaf_key term e.block) (whole n).0 e of.0 at in
          (block, (of.1, it.0, (whole n).0, it.1, at.shown it.0 it.1, of.0)),
      λ h.
          let is = h.1 in
          let covers : Covers Leaves (leaf_key term n) is.1 = subst (λ (b : ℕ). Covers Leaves (leaf_key term b) is.1) h.0 is.3 in
          let same = one_shown is.1 is.2 (whole n).0 is.4 ((whole n).1.shown is.1 covers) in
          let here : Has (whole n).0 e = subst (λ (l : List Entry). Has l e) same is.5 in
          has_kept (λ (d : Entry). nat_eq d.block n) (its term (whole n).0) e ((its_has term (whole n).0 e).1 (here, is.0)) (eq-eqb e.block n h.0),
    )

    own_below : ℕ → List Entry
    own_below zero = []
    own_below (suc n) = own_below n ++ own_at n

    below_has : (n : ℕ) → HasOwn Leaves term (λ b. b < n) (own_below n)
    unfolding own_below
    below_has zero = record { whole = λ block low. whole block; rising = none_rise; each = λ e. (λ h. absurd h, λ h. absurd (omega (arith, h.0))) }
    below_has (suc n) =
        let before = below_has n in
        record {
          whole = λ block low. whole block;
          rising = joined_rises entries_total (own_below n) (own_at n) before.rising (own_rises n) (λ d e here there.
              let one = (before.each d).0 here in
              let two = (own_has n e).0 there in
              entry_below term d e one.1.0 two.1.0 (omega (arith, one.0, two.0)));
          each = λ e. (
            λ h. elim (has_either (own_below n) (own_at n) e h) [
              | inl here ↦ (let it = (before.each e).0 here in (omega (arith, it.0), it.1))
              | inr there ↦ (let it = (own_has n e).0 there in (omega (arith, it.0), it.1))
            ],
            λ h. elim (cases_lt e.block n) [
              | inl low ↦ has_left (own_below n) (own_at n) e ((before.each e).1 (low, h.1))
              | inr up ↦ has_right (own_below n) (own_at n) e ((own_has n e).1 (omega (arith, up, h.0), h.1))
            ],
          );
        }

    -- all of them, where the blocks of entries are below some number
    summed_below : (n : ℕ) → ((e : Entry) → IsEntryOf Leaves term e → e.block < n) → (records : ℕ) × SumsRecords Leaves term records
    summed_below n few =
        let has = below_has n in
        let all : HasOwn Leaves term (λ b. 0 ≤ b) (own_below n) = record {
          whole = λ block any. whole block;
          rising = has.rising;
          each = λ e. (λ h. (omega arith, ((has.each e).0 h).1), λ h. (has.each e).1 (few e h.1, h.1));
        } in
        (sum_by (λ (e : Entry). e.records) (own_below n), own_summed Leaves term (own_below n) (sum_by (λ (e : Entry). e.records) (own_below n)) all refl)

    summed : (records : ℕ) × SumsRecords Leaves term records
    summed = summed_below (2 ^ 56) (λ e is. (shown_entry is.1 is.2 is.4 e is.5).block)

-- ---- in a store

module _ (s : State) (store : IsStore s) (db : ℤ) (key : Key) where
  abbrev Own : Row → Type 0
  Own = IsLeafOf s.now.trees db key

  abbrev most : ℕ
  most = top (s.now.trees blocks_tree)

  leaf_below : (leaf : Row) (there : Own leaf) → there.1 < most
  leaf_below leaf there = below_top (s.now.trees blocks_tree) (Int there.0.0 ∷ (register_front db key.index key.register ++ leaf)) there.1 there.0.1 there.2

  alike_from : (n m : ℕ) → most ≤ n → n ≤ m → AreAlike Own (leaf_key key.term n) (leaf_key key.term m)
  alike_from n m from up leaf there =
      let it = leaf_shape s store db key.index key.register leaf there in
      let own : own_key leaf ≡ leaf_key it.0 it.1 = ap own_key it.3 in
      let number : Int (pos it.1) ≡ Int (pos there.1) = sym (ap (λ (k : Row). column k 1) own) ∙ there.2 in
      let same : it.1 ≡ there.1 = cc in
      ap (λ (k : Row). row_cmp k (leaf_key key.term n)) own ∙ same_order it.0 key.term it.1 n m (omega (arith, same, from, leaf_below leaf there)) up ∙ sym (ap (λ (k : Row). row_cmp k (leaf_key key.term m)) own)

  module _ (sound : ¬ LacksSum Own key.term) where
    at_block : (block : ℕ) → (At Own key.term block → ⊥) → ⊥
    at_block block none = none ([], record { shown = λ leaf covers. absurd (with_leaf leaf covers.is); covered = inr (refl, with_leaf) })
      where
        with_cover : (leaf : Row) → ¬ Covers Own (leaf_key key.term block) leaf
        with_cover leaf covers = sound (
          block,
          inl (leaf, covers, λ entries shows. none (entries, entries_at Own (leaf_shape s store db key.index key.register) (one_leaf s store db key.index key.register) (leaf_key key.term block) leaf entries covers shows)),
        )

        with_leaf : (leaf : Row) → ¬ Own leaf
        with_leaf leaf there = sound (block, inr (leaf, there, with_cover))

    blocks_below : (n : ℕ) → (((block : ℕ) → block < n → At Own key.term block) → ⊥) → ⊥
    blocks_below zero none = none (λ block low. absurd (omega (arith, low)))
    blocks_below (suc n) none = blocks_below n (λ before. at_block n (λ here. none (λ block low. elim (cases_lt block n) [
      | inl lower ↦ before block lower
      | inr up ↦ subst (At Own key.term) (last n block low up) here
    ])))
      where
        last : (n block : ℕ) → block < suc n → n ≤ block → n ≡ block
        last n block low up = omega (arith, low, up)

    all_blocks : (((block : ℕ) → At Own key.term block) → ⊥) → ⊥
    all_blocks none = blocks_below (suc most) (λ low. none (λ block. elim (cases_lt block (suc most)) [
      | inl lower ↦ low block lower
      | inr up ↦ (
          let at = low most (omega arith) in
          (at.0, entries_as Own (leaf_key key.term most) (leaf_key key.term block) (alike_from most block (omega arith) (omega (arith, up))) at.0 at.1)
          )
    ]))

pub none_uncounted : (s : State) → IsStore s → (db : ℤ) (key : Key) → ¬ ((¬ AreLeavesMiscounted s.now.trees db key) × ((records : ℕ) → ¬ LeavesCount s.now.trees db key records))
none_uncounted s store db key neither = all_blocks s store db key neither.0 (λ whole. let it = summed (IsLeafOf s.now.trees db key) key.term whole in neither.1 it.0 it.1)
