-- The leaf that is the greatest of those with terms up to a text, and covers keys of that text or all of neighbouring terms.
use Rattle.zeb_leaf_rows.proofs.Cited.{Row, column, row_cmp, Text, ◌≡◌, ◌≢◌, ◌∙◌, ◌++◌, ◌∷◌, ℕ, ℤ, true, false, List, [], Some, refl, sym, ap, arith, Ordering, Less, Equal, Greater, nat_cmp, nat_list_cmp_total, slice_cmp, ordering_then, value_cmp-Text, tied_itself, HasBlockFrom, IsGreatest, IsRest, IsStore, IsUpTo, State, blocks_tree, leaf_key, own_key, Register, register_front}
use Rattle.std.specs.Ordering.{is_lt}
use Rattle.sqlite.specs.Order.{value_cmp}
use Rattle.zeb_keys.proofs.Rising.{texts_apart}
use Rattle.zeb_leaf_rows.proofs.CoveringLeaves.{Leaves, below_up, from_leaf, leaf_shape}
use Rattle.zeb_leaf_rows.specs.LeafRows.{IsOnlyLeaf}
use Rattle.zeb_leaf_rows.specs.PrivateLeafRows.{HasTermBelow}
use Rattle.zeb_register.proofs.BetweenLemmas.{up_to}
use Rattle.zeb_register.proofs.KeyOrder.{key_order}

-- ---- texts

pub less_of : (o : Ordering) → is_lt o ≡ true → o ≡ Less
less_of Less is = refl
less_of Equal is = absurd (cc)
less_of Greater is = absurd (cc)

-- what isn't above a text that is below another, is below that
pub below_then : (t first end : List ℕ) → slice_cmp nat_cmp t first ≢ Greater → is_lt (slice_cmp nat_cmp first end) ≡ true → is_lt (slice_cmp nat_cmp t end) ≡ true
below_then t first end up low = from (slice_cmp nat_cmp t first) refl
  where
    from : (o : Ordering) → slice_cmp nat_cmp t first ≡ o → is_lt (slice_cmp nat_cmp t end) ≡ true
    from Less is = ap is_lt (nat_list_cmp_total.trans t first end is (less_of (slice_cmp nat_cmp first end) low))
    from Equal is = ap (λ u. is_lt (slice_cmp nat_cmp u end)) (texts_apart t first is) ∙ low
    from Greater is = absurd (up is)

pub front_up : (o p : Ordering) → ordering_then o p ≢ Greater → o ≢ Greater
front_up o p up above = up (ap (λ q. ordering_then q p) above)

-- a text is below the least text above another that it isn't above
pub below_above : (term : List ℕ) → is_lt (slice_cmp nat_cmp term (term ++ 0 ∷ [])) ≡ true
below_above term = (up_to term term).1 (ap is_lt (tied_itself nat_list_cmp_total term))

module _ (s : State) (store : IsStore s) (db : ℤ) (index : ℕ) (register : Register) where
  abbrev pub These : Row → Type 0
  These = Leaves s store db index register

  -- a row of the register with a term below the text
  abbrev pub Below : List ℕ → Row → Type 0
  Below text row = IsRest blocks_tree (register_front db index register) s.now.trees row × (is_lt (value_cmp (column row 0) (Text text)) ≡ true) × HasBlockFrom 0 row

  pub leaf_below : (text : List ℕ) (leaf : Row) → These leaf → (t : List ℕ) → column leaf 0 ≡ Text t → is_lt (slice_cmp nat_cmp t text) ≡ true → Below text leaf
  leaf_below text leaf there t is low = (
    there.0,
    ap is_lt (ap (λ v. value_cmp v (Text text)) is ∙ value_cmp-Text t text) ∙ low,
    from_leaf s store db index register leaf 0 there (omega arith),
  )

  -- a leaf up to a key of one text is of the terms below each text above
  pub up_below : (first end : List ℕ) (block : ℕ) → is_lt (slice_cmp nat_cmp first end) ≡ true → (leaf : Row) → These leaf → IsUpTo (leaf_key first block) leaf → Below end leaf
  up_below first end block low leaf there up =
      let it = leaf_shape s store db index register leaf there in
      let order : row_cmp (own_key leaf) (leaf_key first block) ≡ ordering_then (slice_cmp nat_cmp it.0 first) (nat_cmp it.1 block) =
      ap (λ (r : Row). row_cmp (own_key r) (leaf_key first block)) it.3 ∙ key_order it.0 first it.1 block in
      leaf_below end leaf there it.0 (ap (λ (r : Row). column r 0) it.3) (below_then it.0 first end (front_up (slice_cmp nat_cmp it.0 first) (nat_cmp it.1 block) (λ above. up (order ∙ above))) low)

  module _ (first end : List ℕ) (low : is_lt (slice_cmp nat_cmp first end) ≡ true) (leaf : Row) (found : IsGreatest (Below end) (Some leaf)) (own : HasTermBelow first leaf) where
    pub lower : Below first leaf
    lower = (found.0.0, ap is_lt (ap (λ v. value_cmp v (Text first)) own.1 ∙ value_cmp-Text own.0 first) ∙ own.2, found.0.2)

    -- what has a term below the end isn't above the leaf, and so its term is below the first text
    pub alone : (other : Row) → These other → (term : List ℕ) (block : ℕ) → own_key other ≡ leaf_key term block → is_lt (slice_cmp nat_cmp term first) ≡ false → (b : _) → is_lt (slice_cmp nat_cmp term end) ≡ b → is_lt (slice_cmp nat_cmp term end) ≡ false
    alone other there term block own_is from false is = is
    alone other there term block own_is from true is =
        let it = leaf_shape s store db index register leaf (below_up s store db index register end 0 leaf found.0).0 in
        let up = found.1 other (leaf_below end other there term (ap (λ (k : Row). column k 0) own_is) is) in
        let order : row_cmp (own_key other) (own_key leaf) ≡ ordering_then (slice_cmp nat_cmp term it.0) (nat_cmp block it.1) =
        ap (λ (k : Row). row_cmp k (own_key leaf)) own_is ∙ ap (λ (r : Row). row_cmp (leaf_key term block) (own_key r)) it.3 ∙ key_order term it.0 block it.1 in
        let text : Text it.0 ≡ Text own.0 = sym (ap (λ (r : Row). column r 0) it.3) ∙ own.1 in
        let same : it.0 ≡ own.0 = cc in
        let below : is_lt (slice_cmp nat_cmp it.0 first) ≡ true = ap (λ t. is_lt (slice_cmp nat_cmp t first)) same ∙ own.2 in
        let e : true ≡ false = sym (below_then term it.0 first (front_up (slice_cmp nat_cmp term it.0) (nat_cmp block it.1) (λ above. up (order ∙ above))) below) ∙ from in
        absurd (cc)

    pub is_only : IsOnlyLeaf These first end leaf
    is_only = record {
      covers = record {
        is = (below_up s store db index register end 0 leaf found.0).0;
        up_to = (below_up s store db index register first 0 leaf lower).1;
        greatest = λ other there up. found.1 other (up_below first end 0 low other there up);
      };
      alone = λ other there term block own_is from. alone other there term block own_is from (is_lt (slice_cmp nat_cmp term end)) refl;
    }
