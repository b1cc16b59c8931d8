-- What calls that read neighbouring terms answer, by the leaves that they found.
use Rattle.zeb_leaves.proofs.Cited.{Row, column, row_cmp, Has, Int, Text, ◌≡◌, ◌≢◌, ◌↔◌, ◌∙◌, ◌<◌, ◌+◌, ◌++◌, ◌∷◌, ℕ, pos, false, true, List, [], Ok, Err, Result, Some, drop, length, refl, sym, ap, subst, inl, inr, arith, Ordering, Less, Equal, Greater, nat_cmp, nat_list_cmp_total, slice_cmp, ordering_reverse, value_cmp-Text, Posting, Entry, State, Covers, IsLeafAt, IsLeafIn, IsStore, IsUncovered, leaf_key, own_key, value_cmp, get_or, drop_more, is_lt, IfOk, Vec, IsOnlyLeaf, IsRowBetween, AreEntriesBetween, SayParts, SayAll, SomeSaysNone, AreSpanLeaves, IsSpanLeaf, ShowAllSpans, ShowSpans, ShowsKey, ShowsSpan, SomeShowsNoKey, up_to, list_so, Answers, IfDamaged, IsBetween, packed_leaves, IsListOf, HasMalformedBetween, ListsBetween, RegFault, RegisterOf}
use Rattle.std.specs.List.Sorted.{IsStrictlySortedBy}
use Rattle.std.specs.declared.alloc.Global.{Global}
use Rattle.zeb_leaf.specs.declared.entries.Held.{Held}
use Rattle.zeb_leaf_rows.proofs.CoveringLeaves.{Leaves, from_leaf, leaf_from, leaf_shape, shape_from}
use Rattle.zeb_leaves.proofs.SpanEntries.{HeldIn, all_spans}
use Rattle.zeb_leaves.proofs.SpanLists.{said_of_held, span_listed, span_unsaid}
use Rattle.zeb_leaves.proofs.SpanRuns.{last_up}
use Rattle.zeb_leaves.proofs.OneLeaf.{one_leaf}
use Rattle.zeb_leaves.proofs.OneCover.{covers_itself}

-- what a row has up to the own key of the next one, and what stands in the rows from there on
pub span_step : (end first : List ℕ) (from : ℕ) (term : List ℕ) (block i : ℕ) (row next : Row) (rows : List Row) (among rest : List Held) → i < length rows → next ≡ get_or rows i next → ShowsKey next term block → ShowsSpan first from term block row among
    → ShowSpans end term block next (drop (i + 1) rows) rest → ShowSpans end first from row (drop i rows) (among ++ rest)
span_step end first from term block i row next rows among rest within is key shows more =
    let here : drop i rows ≡ next ∷ drop (i + 1) rows = drop_more rows i next within ∙ ap (λ r. r ∷ drop (i + 1) rows) (sym is) in
    subst (λ (l : List Row). ShowSpans end first from row l (among ++ rest)) (sym here) (term, block, among, rest, key, shows, more, refl)

-- a row's own key, by its columns
pub key_shown : (row : Row) (term : List ℕ) (block : ℕ) → column row 0 ≡ Text term → column row 1 ≡ Int (pos block) → ShowsKey row term block
key_shown row term block text number = λ i. text i ∷ number i ∷ []

pub no_text : (row : Row) → ((bytes : List ℕ) → column row 0 ≢ Text bytes) → (term : List ℕ) (block : ℕ) → ¬ ShowsKey row term block
no_text row none term block shows = none term (ap (λ (k : Row). column k 0) shows)

pub no_number : (row : Row) → ¬ ((n : ℕ) × (column row 1 ≡ Int (pos n))) → (term : List ℕ) (block : ℕ) → ¬ ShowsKey row term block
no_number row none term block shows = none (block, ap (λ (k : Row). column k 1) shows)

-- the one leaf that has all of neighbouring terms is alone among theirs
one_rises : IsStrictlySortedBy row_cmp []
unfolding IsStrictlySortedBy
one_rises = tt

pub only_spans : (Leaves : Row → Type 0) (first end : List ℕ) (leaf : Row) → IsOnlyLeaf Leaves first end leaf → (last : List ℕ) → end ≡ last ++ 0 ∷ [] → AreSpanLeaves Leaves first last (leaf ∷ [])
only_spans Leaves first end leaf only last is = (
  only.covers,
  record {
    each = λ other. (
      λ here. absurd here,
      λ it.
          let out = only.alone other it.0 it.1 it.2 it.3 it.4.0 in
          let inside = ap (λ e. is_lt (slice_cmp nat_cmp it.1 e)) is ∙ (up_to last it.1).1 it.4.1 in
          let e : true ≡ false = sym inside ∙ out in
          absurd (cc),
    );
    rising = one_rises;
  },
)

-- no text stands between two that fall
never_between : (first last t : List ℕ) → is_lt (slice_cmp nat_cmp last first) ≡ true → IsBetween first last t → ⊥
never_between first last t falls between = from (slice_cmp nat_cmp first t) refl
  where
    low : (o : Ordering) → slice_cmp nat_cmp first t ≡ o → slice_cmp nat_cmp first t ≢ Greater → is_lt (slice_cmp nat_cmp last first) ≡ false
    low o is up = last_up last first t up between.1

    from : (o : Ordering) → slice_cmp nat_cmp first t ≡ o → ⊥
    from Less is = let e : true ≡ false = sym falls ∙ low Less is (λ above. let f : Less ≡ Greater = sym is ∙ above in cc) in cc
    from Equal is = let e : true ≡ false = sym falls ∙ low Equal is (λ above. let f : Equal ≡ Greater = sym is ∙ above in cc) in cc
    from Greater is =
        let back : slice_cmp nat_cmp t first ≡ Less = nat_list_cmp_total.antisymm t first ∙ ap ordering_reverse is in
        let e : true ≡ false = sym (ap is_lt back) ∙ between.0 in cc

module _ (s : State) (store : IsStore s) (at : RegisterOf) where
  abbrev Own : Row → Type 0
  Own = Leaves s store at.db.0 at.index at.register

  row_so : (first last : List ℕ) (row : Row) → IsRowBetween at first (last ++ 0 ∷ []) s.now.trees row ↔ IsSpanLeaf Own first last (λ _. Unit {0}) row
  row_so first last row = (
    λ it.
        let shape = shape_from s store at.db.0 at.index at.register row 0 it.0.0 it.1 in
        let term : column row 0 ≡ Text shape.0 = ap (λ (r : Row). column r 0) shape.3 in
        let low : is_lt (slice_cmp nat_cmp shape.0 first) ≡ false = sym (ap is_lt (ap (λ v. value_cmp v (Text first)) term ∙ value_cmp-Text shape.0 first)) ∙ it.0.1 in
        let high : is_lt (slice_cmp nat_cmp shape.0 (last ++ 0 ∷ [])) ≡ true = sym (ap is_lt (ap (λ v. value_cmp v (Text (last ++ 0 ∷ []))) term ∙ value_cmp-Text shape.0 (last ++ 0 ∷ []))) ∙ it.0.2 in
        (leaf_from s store at.db.0 at.index at.register row 0 it.0.0 it.1, shape.0, shape.1, ap own_key shape.3, (low, (up_to last shape.0).0 high), tt),
    λ it.
        let term : column row 0 ≡ Text it.1 = ap (λ (k : Row). column k 0) it.3 in (
          (
            it.0.0,
            ap is_lt (ap (λ v. value_cmp v (Text first)) term ∙ value_cmp-Text it.1 first) ∙ it.4.0,
            ap is_lt (ap (λ v. value_cmp v (Text (last ++ 0 ∷ []))) term ∙ value_cmp-Text it.1 (last ++ 0 ∷ [])) ∙ (up_to last it.1).1 it.4.1,
          ),
          from_leaf s store at.db.0 at.index at.register row 0 it.0 (omega arith),
        ),
  )

  -- the leaf that covers the first text's first block, and those that a statement lists behind it
  pub found_span : (first end : List ℕ) (leaf : Row) → IsLeafAt (IsLeafIn s.now.trees at) (leaf_key first 0) (Some leaf) → (rows : List Row) → (behind : List Row) × (rows ≡ leaf ∷ behind) × IsListOf (IsRowBetween at first end s.now.trees) behind
      → (last : List ℕ) → end ≡ last ++ 0 ∷ [] → AreSpanLeaves (IsLeafIn s.now.trees at) first last rows
  found_span first end leaf covers rows told last is =
      let ended = subst (λ (t : List ℕ). IsListOf (IsRowBetween at first t s.now.trees) told.0) is told.2 in
      subst (AreSpanLeaves (IsLeafIn s.now.trees at) first last) (sym told.1) (covers, list_so (IsRowBetween at first (last ++ 0 ∷ []) s.now.trees) (IsSpanLeaf Own first last (λ _. Unit {0})) told.0 (row_so first last) ended)

  -- no leaf covers the first text's first block
  pub uncovered_between : (first last : List ℕ) → IsBetween first last first → IsUncovered (IsLeafIn s.now.trees at) (leaf_key first 0) → HasMalformedBetween packed_leaves s.now.trees at first last
  uncovered_between first last known none = (first, known, (0, inl (inr none)))

  module _ (first last : List ℕ) (known : IsBetween first last first) (rows : List Row) (are : AreSpanLeaves (IsLeafIn s.now.trees at) first last rows) where
    -- a row that shows no entries is a leaf that covers a block of one of the terms
    pub unshown_between : SomeShowsNoKey rows → HasMalformedBetween packed_leaves s.now.trees at first last
    unshown_between bad = by rows are bad.1
      where
        at_key : (t : List ℕ) (b : ℕ) → IsBetween first last t → Covers (IsLeafIn s.now.trees at) (leaf_key t b) bad.0 → HasMalformedBetween packed_leaves s.now.trees at first last
        at_key t b between covers = elim bad.2 [
          | inl none ↦ (t, between, (b, inl (inl (bad.0, covers, none))))
          | inr none ↦ let it = leaf_shape s store at.db.0 at.index at.register bad.0 covers.is in absurd (none it.0 it.1 (ap own_key it.3))
        ]

        by : (rows : List Row) → AreSpanLeaves (IsLeafIn s.now.trees at) first last rows → Has rows bad.0 → HasMalformedBetween packed_leaves s.now.trees at first last
        by [] none here = absurd here
        by (row ∷ rows) are (inl same) = at_key first 0 known (subst (Covers (IsLeafIn s.now.trees at) (leaf_key first 0)) (sym same) are.0)
        by (row ∷ rows) are (inr later) =
            let is = (are.1.each bad.0).0 later in
            at_key is.1 is.2 is.4 (covers_itself (IsLeafIn s.now.trees at) (leaf_shape s store at.db.0 at.index at.register) (one_leaf s store at.db.0 at.index at.register) bad.0 is.0 is.1 is.2 is.3)

    module _ (held : List Held) (shows : ShowAllSpans (last ++ 0 ∷ []) first rows held) where
      has : HeldIn (IsLeafIn s.now.trees at) (λ t b. IsBetween first last t) held
      has = all_spans (IsLeafIn s.now.trees at) (leaf_shape s store at.db.0 at.index at.register) (one_leaf s store at.db.0 at.index at.register) first last known rows held are shows

      pub listed_between : (list : List Posting) → SayAll held list → ListsBetween packed_leaves s.now.trees at first last list
      listed_between list say = span_listed s.now.trees at first last held has list say

      pub unsaid_between : SomeSaysNone held → HasMalformedBetween packed_leaves s.now.trees at first last
      unsaid_between none = span_unsaid s.now.trees at first last held has none

      pub said_in_turn : (list : List Posting) → SayAll held list → (own : List Entry) × AreEntriesBetween s.now.trees at first last own × SayParts own list
      said_in_turn list say = (has.own, record { rising = has.has.rising; each = has.has.each }, said_of_held has.own held list has.are say)

  -- where the last text is below the first one, no term stands between
  pub none_listed : (first last : List ℕ) → is_lt (slice_cmp nat_cmp last first) ≡ true → (list : List Posting) → list ≡ [] → ListsBetween packed_leaves s.now.trees at first last list
  none_listed first last falls list none = record {
    lists = λ t. [];
    units = λ t between. absurd (never_between first last t falls between);
    each = λ p. (λ h. absurd (subst (λ (l : List Posting). Has l p) none h), λ h. absurd h.2);
  }

  pub none_in_turn : (first last : List ℕ) → is_lt (slice_cmp nat_cmp last first) ≡ true → (result : Result (Vec Posting Global) RegFault) → Answers (IfDamaged ⊥) (λ (list : Vec Posting Global). list.items ≡ []) result
      → IfOk result (λ (list : Vec Posting Global). (own : List Entry) × AreEntriesBetween s.now.trees at first last own × SayParts own list.items)
  unfolding IsStrictlySortedBy
  none_in_turn first last falls (Ok list) none = ([], record { rising = tt; each = λ e. (λ h. absurd h, λ h. absurd (never_between first last e.term falls h.0)) }, none)
  none_in_turn first last falls (Err fault) none = tt
