-- What calls that read a key answer, by the leaves that they found: the key's term is the first and the last of its neighbours.
use Rattle.zeb_leaves.proofs.Cited.{Row, Has, ◌≡◌, ◌∙◌, ◌+◌, ◌≤◌, ◌++◌, ◌∷◌, ℕ, ℤ, List, [], true, false, refl, sym, ap, subst, inl, inr, arith, Ordering, Less, Equal, Greater, nat_cmp, nat_list_cmp_total, slice_cmp, ordering_reverse, tied_itself, sum_by, Entry, Key, Posting, State, IsStore, Covers, HasMalformedLeaf, IsEntryOf, IsLeafOf, IsPartMalformed, IsUncovered, LacksSum, LeavesCount, SayPart, SaysPart, leaf_key, own_key, sum_by-cons, is_lt, texts_apart, leaf_shape, SayAll, SomeSaysNone, AreSpanLeaves, ShowAllSpans, SomeShowsNoKey, IsBetween, packed_leaves, ListsUnits}
use Rattle.zeb_leaf.specs.declared.entries.Held.{Held}
use Rattle.zeb_leaves.proofs.SaidLists.{list_of_parts}
use Rattle.zeb_leaves.proofs.SpanEntries.{AreHeld, HeldIn, all_spans}
use Rattle.zeb_leaves.proofs.SpanLists.{entry_held, said_of_held}
use Rattle.zeb_leaves.proofs.TermEntries.{HasOwn, own_summed}
use Rattle.zeb_leaves.proofs.OneLeaf.{one_leaf}
use Rattle.zeb_leaves.proofs.OneCover.{covers_itself}

-- ---- one text from itself to itself

pub itself_between : (term : List ℕ) → IsBetween term term term
itself_between term = let tie = ap is_lt (tied_itself nat_list_cmp_total term) in (tie, tie)

only : (term t : List ℕ) → IsBetween term term t → t ≡ term
only term t between = from (slice_cmp nat_cmp t term) refl
  where
    from : (o : Ordering) → slice_cmp nat_cmp t term ≡ o → t ≡ term
    from Less is = let e : true ≡ false = sym (ap is_lt is) ∙ between.0 in absurd (cc)
    from Equal is = texts_apart t term is
    from Greater is =
        let back : slice_cmp nat_cmp term t ≡ Less = nat_list_cmp_total.antisymm term t ∙ ap ordering_reverse is in
        let e : true ≡ false = sym (ap is_lt back) ∙ between.1 in absurd (cc)

-- ---- what is held counts as its entries do

held_sum : (own : List Entry) (held : List Held) → AreHeld own held → sum_by (λ (e : Entry). e.records) own ≡ sum_by (λ (one : Held). one.records) held
held_sum [] held are = sym (ap (sum_by (λ (one : Held). one.records)) are)
held_sum (e ∷ own) held are =
    let first : e.records ≡ are.0.records = ap (λ (d : Entry). d.records) are.2 in
    sum_by-cons (λ (d : Entry). d.records) e own ∙ ap (λ n. n + sum_by (λ (d : Entry). d.records) own) first ∙ ap (λ n. are.0.records + n) (held_sum own are.1 are.4)
    ∙ sym (sum_by-cons (λ (one : Held). one.records) are.0 are.1) ∙ sym (ap (sum_by (λ (one : Held). one.records)) are.3)

-- ---- the calls

-- a leaf that covers a block of the key shows no entries, and so the block is malformed
pub lacking_malformed : (s : State) (db : ℤ) (key : Key) → LacksSum (IsLeafOf s.now.trees db key) key.term → HasMalformedLeaf s.now.trees db key
lacking_malformed s db key lacks = (lacks.0, inl lacks.1)

pub uncovered_lacking : (Leaves : Row → Type 0) (term : List ℕ) → IsUncovered Leaves (leaf_key term 0) → LacksSum Leaves term
uncovered_lacking Leaves term none = (0, inr none)

module _ (s : State) (store : IsStore s) (db : ℤ) (key : Key) where
  abbrev Leaves : Row → Type 0
  Leaves = IsLeafOf s.now.trees db key

  -- an entry of what is held, which says nothing, or something else than is asked
  unsaid : (In : List ℕ → ℕ → Type 0) (held : List Held) (it : HeldIn Leaves In held) → ((t : List ℕ) (b : ℕ) → In t b → t ≡ key.term) → SomeSaysNone held → (b : ℕ) × In key.term b × IsPartMalformed Leaves key.term b
  unsaid In held it only_term bad =
      let found = entry_held it.own held it.are bad.0 bad.1 in
      let e = found.0 in
      let known = (it.has.each e).0 found.1 in
      let same : e.term ≡ key.term = only_term e.term e.block known.0 in
      let of : IsEntryOf Leaves key.term e = subst (λ t. IsEntryOf Leaves t e) same known.1 in
      let bad_part = λ (part : List Posting) (say : SayPart of.2 key.term e.block part).
      let says = say.said e of.5 (of.0, refl) in
      let own = subst (λ (d : Entry). SaysPart d part) found.2 says in
      bad.2 part (own.spelled, own.counted) in
      (e.block, subst (λ t. In t e.block) same known.0, inr (of.1, of.2, of.3, of.4, bad_part))

  -- what is held of the key's blocks that are In
  own_of : (In : List ℕ → ℕ → Type 0) (held : List Held) (it : HeldIn Leaves In held) → ((t : List ℕ) (b : ℕ) → In t b → t ≡ key.term) → HasOwn Leaves key.term (In key.term) it.own
  own_of In held it only_term = record {
    whole = λ block is. it.has.whole key.term block is;
    rising = it.has.rising;
    each = λ e. (
      λ h.
          let known = (it.has.each e).0 h in
          let same = only_term e.term e.block known.0 in
          (subst (λ t. In t e.block) same known.0, subst (λ t. IsEntryOf Leaves t e) same known.1),
      λ h. (it.has.each e).1 (subst (λ t. In t e.block) (sym h.1.0) h.0, subst (λ t. IsEntryOf Leaves t e) (sym h.1.0) h.1),
    );
  }

  module _ (rows : List Row) (are : AreSpanLeaves Leaves key.term key.term rows) where
    pub unread_lacking : SomeShowsNoKey rows → LacksSum Leaves key.term
    unread_lacking bad = by rows are bad.1
      where
        at_block : (b : ℕ) → Covers Leaves (leaf_key key.term b) bad.0 → LacksSum Leaves key.term
        at_block b covers = elim bad.2 [
          | inl none ↦ (b, inl (bad.0, covers, none))
          | inr none ↦ let it = leaf_shape s store db key.index key.register bad.0 covers.is in absurd (none it.0 it.1 (ap own_key it.3))
        ]

        by : (rows : List Row) → AreSpanLeaves Leaves key.term key.term rows → Has rows bad.0 → LacksSum Leaves key.term
        by [] none here = absurd here
        by (row ∷ rows) are (inl same) = at_block 0 (subst (Covers Leaves (leaf_key key.term 0)) (sym same) are.0)
        by (row ∷ rows) are (inr later) =
            let is = (are.1.each bad.0).0 later in
            let own : own_key bad.0 ≡ leaf_key key.term is.2 = is.3 ∙ ap (λ t. leaf_key t is.2) (only key.term is.1 is.4) in
            at_block is.2 (covers_itself Leaves (leaf_shape s store db key.index key.register) (one_leaf s store db key.index key.register) bad.0 is.0 key.term is.2 own)

    module _ (held : List Held) (shows : ShowAllSpans (key.term ++ 0 ∷ []) key.term rows held) where
      abbrev Here : List ℕ → ℕ → Type 0
      Here t b = IsBetween key.term key.term t

      it : HeldIn Leaves Here held
      it = all_spans Leaves (leaf_shape s store db key.index key.register) (one_leaf s store db key.index key.register) key.term key.term (itself_between key.term) rows held are shows

      has : HasOwn Leaves key.term (λ b. 0 ≤ b) it.own
      has = let own = own_of Here held it (λ t b is. only key.term t is) in record {
        whole = λ block any. own.whole block (itself_between key.term);
        rising = own.rising;
        each = λ e. (λ h. (omega arith, ((own.each e).0 h).1), λ h. (own.each e).1 (itself_between key.term, h.1));
      }

      pub held_listed : (list : List Posting) → SayAll held list → ListsUnits packed_leaves s.now.trees db key list
      held_listed list say = list_of_parts s.now.trees db key it.own has list (said_of_held it.own held list it.are say)

      pub held_malformed : SomeSaysNone held → HasMalformedLeaf s.now.trees db key
      held_malformed none = let bad = unsaid Here held it (λ t b is. only key.term t is) none in (bad.0, bad.2)

      pub held_counted : (records : ℕ) → records ≡ sum_by (λ (one : Held). one.records) held → LeavesCount s.now.trees db key records
      held_counted records is = own_summed Leaves key.term it.own records has (is ∙ sym (held_sum it.own held it.are))
