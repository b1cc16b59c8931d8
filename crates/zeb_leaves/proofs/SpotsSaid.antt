-- What rising entries say, place by place, term by term.
use Rattle.zeb_leaves.proofs.Cited.{Row, Trees, Has, all_has, has_either, has_left, has_right, has_mapped, mapped_has, ◌≡◌, ◌↔◌, ◌∙◌, ◌+◌, ◌<◌, ◌++◌, ◌∷◌, ℕ, List, [], length, length-append, length-map, map, refl, sym, ap, ap₂, subst, inl, inr, arith, Ordering, Less, Equal, Greater, nat_cmp, nat_list_cmp_total, slice_cmp, ordering_then, tied_itself, Entry, Posting, Place, TermCount, entry_cmp, joined_rises, posting_cmp, places_in, State, IsEntryOf, IsLeafIn, IsStore, SaysPart, key_in, place_in, same_list, get_or, take, take_more, SayParts, AreLeavesFrom, CountAll, HideAllOwns, IsNoText, SayMany, SaysNone, ShowAllOwns, placed_at, one_unit, entries_total, one_said, spot_total, same_bytes, strictly_mapped, posting_at, packed_leaves, Spot, capped, spot_cmp, HidesSums, ListsAll, SumsUp, ListsUnits, RegisterOf}
use Rattle.std.specs.List.Sorted.{IsStrictlySortedBy}
use Rattle.zeb_leaves.proofs.CountedTerms.{Counted, all_counted}
use Rattle.zeb_leaves.proofs.SaidLists.{list_of_parts, lower_block, near, posting_in, posting_of}
use Rattle.zeb_leaves.proofs.SpanEntries.{HasOwnIn}
use Rattle.zeb_leaves.proofs.SpanLists.{all_parts, its, its_has, own_term}
use Rattle.zeb_leaves.proofs.TermsTold.{Own, all_listed, all_own, entry_counts, from_least, hidden_term, lacks_hides, some_hidden}
use Rattle.zeb_leaves.proofs.OwnLeaves.{FromText, IsHidden}
use Rattle.zeb_register.proofs.PackedLists.{posting_lower}
use Rattle.zeb_register.specs.declared.registers.Totals.{Totals}

-- ---- the places of one term

placed : List ℕ → List Posting → List Spot
placed term list = map (λ (p : Posting). (term, p)) list

placed_from : (term : List ℕ) (list : List Posting) (s : Spot) → Has (placed term list) s → (s.0 ≡ term) × Has list s.1
unfolding placed
placed_from term list s h =
    let p = has_mapped (λ (q : Posting). (term, q)) list s h in
    (ap (λ (x : Spot). x.0) p.2, subst (Has list) (sym (ap (λ (x : Spot). x.1) p.2)) p.1)

placed_has : (term : List ℕ) (list : List Posting) (p : Posting) → Has list p → Has (placed term list) (term, p)
unfolding placed
placed_has term list p h = mapped_has (λ (q : Posting). (term, q)) list p h

placed_many : (term : List ℕ) (list : List Posting) → length (placed term list) ≡ length list
unfolding placed
placed_many term list = length-map list (λ (q : Posting). (term, q))

placed_rises : (term : List ℕ) (list : List Posting) → IsStrictlySortedBy posting_cmp list → IsStrictlySortedBy spot_cmp (placed term list)
unfolding placed
placed_rises term list up =
    strictly_mapped posting_cmp spot_cmp (λ (q : Posting). (term, q)) list (λ p q here there less. ap (λ o. ordering_then o (posting_cmp p q)) (tied_itself nat_list_cmp_total term) ∙ less) up

-- ---- those that entries say

record Spots (own : List Entry) (many : ℕ) : Type 0 where
  spots : List Spot
  rising : IsStrictlySortedBy spot_cmp spots
  are_many : length spots ≡ many
  from : (s : Spot) → Has spots s → (e : Entry) × (part : List Posting) × Has own e × SaysPart e part × (e.term ≡ s.0) × Has part s.1
  there : (e : Entry) (part : List Posting) (p : Posting) → Has own e → SaysPart e part → Has part p → Has spots (e.term, p)

-- what an entry says comes before what a greater one says
spot_lower : (e d : Entry) (one two : List Posting) → entry_cmp e d ≡ Less → SaysPart e one → SaysPart d two → (a b : Spot) → a.0 ≡ e.term → Has one a.1 → b.0 ≡ d.term → Has two b.1 → spot_cmp a b ≡ Less
spot_lower e d one two less left right a b first here second there = from (slice_cmp nat_cmp e.term d.term) refl
  where
    terms : slice_cmp nat_cmp a.0 b.0 ≡ slice_cmp nat_cmp e.term d.term
    terms = ap₂ (slice_cmp nat_cmp) first second

    from : (o : Ordering) → slice_cmp nat_cmp e.term d.term ≡ o → spot_cmp a b ≡ Less
    from Less is = ap (λ o. ordering_then o (posting_cmp a.1 b.1)) (terms ∙ is)
    from Greater is = let f : Greater ≡ Less = sym (ap (λ o. ordering_then o (nat_cmp e.block d.block)) is) ∙ less in absurd (cc)
    from Equal is =
        let low = lower_block e d (same_bytes e.term d.term is) less in
        ap (λ o. ordering_then o (posting_cmp a.1 b.1)) (terms ∙ is) ∙ posting_lower a.1 b.1 (omega (arith, low, near e one left a.1 here, near d two right b.1 there))

spots_of : (own : List Entry) (many : ℕ) → IsStrictlySortedBy entry_cmp own → SayMany own many → Spots own many
unfolding IsStrictlySortedBy
spots_of [] many up say = record { spots = []; rising = tt; are_many = sym say; from = λ s h. absurd h; there = λ e part p h says here. absurd h }
spots_of (e ∷ own) many up say =
    let part = say.0 in
    let rest = spots_of own say.1 up.1 say.3 in
    record {
      spots = placed e.term part ++ rest.spots;
      rising = joined_rises spot_total (placed e.term part) rest.spots (placed_rises e.term part say.2.spelled.lies.rising) rest.rising (λ a b here there.
          let first = placed_from e.term part a here in
          let it = rest.from b there in
          spot_lower e it.0 part it.1 (all_has (λ d. entry_cmp e d ≡ Less) own it.0 up.0 it.2) say.2 it.3 a b first.0 first.1 (sym it.4) it.5);
      are_many = omega (arith, length-append (placed e.term part) rest.spots, placed_many e.term part, rest.are_many, say.4);
      from = λ s h. elim (has_either (placed e.term part) rest.spots s h) [
        | inl first ↦ let it = placed_from e.term part s first in (e, part, inl refl, say.2, sym it.0, it.1)
        | inr later ↦ let it = rest.from s later in (it.0, it.1, inr it.2, it.3, it.4, it.5)
      ];
      there = λ d other p h says here. elim h [
        | inl same ↦
            let mine : SaysPart e other = subst (λ (x : Entry). SaysPart x other) same says in
            subst (λ (x : Entry). Has (placed e.term part ++ rest.spots) (x.term, p)) (sym same) (has_left (placed e.term part) rest.spots (e.term, p) (placed_has e.term part p (subst (λ l. Has l p) (one_said e other part mine say.2) here)))
        | inr later ↦ has_right (placed e.term part) rest.spots (d.term, p) (rest.there d other p later says here)
      ];
    }

part_said : (own : List Entry) (many : ℕ) → SayMany own many → (e : Entry) → Has own e → (part : List Posting) × SaysPart e part
part_said [] many say e here = absurd here
part_said (d ∷ own) many say e (inl same) = (say.0, subst (λ (x : Entry). SaysPart x say.0) (sym same) say.2)
part_said (d ∷ own) many say e (inr later) = part_said own say.1 say.3 e later

-- ---- with entries more

pub many_joined : (own more : List Entry) (one two : ℕ) → SayMany own one → SayMany more two → SayMany (own ++ more) (one + two)
many_joined [] more one two say also = subst (SayMany more) (omega (arith, say)) also
many_joined (e ∷ own) more one two say also = (say.0, say.1 + two, say.2, many_joined own more say.1 two say.3 also, omega (arith, say.4))

pub many_taken : (entries : List Entry) (i : ℕ) (e : Entry) (many : ℕ) (part : List Posting) → i < length entries → e ≡ get_or entries i e → SayMany (take i entries) many → SaysPart e part → SayMany (take (i + 1) entries) (many + length part)
many_taken entries i e many part within is say says =
    let here : take (i + 1) entries ≡ take i entries ++ e ∷ [] = take_more entries i e within ∙ ap (λ d. take i entries ++ d ∷ []) (sym is) in
    subst (λ (l : List Entry). SayMany l (many + length part)) (sym here) (many_joined (take i entries) (e ∷ []) many (length part) say (part, 0, says, refl, omega arith))

-- ---- as the sums of a register

module _ (trees : Trees) (at : RegisterOf) where
  -- an entry that says nothing is of a malformed block, and its term has records
  none_hides : (e : Entry) → IsEntryOf (Own trees at) e.term e → SaysNone e → HidesSums packed_leaves trees at.db.0 at.index at.register
  none_hides e of bad = (e.term, inr (λ zero. (let some = entry_counts trees at e of 0 zero in absurd (omega (arith, some))), (e.block, inr (of.1, of.2, of.3, of.4, λ part say. bad part (say.said e of.5 (refl, refl))))))

  pub hidden_sum : (first : List ℕ) (from : ℕ) → IsHidden (Own trees at) SaysNone first from → HidesSums packed_leaves trees at.db.0 at.index at.register
  hidden_sum first from (inl it) = (it.0, inl (lacks_hides trees at it.0 it.1 it.3))
  hidden_sum first from (inr it) = none_hides it.0 it.2 it.3

  module _ (In : List ℕ → ℕ → Type 0) (own : List Entry) (has : HasOwnIn (Own trees at) In own) (every : (t : List ℕ) (b : ℕ) → In t b) (many : ℕ) (say : SayMany own many) where
    its_list : (term : List ℕ) → (list : List Posting) × SayParts (its term own) list
    its_list term = all_parts (its term own) (λ e h. part_said own many say e ((its_has term own e).0 h).0)

    listed : (term : List ℕ) → ListsUnits packed_leaves trees at.db.0 (key_in at.index at.register term) (its_list term).0
    listed term = list_of_parts trees at.db.0 (key_in at.index at.register term) (its term own) (own_term (Own trees at) In own has term (every term)) (its_list term).0 (its_list term).1

    all_spots : Spots own many
    all_spots = spots_of own many has.rising say

    spot_so : (term : List ℕ) (sysno : ℕ) (place : Place) → Has all_spots.spots (term, posting_at sysno place) ↔ Has (places_in sysno (its_list term).0) place
    spot_so term sysno place = (
      λ there.
          let it = all_spots.from (term, posting_at sysno place) there in
          place_in (its_list term).0 (posting_at sysno place) (posting_in (its term own) (its_list term).0 (its_list term).1 it.0 it.1 ((its_has term own it.0).1 (it.2, it.4)) it.3 (posting_at sysno place) it.5),
      λ here.
          let p = posting_at sysno place in
          let it = posting_of (its term own) (its_list term).0 (its_list term).1 p (placed_at sysno (its_list term).0 place here) in
          let mine = (its_has term own it.0).0 it.2 in
          subst (λ (t : List ℕ). Has all_spots.spots (t, p)) mine.1 (all_spots.there it.0 it.1 p mine.0 it.3 it.4),
    )

    pub sums_up : (counts : List TermCount) → Counted own counts → ListsAll packed_leaves trees at.db.0 at.index at.register counts → (totals : Totals) → totals.terms ≡ capped (length counts) → totals.occurrences ≡ capped many → SumsUp packed_leaves trees at.db.0 at.index at.register totals
    sums_up counts counted all totals terms occurrences = record {
      all = counts;
      are = all;
      terms = terms;
      whole = λ t h. (listed t.term).whole;
      spots = all_spots.spots;
      rising = all_spots.rising;
      under = λ spot h. let it = all_spots.from spot h in let t = counted.found it.0 it.2 in (t.0, t.1, t.2 ∙ it.4);
      told = λ t h sysno places reads place.
          let same : places_in sysno (its_list t.term).0 ≡ places = one_unit trees at.db.0 (key_in at.index at.register t.term) sysno (places_in sysno (its_list t.term).0) places ((listed t.term).units sysno) reads in
          subst (λ (l : List Place). Has all_spots.spots (t.term, posting_at sysno place) ↔ Has l place) same (spot_so t.term sysno place);
      occurrences = occurrences ∙ ap capped (sym all_spots.are_many);
    }

-- ---- what a call answers by the leaves that it found

module _ (s : State) (store : IsStore s) (at : RegisterOf) (rows : List Row) (are : AreLeavesFrom (IsLeafIn s.now.trees at) [] rows) where
  pub sums_told : (own also : List Entry) (counts : List TermCount) (many : ℕ) → ShowAllOwns [] rows own → CountAll own [] counts → ShowAllOwns [] rows also → SayMany also many
      → (totals : Totals) → totals.terms ≡ capped (length counts) → totals.occurrences ≡ capped many → SumsUp packed_leaves s.now.trees at.db.0 at.index at.register totals
  sums_told own also counts many shows counted shows_also say totals terms occurrences =
      let one = all_own s store at rows are own shows in
      let two = all_own s store at rows are also shows_also in
      let same : also ≡ own = same_list entries_total also own two.rising one.rising (λ e h. (one.each e).1 ((two.each e).0 h)) (λ e h. (two.each e).1 ((one.each e).0 h)) in
      sums_up s.now.trees at (FromText []) own one (λ t b. from_least t) many (subst (λ (l : List Entry). SayMany l many) same say) counts (all_counted own counts one.rising counted) (all_listed s store at rows are own counts shows counted) totals terms occurrences

  pub sums_hidden : HideAllOwns SaysNone [] rows → HidesSums packed_leaves s.now.trees at.db.0 at.index at.register
  sums_hidden bad = hidden_sum s.now.trees at [] 0 (some_hidden s store at rows are SaysNone bad)

  pub terms_hidden : HideAllOwns IsNoText [] rows → HidesSums packed_leaves s.now.trees at.db.0 at.index at.register
  terms_hidden bad = let it = hidden_term s.now.trees at [] 0 (some_hidden s store at rows are IsNoText bad) in (it.0, inl it.1)
