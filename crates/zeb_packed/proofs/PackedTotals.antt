-- What a packed register holds in sum: the list of each term, read block by block.
use Rattle.zeb_packed.proofs.Cited.{◌≡◌, ◌∙◌, ◌+◌, ◌<◌, ℕ, ℤ, List, [], ◌∷◌, ◌++◌, length, get_or, map, take, refl, sym, ap, ap₂, subst, inl, inr, Less, nat_cmp, arith, length-append, tied_itself, length-map, take_more, sum_by-cons, slice_cmp, nat_list_cmp_total, sum_by, ordering_then, Trees, Has, all_has, has_either, has_left, has_right, has_mapped, mapped_has, Posting, Register, TermCount, packed_blocks, places_in, posting_at, posting_cmp, Spot, spot_cmp, capped, key_in, term_cmp, ListsUnits, one_reading, place_in, spot_total, joined_rises, strictly_mapped, placed_at, AreListed, ListsAll, SumsUp, Rises, blocks_of}
use Rattle.std.specs.List.Sorted.{IsStrictlySortedBy}
use Rattle.zeb_register.specs.declared.registers.Totals.{Totals}

-- ---- the places of all terms, one term after the other

placed : List ℕ → List Posting → List Spot
placed term list = map (λ (p : Posting). (term, p)) list

-- of these terms and their lists
spots_in : List TermCount → List (List Posting) → List Spot
spots_in (t ∷ ts) (l ∷ ls) = placed t.term l ++ spots_in ts ls
spots_in (t ∷ ts) [] = []
spots_in [] ls = []

placed_from : (term : List ℕ) (list : List Posting) (s : Spot) → Has (placed term list) s → (s.0 ≡ term) × Has list s.1
unfolding placed
placed_from term list s h =
    let p = has_mapped (λ (q : Posting). (term, q)) list s h in
    (ap (λ (x : Spot). x.0) p.2, subst (Has list) (sym (ap (λ (x : Spot). x.1) p.2)) p.1)

placed_has : (term : List ℕ) (list : List Posting) (p : Posting) → Has list p → Has (placed term list) (term, p)
unfolding placed
placed_has term list p h = mapped_has (λ (q : Posting). (term, q)) list p h

placed_many : (term : List ℕ) (list : List Posting) → length (placed term list) ≡ length list
unfolding placed
placed_many term list = length-map list (λ (q : Posting). (term, q))

placed_rises : (term : List ℕ) (list : List Posting) → IsStrictlySortedBy posting_cmp list → IsStrictlySortedBy spot_cmp (placed term list)
unfolding placed
placed_rises term list up =
    strictly_mapped posting_cmp spot_cmp (λ (q : Posting). (term, q)) list (λ p q here there less. ap (λ o. ordering_then o (posting_cmp p q)) (tied_itself nat_list_cmp_total term) ∙ less) up

pub lists_summed : (f : List Posting → ℕ) (ls : List (List Posting)) (l : List Posting) → sum_by f (ls ++ l ∷ []) ≡ sum_by f ls + f l
lists_summed f [] l = omega (arith, sum_by-cons f l [])
lists_summed f (k ∷ ls) l = omega (arith, sum_by-cons f k (ls ++ l ∷ []), sum_by-cons f k ls, lists_summed f ls l)

module _ (trees : Trees) (db : ℤ) (index : ℕ) (register : Register) where
  abbrev Listed : List TermCount → List (List Posting) → Type 0
  Listed = AreListed packed_blocks trees db index register

  abbrev IsList : List ℕ → List Posting → Type 0
  IsList term list = ListsUnits packed_blocks trees db (key_in index register term) list

  -- with one term more
  listed_more : (ts : List TermCount) (ls : List (List Posting)) (t : TermCount) (l : List Posting) → Listed ts ls → IsList t.term l → Listed (ts ++ t ∷ []) (ls ++ l ∷ [])
  listed_more [] [] t l are is = (is, tt)
  listed_more [] (k ∷ ls) t l are is = absurd are
  listed_more (u ∷ ts) [] t l are is = absurd are
  listed_more (u ∷ ts) (k ∷ ls) t l are is = (are.0, listed_more ts ls t l are.1 is)

  pub lists_more : (items : List TermCount) (i : ℕ) (item : TermCount) → i < length items → item ≡ get_or items i item → (ls : List (List Posting)) (l : List Posting) → Listed (take i items) ls → IsList item.term l
      → Listed (take (i + 1) items) (ls ++ l ∷ [])
  lists_more items i item within is ls l are own =
      subst (λ ts. Listed ts (ls ++ l ∷ [])) (sym (take_more items i item within ∙ ap (λ t. take i items ++ t ∷ []) (sym is))) (listed_more (take i items) ls item l are own)

  list_there : (ts : List TermCount) (ls : List (List Posting)) → Listed ts ls → (t : TermCount) → Has ts t → (l : List Posting) × IsList t.term l × ((p : Posting) → Has l p → Has (spots_in ts ls) (t.term, p))
  unfolding spots_in
  list_there [] ls are t here = absurd here
  list_there (u ∷ ts) [] are t here = absurd are
  list_there (u ∷ ts) (k ∷ ls) are t (inl same) =
      (k, subst (λ (v : TermCount). IsList v.term k) (sym same) are.0, λ p h. has_left (placed u.term k) (spots_in ts ls) (t.term, p) (subst (λ (v : TermCount). Has (placed v.term k) (t.term, p)) same (placed_has t.term k p h)))
  list_there (u ∷ ts) (k ∷ ls) are t (inr later) =
      let it = list_there ts ls are.1 t later in
      (it.0, it.1, λ p h. has_right (placed u.term k) (spots_in ts ls) (t.term, p) (it.2 p h))

  spots_from : (ts : List TermCount) (ls : List (List Posting)) → Listed ts ls → (s : Spot) → Has (spots_in ts ls) s → (t : TermCount) × (l : List Posting) × Has ts t × (t.term ≡ s.0) × IsList t.term l × Has l s.1
  unfolding spots_in
  spots_from [] ls are s h = absurd h
  spots_from (t ∷ ts) [] are s h = absurd h
  spots_from (t ∷ ts) (l ∷ ls) are s h = elim (has_either (placed t.term l) (spots_in ts ls) s h) [
    | inl first ↦ let it = placed_from t.term l s first in (t, l, inl refl, sym it.0, are.0, it.1)
    | inr later ↦ let it = spots_from ts ls are.1 s later in (it.0, it.1, inr it.2, it.3, it.4, it.5)
  ]

  spots_rise : (ts : List TermCount) (ls : List (List Posting)) → Listed ts ls → IsStrictlySortedBy term_cmp ts → IsStrictlySortedBy spot_cmp (spots_in ts ls)
  unfolding spots_in IsStrictlySortedBy
  spots_rise [] ls are up = tt
  spots_rise (t ∷ ts) [] are up = tt
  spots_rise (t ∷ ts) (l ∷ ls) are up =
      joined_rises spot_total (placed t.term l) (spots_in ts ls) (placed_rises t.term l are.0.rising) (spots_rise ts ls are.1 up.1) (λ a b here there.
      let first = placed_from t.term l a here in
      let u = spots_from ts ls are.1 b there in
      let low : slice_cmp nat_cmp t.term u.0.term ≡ Less = all_has (λ v. term_cmp t v ≡ Less) ts u.0 up.0 u.2 in
      let less : slice_cmp nat_cmp a.0 b.0 ≡ Less = ap₂ (slice_cmp nat_cmp) first.0 (sym u.3) ∙ low in
      ap (λ o. ordering_then o (posting_cmp a.1 b.1)) less)

  spots_many : (ts : List TermCount) (ls : List (List Posting)) → Listed ts ls → length (spots_in ts ls) ≡ sum_by length ls
  unfolding spots_in
  spots_many [] [] are = refl
  spots_many [] (l ∷ ls) are = absurd are
  spots_many (t ∷ ts) [] are = absurd are
  spots_many (t ∷ ts) (l ∷ ls) are =
      omega (arith, sum_by-cons (λ (k : List Posting). length k) l ls, length-append (placed t.term l) (spots_in ts ls), placed_many t.term l, spots_many ts ls are.1)

  -- the terms and their lists sum up
  pub sums_up : (ts : List TermCount) (ls : List (List Posting)) → ListsAll packed_blocks trees db index register ts → Listed ts ls → (totals : Totals) → totals.terms ≡ capped (length ts) → totals.occurrences ≡ capped (sum_by length ls)
      → SumsUp packed_blocks trees db index register totals
  sums_up ts ls all are totals many some = record {
    all = ts;
    are = all;
    terms = many;
    whole = λ t h. (list_there ts ls are t h).1.whole;
    spots = spots_in ts ls;
    rising = spots_rise ts ls are all.rising;
    under = λ spot h. let it = spots_from ts ls are spot h in (it.0, it.2, it.3);
    told = λ t h sysno places reads place. (
      λ there.
          let it = spots_from ts ls are (t.term, posting_at sysno place) there in
          let own : IsList t.term it.1 = subst (λ u. IsList u it.1) it.3 it.4 in
          subst (λ l. Has l place) (one_reading trees db (key_in index register t.term) sysno (places_in sysno it.1) places (own.units sysno) reads) (place_in it.1 (posting_at sysno place) it.5),
      λ there.
          let it = list_there ts ls are t h in
          it.2 (posting_at sysno place) (placed_at sysno it.0 place (subst (λ l. Has l place) (one_reading trees db (key_in index register t.term) sysno places (places_in sysno it.0) reads (it.1.units sysno)) there)),
    );
    occurrences = some ∙ ap capped (sym (spots_many ts ls are));
  }

  -- ---- on the way through the terms

  -- the terms are all of the register; the lists of those that were gone over have so many postings in sum, and their blocks were counted
  pub record AreGoneOver (terms over : List TermCount) (occurrences old new : ℕ) : Type 0 where
    pub all : ListsAll packed_blocks trees db index register terms
    pub lists : List (List Posting)
    pub listed : Listed over lists
    pub postings : occurrences ≡ capped (sum_by length lists)
    pub blocks : Rises (sum_by blocks_of lists) old new
