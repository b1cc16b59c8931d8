-- The postings of keys, as they are read run by run.
use Rattle.zeb_search.proofs.Cited.{◌≡◌, ◌≤◌, ◌++◌, ◌∷◌, [], ℕ, List, refl, sym, subst, subst₂, inl, inr, length, get_or, Trees, Has, has_either, has_left, has_right, Key, RegisterOf, Posting, Format, key_in, AreKeysIn, HasAll, HidesKeys, IsReachedBy, ListsKeys, Occurs, IsBetween, HasMalformedBetween, ListsBetween, ListsUnits, has_malformed}
use Rattle.zeb_search.proofs.NeighbourLemmas.{HaveEnds, from_first, not_lower, up_to_last}
use Rattle.zeb_search.proofs.OneKey.{one_alone}
use Rattle.zeb_search.proofs.UnitLemmas.{all_listed, all_more, of_list}

module _ (format : Format) (trees : Trees) (of : RegisterOf) where
  abbrev named : List ℕ → Key
  named = key_in of.index of.register

  -- ---- one key

  module _ (IsJoint : Type 0) (keys : List Key) (key : Key) (one : length keys ≡ 1) (is : key ≡ get_or keys 0 key) (are : AreKeysIn of keys) where
    its_key : Has keys key
    its_key = subst (λ (l : List Key). Has l key) (sym (one_alone keys key one is)) (inl refl)

    own : key ≡ named key.term
    own = are.each key its_key

    reached : IsReachedBy format trees of keys IsJoint key.term
    reached = inl (subst (Has keys) own its_key)

    pub one_lists : (list : List Posting) → ListsUnits format trees of.db.0 key list → ListsKeys format trees of keys IsJoint list
    one_lists list lists = record {
      all = λ other here. elim (subst (λ (l : List Key). Has l other) (one_alone keys key one is) here) [
        | inl same ↦ all_listed format trees of.db.0 other list (subst (λ (k : Key). ListsUnits format trees of.db.0 k list) (sym same) lists)
        | inr none ↦ absurd none
      ];
      each = λ p here. (key.term, reached, subst (λ (k : Key). Occurs format trees of.db.0 k p) own (of_list format trees of.db.0 key list lists p here));
    }

    pub one_hides : has_malformed format trees of.db.0 key → HidesKeys format trees of keys IsJoint
    one_hides bad = (key.term, reached, subst (has_malformed format trees of.db.0) own bad)

  -- ---- all between two

  module _ (keys : List Key) (first last : Key) (at : HaveEnds keys first last) (low high : List ℕ) (is_low : low ≡ first.term) (is_high : high ≡ last.term) (many : 2 ≤ length keys) (are : AreKeysIn of keys) where
    between : (key : Key) → Has keys key → IsBetween low high key.term
    between key here =
        subst₂ (λ a b. IsBetween a b key.term) (sym is_low) (sym is_high)
        (not_lower key.term first.term (from_first keys are.rising first last at key here), not_lower last.term key.term (up_to_last keys are.rising first last at key here))

    inside : (term : List ℕ) → IsBetween low high term → IsReachedBy format trees of keys (2 ≤ length keys) term
    inside term it = inr (
      many,
      first,
      last,
      subst (λ (l : List Key). Has l first) (sym at.begins) (inl refl),
      subst (λ (l : List Key). Has l last) (sym at.ends) (has_right at.front (last ∷ []) last (inl refl)),
      subst₂ (λ a b. IsBetween a b term) is_low is_high it,
    )

    pub between_lists : (list : List Posting) → ListsBetween format trees of low high list → ListsKeys format trees of keys (2 ≤ length keys) list
    between_lists list lists = record {
      all = λ key here.
          let it = between key here in
          subst (λ (k : Key). HasAll format trees of.db.0 k list) (sym (are.each key here))
          (all_more format trees of.db.0 (named key.term) (lists.lists key.term) list (λ p there. (lists.each p).1 (key.term, it, there))
          (all_listed format trees of.db.0 (named key.term) (lists.lists key.term) (lists.units key.term it)));
      each = λ p here.
          let it = (lists.each p).0 here in
          (it.0, inside it.0 it.1, of_list format trees of.db.0 (named it.0) (lists.lists it.0) (lists.units it.0 it.1) p it.2);
    }

    pub between_hides : HasMalformedBetween format trees of low high → HidesKeys format trees of keys (2 ≤ length keys)
    between_hides bad = (bad.0, inside bad.0 bad.1, bad.2)

  -- ---- run after run

  pub none_lists : (IsJoint : Type 0) → ListsKeys format trees of [] IsJoint []
  none_lists IsJoint = record { all = λ key none. absurd none; each = λ p none. absurd none }

  module _ (One Both : Type 0) (joined : One → Both) (part whole : List Key) (also : (key : Key) → Has part key → Has whole key) where
    pub reached_more : (term : List ℕ) → IsReachedBy format trees of part One term → IsReachedBy format trees of whole Both term
    reached_more term it = elim it [
      | inl here ↦ inl (also (named term) here)
      | inr within ↦ inr (joined within.0, within.1, within.2, also within.1 within.3, also within.2 within.4, within.5)
    ]

    pub hides_more : HidesKeys format trees of part One → HidesKeys format trees of whole Both
    hides_more bad = (bad.0, reached_more bad.0 bad.1, bad.2)

  pub lists_more : (One Both : Type 0) → (One → Both) → (done run : List Key) (postings list : List Posting) → ListsKeys format trees of done Both postings → ListsKeys format trees of run One list
      → ListsKeys format trees of (done ++ run) Both (postings ++ list)
  lists_more One Both joined done run postings list before here = record {
    all = λ key there. elim (has_either done run key there) [
      | inl old ↦ all_more format trees of.db.0 key postings (postings ++ list) (has_left postings list) (before.all key old)
      | inr new ↦ all_more format trees of.db.0 key list (postings ++ list) (has_right postings list) (here.all key new)
    ];
    each = λ p there. elim (has_either postings list p there) [
      | inl old ↦ (let it = before.each p old in (it.0, reached_more Both Both (λ b. b) done (done ++ run) (has_left done run) it.0 it.1, it.2))
      | inr new ↦ (let it = here.each p new in (it.0, reached_more One Both joined run (done ++ run) (has_right done run) it.0 it.1, it.2))
    ];
  }
