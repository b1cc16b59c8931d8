-- The rows of one record's unit in plain tables: what they read as, and what they are after its places were changed.
use Rattle.zeb_register.proofs.Cited.{AllByRecursion, store_schema, ◌≡◌, ◌≢◌, ◌↔◌, ◌∙◌, ◌++◌, ℕ, ℤ, pos, Bool, true, false, IsTrue, List, [], ◌∷◌, drop, map, refl, sym, ap, ap₂, subst, inl, inr, Ordering, Less, Equal, Greater, ordering_then, Int, Row, column, row_cmp, value_cmp-Int, State, Trees, Has, has_mapped, mapped_has, IsUtf8, Key, Place, place_cmp, posting_at, IsListOf, IsRest, IsStore, Loses, key_row, posting_row, first_two, postings_tree, GainsPlaces, IsPlaceIn, IsTwoNumbers, KeepsBesidePostings, place_row, posting_columns, IsUnderKey, RowsRead, ShowsPosting, TurnsRows}
use Rattle.std.specs.List.Sorted.{IsStrictlySortedBy}
use Rattle.zeb_register.proofs.ContentLemmas.{ints_order, one_list}
use Rattle.zeb_register.proofs.PlaceLemmas.{beside_then, place_front, places_rise}
use Rattle.zeb_register.proofs.PostingStatements.{postings, postings_static}
use Rattle.zeb_register.proofs.RowLemmas.{spread}
use Rattle.zeb_register.proofs.ValueKinds.{code}
use Rattle.zeb_register.proofs.Writes.{codes_there}

-- ---- places in the order of their rows

two_back : (x y : Ordering) → ordering_then x (ordering_then y Equal) ≡ Less → ordering_then x y ≡ Less
two_back Less y h = refl
two_back Greater y h = absurd (cc)
two_back Equal Less h = refl
two_back Equal Equal h = absurd (cc)
two_back Equal Greater h = absurd (cc)

place_back : (p q : Place) → row_cmp (place_row p) (place_row q) ≡ Less → place_cmp p q ≡ Less
place_back p q h =
    two_back _ _ (rw (value_cmp-Int (pos p.seq) (pos q.seq), value_cmp-Int (pos p.pos) (pos q.pos), ints_order p.seq q.seq, ints_order p.pos q.pos) at h)

all_back : (p : Place) (ps : List Place) → AllByRecursion (λ r. row_cmp (place_row p) r ≡ Less) (map place_row ps) → AllByRecursion (λ q. place_cmp p q ≡ Less) ps
all_back p [] h = tt
all_back p (q ∷ ps) h = (place_back p q h.0, all_back p ps h.1)

places_back : (ps : List Place) → IsStrictlySortedBy row_cmp (map place_row ps) → IsStrictlySortedBy place_cmp ps
unfolding IsStrictlySortedBy
places_back [] h = tt
places_back (p ∷ ps) h = (all_back p ps h.0, places_back ps h.1)

shown_again : (places : List Place) → map first_two (map place_row places) ≡ map place_row places
shown_again [] = refl
shown_again (p ∷ places) = ap (λ l. place_row p ∷ l) (shown_again places)

-- ---- the rows of a record, in a store

module _ (s : State) (store : IsStore s) (db : ℤ) (key : Key) (sysno : ℕ) where
  abbrev trees : Trees
  trees = s.now.trees

  abbrev IsOurs : Row → Type 0
  IsOurs = IsRest postings_tree (place_front db key sysno) trees

  -- a row of the key has three columns behind it
  three : (row : Row) → IsUnderKey trees db key row → row ≡ column row 0 ∷ column row 1 ∷ column row 2 ∷ []
  three row there =
      let typed : map code row ≡ 1 ∷ 1 ∷ 1 ∷ [] = ap (drop 5) (codes_there store_schema 3 postings postings_static s (Int there.0 ∷ key_row db key ++ row) store there.1) in
      spread row (1 ∷ 1 ∷ 1 ∷ []) typed

  shown_is : (row : Row) → IsUnderKey trees db key row → (place : Place) → ShowsPosting row (posting_at sysno place) → row ≡ posting_row (posting_at sysno place)
  shown_is row there place shows = three row there ∙ (λ i. shows.0 i ∷ shows.1 i ∷ shows.2 i ∷ [])

  ours_two : (x : Row) → IsOurs x → first_two x ≡ x
  ours_two x there = sym (ap (drop 1) (three (Int (pos sysno) ∷ x) there))

  two_all : (rows : List Row) → ((x : Row) → Has rows x → IsOurs x) → map first_two rows ≡ rows
  two_all [] ours = refl
  two_all (x ∷ rows) ours = ap₂ (λ a b. a ∷ b) (ours_two x (ours x (inl refl))) (two_all rows (λ y h. ours y (inr h)))

  listed : (places : List Place) → RowsRead trees db key sysno places → IsListOf IsOurs (map place_row places)
  listed places reads = record {
    each = λ x. (
      λ h.
          let q = has_mapped place_row places x h in
          let row = reads.there q.0 q.1 in
          subst IsOurs (sym q.2) (subst (IsUnderKey trees db key) (shown_is row.0 row.1 q.0 row.2) row.1),
      λ there.
          let p = reads.shown (Int (pos sysno) ∷ x) (there, refl) in
          let is : x ≡ place_row p.0 = ap (drop 1) (shown_is (Int (pos sysno) ∷ x) there p.0 p.2) in
          subst (Has (map place_row places)) (sym is) (mapped_has place_row places p.0 p.1),
    );
    rising = places_rise places reads.rising;
  }

  module _ (rows : List Row) (places : List Place) (list : IsListOf IsOurs rows) where
    rows_are : RowsRead trees db key sysno places → rows ≡ map place_row places
    rows_are reads = one_list IsOurs rows (map place_row places) list (listed places reads)

    read_as : map first_two rows ≡ map place_row places → RowsRead trees db key sysno places
    read_as same = record {
      rising = places_back places (subst (IsStrictlySortedBy row_cmp) is list.rising);
      shown = λ row of.
          let first : row ≡ Int (pos sysno) ∷ drop 1 row = three row of.0 ∙ ap (λ v. v ∷ column row 1 ∷ column row 2 ∷ []) of.1 ∙ ap (λ (r : Row). Int (pos sysno) ∷ drop 1 r) (sym (three row of.0)) in
          let q = has_mapped place_row places (drop 1 row) (subst (λ l. Has l (drop 1 row)) is ((list.each (drop 1 row)).1 (subst (IsUnderKey trees db key) first of.0))) in
          let whole : row ≡ Int (pos sysno) ∷ place_row q.0 = first ∙ ap (λ (r : Row). Int (pos sysno) ∷ r) q.2 in
          (q.0, q.1, (of.1, ap (λ (r : Row). column r 1) whole, ap (λ (r : Row). column r 2) whole));
      there = λ place here.
          let at = (list.each (place_row place)).0 (subst (λ l. Has l (place_row place)) (sym is) (mapped_has place_row places place here)) in
          (Int (pos sysno) ∷ place_row place, at, (refl, refl, refl));
    }
      where
        is : rows ≡ map place_row places
        is = sym (two_all rows (λ x h. (list.each x).0 h)) ∙ same

    -- an answer on whether the rows show the places, as one on what their unit reads as
    pub reads_told : (answer : Bool) → (answer ≡ true → map first_two rows ≡ map place_row places) → (answer ≡ false → map first_two rows ≢ map place_row places) → IsTrue answer ↔ RowsRead trees db key sysno places
    reads_told true same other = (λ yes'. read_as (same refl), λ reads. refl)
    reads_told false same other = (λ no'. absurd (cc), λ reads. absurd (other refl (ap (map first_two) (rows_are reads) ∙ shown_again places)))

    pub two_numbers : RowsRead trees db key sysno places → (row : Row) → Has rows row → IsTwoNumbers row
    two_numbers reads row here =
        let q = has_mapped place_row places row (subst (λ l. Has l row) (rows_are reads) here) in
        (q.0.seq, q.0.pos, q.2)

-- ---- taken out and put anew

module _ (old mid new : Trees) (db : ℤ) (key : Key) (sysno : ℕ) (were are : List Place) (text : IsUtf8 key.term) (found : RowsRead old db key sysno were) (rising : IsStrictlySortedBy place_cmp are)
    (lost : Loses (IsPlaceIn db key sysno) postings_tree old mid) (left : KeepsBesidePostings old mid) (gained : GainsPlaces db key sysno are mid new) (kept : KeepsBesidePostings mid new) where
  put : RowsRead new db key sysno are
  put = record {
    rising = rising;
    shown = λ row of. elim ((gained (key_row db key ++ row)).0 of.0) [
      | inl was ↦ absurd (((lost (key_row db key ++ row)).0 was).1 (refl, refl, refl, refl, of.1))
      | inr q ↦ let is : row ≡ posting_row (posting_at sysno q.0) = ap (drop 4) q.2 in (q.0, q.1, (of.1, ap (λ (r : Row). column r 1) is, ap (λ (r : Row). column r 2) is))
    ];
    there = λ place here. (posting_row (posting_at sysno place), (gained (posting_columns db key sysno place)).1 (inr (place, here, refl)), (refl, refl, refl));
  }

  pub rows_turned : TurnsRows db key sysno were are old new
  rows_turned = record {
    text = text;
    found = found;
    put = put;
    rows = record {
      stays = λ row out there. (gained row).1 (inl ((lost row).1 (there, out)));
      comes = λ row there. elim ((gained row).0 there) [ inl was ↦ inl ((lost row).0 was) | inr q ↦ inr (q.0, q.2) ];
    };
    others = beside_then old mid new left kept;
  }
