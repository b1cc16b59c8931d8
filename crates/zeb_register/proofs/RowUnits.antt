-- What plain rows say of a key, unit by unit: each has one reading, a malformed one none. What tables hold says each unit.
use Rattle.zeb_register.proofs.Cited.{Row, column, row_cmp, value_cmp-Int, row_cmp_total, State, Trees, Int, Null, all_from, all_has, has_mapped, mapped_has, Has, ◌≡◌, ◌↔◌, ◌∙◌, ℕ, ℤ, pos, List, [], ◌∷◌, ◌++◌, drop, map, refl, sym, ap, ap₂, subst, inl, inr, Ordering, Less, Equal, Greater, nat_cmp, ordering_then, Key, Place, Posting, Content, posting_at, posting_cmp, HoldsRows, key_row, posting_row, first_three, HasRow, IsListOf, IsStore, postings_tree, plain_rows, posted, HasKey, IsCount, places_in, AreAllShown, HasRowIn, HasShownNone, IsRowMalformed, IsUnderKey, RowsCount, RowsRead, ShowsPosting, SomeShowsNone, HoldsUnits, ListsUnits}
use Rattle.std.specs.List.Sorted.{IsStrictlySortedBy}
use Rattle.zeb_register.proofs.ContentChanges.{place_total, postings_apart}
use Rattle.zeb_register.proofs.ContentLemmas.{ints_order, same_posting, told_apart}
use Rattle.zeb_register.proofs.CountLemmas.{count_so, one_count}
use Rattle.zeb_register.proofs.KeyPlaces.{place_in, place_of, placed_at, places_rising}
use Rattle.zeb_register.proofs.OccurringLemmas.{key_posted}
use Rattle.zeb_register.proofs.PostingStatements.{postings, postings_keys, postings_static}
use Rattle.zeb_register.proofs.RisingLists.{never_itself, same_list}
use Rattle.zeb_register.proofs.SharedKeys.{single}

-- ---- a unit has one reading

pub one_posting : (row : Row) (p q : Posting) → ShowsPosting row p → ShowsPosting row q → p ≡ q
one_posting row p q left right =
    let one : Int (pos p.sysno) ≡ Int (pos q.sysno) = sym left.0 ∙ right.0 in
    let two : Int (pos p.seq) ≡ Int (pos q.seq) = sym left.1 ∙ right.1 in
    let three : Int (pos p.pos) ≡ Int (pos q.pos) = sym left.2 ∙ right.2 in
    same_posting p q (λ i. one i ∷ two i ∷ three i ∷ [])

read_also : (trees : Trees) (db : ℤ) (key : Key) (sysno : ℕ) (one two : List Place) → RowsRead trees db key sysno one → RowsRead trees db key sysno two → (place : Place) → Has one place → Has two place
read_also trees db key sysno one two left right place here =
    let row = left.there place here in
    let it = right.shown row.0 (row.1, row.2.0) in
    let same : place ≡ it.0 = ap place_of (one_posting row.0 (posting_at sysno place) (posting_at sysno it.0) row.2 it.2) in
    subst (Has two) (sym same) it.1

pub one_rows_read : (trees : Trees) (db : ℤ) (key : Key) (sysno : ℕ) (one two : List Place) → RowsRead trees db key sysno one → RowsRead trees db key sysno two → one ≡ two
one_rows_read trees db key sysno one two left right =
    same_list place_total one two left.rising right.rising (read_also trees db key sysno one two left right) (read_also trees db key sysno two one right left)

-- and none where it is malformed
pub malformed_rows_unread : (trees : Trees) (db : ℤ) (key : Key) (sysno : ℕ) (places : List Place) → IsRowMalformed trees db key sysno → RowsRead trees db key sysno places → ⊥
malformed_rows_unread trees db key sysno places bad reads = let it = reads.shown bad.0 bad.1 in bad.2 (posting_at sysno it.0) it.2

pub shown_sound : (trees : Trees) (db : ℤ) (key : Key) → AreAllShown trees db key → HasShownNone trees db key → ⊥
shown_sound trees db key all bad = let it = all bad.0 bad.1 in bad.2 it.0 it.1

-- ---- rows in order

-- a row by its first columns
row_is : (row : Row) (p : Posting) → ShowsPosting row p → row ≡ posting_row p ++ drop 3 row
row_is [] p shows = absurd (let e : Null ≡ Int (pos p.sysno) = shows.0 in cc)
row_is (a ∷ []) p shows = absurd (let e : Null ≡ Int (pos p.seq) = shows.1 in cc)
row_is (a ∷ b ∷ []) p shows = absurd (let e : Null ≡ Int (pos p.pos) = shows.2 in cc)
row_is (a ∷ b ∷ c ∷ rest) p shows = λ i. shows.0 i ∷ shows.1 i ∷ shows.2 i ∷ rest

then_three : (a b c d : Ordering) → ordering_then a (ordering_then b (ordering_then c d)) ≡ ordering_then (ordering_then a (ordering_then b c)) d
then_three Less b c d = refl
then_three Greater b c d = refl
then_three Equal Less c d = refl
then_three Equal Greater c d = refl
then_three Equal Equal c d = refl

rows_parted : (p q : Posting) (xs ys : Row) → row_cmp (posting_row p ++ xs) (posting_row q ++ ys) ≡ ordering_then (posting_cmp p q) (row_cmp xs ys)
rows_parted p q xs ys =
    rw (value_cmp-Int (pos p.sysno) (pos q.sysno), value_cmp-Int (pos p.seq) (pos q.seq), value_cmp-Int (pos p.pos) (pos q.pos), ints_order p.sysno q.sysno, ints_order p.seq q.seq, ints_order p.pos q.pos)
    (then_three (nat_cmp p.sysno q.sysno) (nat_cmp p.seq q.seq) (nat_cmp p.pos q.pos) (row_cmp xs ys))

module _ (s : State) (store : IsStore s) (db : ℤ) (key : Key) where
  abbrev Ours : List Row → Type 0
  Ours rows = (row : Row) → Has rows row → IsUnderKey s.now.trees db key row

  -- a posting has one row
  one_row : (x y : Row) (p : Posting) → IsUnderKey s.now.trees db key x → IsUnderKey s.now.trees db key y → ShowsPosting x p → ShowsPosting y p → x ≡ y
  one_row x y p here there left right =
      let a = row_is x p left in
      let b = row_is y p right in
      let front = key_row db key ++ posting_row p in
      let first : HasRow s.now.trees postings_tree (front ++ drop 3 x) = subst (IsUnderKey s.now.trees db key) a here in
      let second : HasRow s.now.trees postings_tree (front ++ drop 3 y) = subst (IsUnderKey s.now.trees db key) b there in
      let same = single 3 postings postings_static ((1 ∷ 2 ∷ 3 ∷ 4 ∷ 5 ∷ 6 ∷ 7 ∷ []) ∷ []) postings_keys s store first.0 second.0 (front ++ drop 3 x) (front ++ drop 3 y) first.1 second.1
      (inl (refl, (refl, (refl, (refl, (refl, (refl, (refl, tt)))))))) (inl (refl, (refl, (refl, (refl, (refl, (refl, (refl, tt)))))))) in
      a ∙ ap (λ (r : Row). posting_row p ++ drop 8 r) same ∙ sym b

  -- of two rows the lower has the lower posting
  lower : (x y : Row) (p q : Posting) → IsUnderKey s.now.trees db key x → IsUnderKey s.now.trees db key y → ShowsPosting x p → ShowsPosting y q → row_cmp x y ≡ Less → posting_cmp p q ≡ Less
  lower x y p q here there left right less = from (posting_cmp p q) refl
    where
      whole : row_cmp x y ≡ ordering_then (posting_cmp p q) (row_cmp (drop 3 x) (drop 3 y))
      whole = ap₂ row_cmp (row_is x p left) (row_is y q right) ∙ rows_parted p q (drop 3 x) (drop 3 y)

      from : (o : Ordering) → posting_cmp p q ≡ o → posting_cmp p q ≡ Less
      from Less is = is
      from Greater is = absurd (let e : Less ≡ Greater = sym less ∙ whole ∙ ap (λ o. ordering_then o (row_cmp (drop 3 x) (drop 3 y))) is in cc)
      from Equal is =
          let one : x ≡ y = one_row x y p here there left (subst (ShowsPosting y) (sym (postings_apart p q is)) right) in
          absurd (never_itself row_cmp_total x (subst (λ (r : Row). row_cmp x r ≡ Less) (sym one) less))

  shows : (row : Row) (p : Posting) → posting_row p ≡ first_three row → ShowsPosting row p
  shows row p same = (sym (ap (λ (r : Row). column r 0) same), sym (ap (λ (r : Row). column r 1) same), sym (ap (λ (r : Row). column r 2) same))

  -- a posting of the list is shown by a row
  showing : (rows : List Row) (list : List Posting) → map posting_row list ≡ map first_three rows → (p : Posting) → Has list p → (row : Row) × Has rows row × ShowsPosting row p
  showing rows list are p here =
      let it = has_mapped first_three rows (posting_row p) (subst (λ l. Has l (posting_row p)) are (mapped_has posting_row list p here)) in
      (it.0, it.1, shows it.0 p it.2)

  list_rises : (rows : List Row) (list : List Posting) → Ours rows → IsStrictlySortedBy row_cmp rows → map posting_row list ≡ map first_three rows → IsStrictlySortedBy posting_cmp list
  unfolding IsStrictlySortedBy
  list_rises rows [] ours up are = tt
  list_rises [] (p ∷ list) ours up are = absurd (cc)
  list_rises (row ∷ rows) (p ∷ list) ours up are =
      let first : posting_row p ≡ first_three row = cc in
      let rest : map posting_row list ≡ map first_three rows = cc in (
        all_from (λ q. posting_cmp p q ≡ Less) list (λ q here.
            let it = showing rows list rest q here in
            lower row it.0 p q (ours row (inl refl)) (ours it.0 (inr it.1)) (shows row p first) it.2 (all_has (λ r. row_cmp row r ≡ Less) rows it.0 up.0 it.1)),
        list_rises rows list (λ r h. ours r (inr h)) up.1 rest,
      )

  module _ (rows : List Row) (list : List Posting) (listed : IsListOf (IsUnderKey s.now.trees db key) rows) (are : map posting_row list ≡ map first_three rows) where
    rows_rise : IsStrictlySortedBy posting_cmp list
    rows_rise = list_rises rows list (λ row here. (listed.each row).0 here) listed.rising are

    shown_posting : (row : Row) → IsUnderKey s.now.trees db key row → (p : Posting) × Has list p × ShowsPosting row p
    shown_posting row there =
        let it = has_mapped posting_row list (first_three row) (subst (λ l. Has l (first_three row)) (sym are) (mapped_has first_three rows row ((listed.each row).1 there))) in
        (it.0, it.1, shows row it.0 (sym it.2))

    rows_read : (sysno : ℕ) → RowsRead s.now.trees db key sysno (places_in sysno list)
    rows_read sysno = record {
      rising = places_rising sysno list rows_rise;
      shown = λ row of.
          let it = shown_posting row of.0 in
          let number : Int (pos it.0.sysno) ≡ Int (pos sysno) = sym it.2.0 ∙ of.1 in
          let same : it.0.sysno ≡ sysno = cc in
          (place_of it.0, subst (λ n. Has (places_in n list) (place_of it.0)) same (place_in list it.0 it.1), subst (λ n. ShowsPosting row (posting_at n (place_of it.0))) same it.2);
      there = λ place here.
          let it = showing rows list are (posting_at sysno place) (placed_at sysno list place here) in
          (it.0, (listed.each it.0).0 it.1, it.2);
    }

    -- the rows of the key, listed and read, say its units
    pub rows_listed : ListsUnits plain_rows s.now.trees db key list
    rows_listed = record {
      rising = rows_rise;
      units = rows_read;
      whole = λ row there. let it = shown_posting row there in (it.0, it.2);
    }

  -- a row of the key that shows no posting is one of the tables
  pub shown_none : (rows : List Row) → IsListOf (IsUnderKey s.now.trees db key) rows → SomeShowsNone rows → HasShownNone s.now.trees db key
  shown_none rows listed bad = (bad.0, (listed.each bad.0).0 bad.1, bad.2)

-- ---- tables that hold a content

module _ (trees : Trees) (content : Content) (holds : HoldsRows trees content) (db : ℤ) (key : Key) where
  pub held_posting : (row : Row) → IsUnderKey trees db key row → (p : Posting) × Has (content db key) p × ShowsPosting row p
  held_posting row there =
      let it = (holds.each (key_row db key ++ row)).0 there in
      let same = told_apart it.0 db it.1 key row (posting_row it.2) it.4 in
      let here : Has (content db key) it.2 = subst (λ k. Has (content db k) it.2) same.1 (subst (λ d. Has (content d it.1) it.2) same.0 it.3) in
      (it.2, here, (ap (λ (r : Row). column r 0) same.2, ap (λ (r : Row). column r 1) same.2, ap (λ (r : Row). column r 2) same.2))

  pub held_shown : AreAllShown trees db key
  held_shown row there = let it = held_posting row there in (it.0, it.2)

  -- each unit reads as the content says
  pub held_rows : (sysno : ℕ) → RowsRead trees db key sysno (places_in sysno (content db key))
  held_rows sysno = record {
    rising = places_rising sysno (content db key) (holds.rising db key);
    shown = λ row of.
        let it = held_posting row of.0 in
        let number : Int (pos it.0.sysno) ≡ Int (pos sysno) = sym it.2.0 ∙ of.1 in
        let same : it.0.sysno ≡ sysno = cc in
        (place_of it.0, subst (λ n. Has (places_in n (content db key)) (place_of it.0)) same (place_in (content db key) it.0 it.1), subst (λ n. ShowsPosting row (posting_at n (place_of it.0))) same it.2);
    there = λ place here.
        let p = posting_at sysno place in
        (posting_row p, (holds.each (key_row db key ++ posting_row p)).1 (db, key, p, placed_at sysno (content db key) place here, refl), (refl, refl, refl));
  }

-- ---- counts

pub one_rows_count : (trees : Trees) (db : ℤ) (key : Key) (a b : ℕ) → RowsCount trees db key a → RowsCount trees db key b → a ≡ b
one_rows_count trees db key a b left right = one_count (HasRowIn trees db key) a b left.count right.count

pub unshown_none : (trees : Trees) (db : ℤ) (key : Key) (records : ℕ) → HasShownNone trees db key → RowsCount trees db key records → ⊥
unshown_none trees db key records bad counts = let it = counts.shown bad.0 bad.1 in bad.2 it.0 it.1

-- ---- plain tables hold a content just where each unit reads as it says, and no row stands beside

module _ (trees : Trees) (content : Content) (holds : HoldsRows trees content) (db : ℤ) (key : Key) where
  has_row_in : (n : ℕ) → HasKey (posted content db) key n ↔ HasRowIn trees db key n
  has_row_in n = (
    λ has.
        let p = (key_posted content db key n).0 has in
        let row = (held_rows trees content holds db key p.0.sysno).there (place_of p.0) (place_in (content db key) p.0 p.1) in
        (row.0, (row.1, row.2.0 ∙ ap (λ (m : ℕ). Int (pos m)) p.2)),
    λ it.
        let p = held_posting trees content holds db key it.0 it.1.0 in
        let number : Int (pos p.0.sysno) ≡ Int (pos n) = sym p.2.0 ∙ it.1.1 in
        (key_posted content db key n).1 (p.0, p.1, (let e : p.0.sysno ≡ n = cc in e)),
  )

  -- a key's count is the content's
  pub count_of_rows : (records : ℕ) → RowsCount trees db key records → IsCount (HasKey (posted content db) key) records
  count_of_rows records counts = count_so (HasRowIn trees db key) (HasKey (posted content db) key) records (λ n. ((has_row_in n).1, (has_row_in n).0)) counts.count

pub rows_by_units : (trees : Trees) (content : Content) → HoldsRows trees content → HoldsUnits plain_rows trees content
rows_by_units trees content holds = record {
  rising = holds.rising;
  units = held_rows trees content holds;
  counts = λ db key records is. record {
    count = count_so (HasKey (posted content db) key) (HasRowIn trees db key) records (has_row_in trees content holds db key) is;
    shown = held_shown trees content holds db key;
  };
  alone = record {
    postings = λ row there. let it = (holds.each row).0 there in (it.0, it.1, it.2, it.4);
    alone = holds.alone;
  };
}

pub units_by_rows : (trees : Trees) (content : Content) → HoldsUnits plain_rows trees content → HoldsRows trees content
units_by_rows trees content holds = record {
  rising = holds.rising;
  each = λ row. (
    λ there.
        let it = holds.alone.postings row there in
        let read = (holds.units it.0 it.1 it.2.sysno).shown (posting_row it.2) (subst (HasRow trees postings_tree) it.3 there, refl) in
        let same : it.2 ≡ posting_at it.2.sysno read.0 = one_posting (posting_row it.2) it.2 (posting_at it.2.sysno read.0) (refl, refl, refl) read.2 in
        (it.0, it.1, it.2, subst (Has (content it.0 it.1)) (sym same) (placed_at it.2.sysno (content it.0 it.1) read.0 read.1), it.3),
    λ it.
        let at = (holds.units it.0 it.1 it.2.sysno).there (place_of it.2) (place_in (content it.0 it.1) it.2 it.3) in
        let form = holds.alone.postings (key_row it.0 it.1 ++ at.0) at.1 in
        let is = (told_apart form.0 it.0 form.1 it.1 at.0 (posting_row form.2) form.3).2 in
        let shows : ShowsPosting (posting_row form.2) it.2 = subst (λ (r : Row). ShowsPosting r it.2) is at.2 in
        let same : form.2 ≡ it.2 = one_posting (posting_row form.2) form.2 it.2 (refl, refl, refl) shows in
        let own : at.0 ≡ posting_row it.2 = is ∙ ap posting_row same in
        subst (HasRow trees postings_tree) (sym it.4) (subst (λ (r : Row). HasRow trees postings_tree (key_row it.0 it.1 ++ r)) own at.1),
  );
  alone = holds.alone.alone;
}
