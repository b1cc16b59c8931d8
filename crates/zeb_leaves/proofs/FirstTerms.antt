-- The first terms from a text on, counted leaf by leaf until there are enough: what a call tells of them, or by which it is refused.
use Rattle.zeb_leaves.proofs.Cited.{Row, row_cmp, row_cmp_total, Has, has_right, Trees, ◌≡◌, ◌≢◌, ◌↔◌, ◌⊎◌, ◌∙◌, ◌<◌, ◌≤◌, ◌++◌, ◌∷◌, ℕ, true, false, List, [], Some, None, length, refl, sym, ap, subst, inl, inr, arith, Ordering, Less, Equal, Greater, nat_cmp, slice_cmp, ordering_then, never_itself, nat_list_cmp_total, Entry, TermCount, entry_cmp, IsEntryOf, LacksEntriesAt, leaf_key, own_key, Bool, leaf_row, AreEnough, CountRows, CountUntil, HideRows, MeetNoText, AreLeavesFrom, ShowsOwn, comes_not, term_total, entries_total, front_rises, never_back, no_longer, same_bytes, packed_leaves, term_cmp, Comes, HidesCount, HidesFrom, ListsFrom, RegisterOf}
use Rattle.std.specs.List.Sorted.{IsStrictlySortedBy}
use Rattle.zeb_leaves.proofs.CountedTerms.{Counted, lower_term, none_counted}
use Rattle.zeb_leaves.proofs.NearLists.{in_front, none_enough}
use Rattle.zeb_leaves.proofs.NearTerms.{IsDone, Leaves, enough_listed, hidden_next, listed, until_hides, until_told}
use Rattle.zeb_leaves.proofs.OneCover.{up_to_then}
use Rattle.zeb_leaves.proofs.OwnLeaves.{FromKey, FromText, Stands, UpTo, all_owns, all_stand, here_own, last_own, next_stands, over}
use Rattle.zeb_leaves.proofs.SpanEntries.{HasOwnIn, own_joined}
use Rattle.zeb_leaves.proofs.SpanRuns.{below_or, flipped_back, from_term, less_up, term_from, up_itself}
use Rattle.zeb_leaves.proofs.TermsTold.{lacks_hides}
use Rattle.zeb_register.proofs.KeyOrder.{key_order}

-- ---- keys and their terms

pub key_less : (s t : List ℕ) (b c : ℕ) → Comes s t → row_cmp (leaf_key s b) (leaf_key t c) ≡ Less
key_less s t b c less = key_order s t b c ∙ ap (λ o. ordering_then o (nat_cmp b c)) less

pub less_key : (s t : List ℕ) (b c : ℕ) → row_cmp (leaf_key s b) (leaf_key t c) ≡ Less → ¬ Comes t s
less_key s t b c less above = never_back nat_list_cmp_total t s above (from (slice_cmp nat_cmp s t) refl)
  where
    from : (o : Ordering) → slice_cmp nat_cmp s t ≡ o → Comes s t
    from Less is = is
    from Equal is = absurd (never_itself nat_list_cmp_total s (subst (λ u. Comes u s) (sym (same_bytes s t is)) above))
    from Greater is = let e : Greater ≡ Less = sym (key_order s t b c ∙ ap (λ o. ordering_then o (nat_cmp b c)) is) ∙ less in absurd (cc)

same_has : (old : List TermCount) (t : TermCount) → Has old t ↔ Has old t
same_has old t = (λ h. h, λ h. h)

fits_front : (old some xs ys : List TermCount) → IsStrictlySortedBy term_cmp old → IsStrictlySortedBy term_cmp some → xs ++ ys ≡ old → ((t : TermCount) → Has some t → Has xs t)
    → length some ≤ length xs
fits_front old some xs ys rising up whole there = no_longer term_total xs some (front_rises term_total xs ys (subst (IsStrictlySortedBy term_cmp) (sym whole) rising)) up there

module _ (trees : Trees) (at : RegisterOf) (start : List ℕ) (n : ℕ) (one : 1 ≤ n) where
  abbrev These : Row → Type 0
  These = Leaves trees at

  abbrev On : List ℕ → Type 0
  On term = ¬ Comes term start

  abbrev Lists : List TermCount → Type 0
  Lists = ListsFrom packed_leaves trees at.db.0 at.index at.register start n

  abbrev Hides : Type 0
  Hides = HidesFrom packed_leaves trees at.db.0 at.index at.register start n

  -- the keys from the start on and below another
  abbrev Until : List ℕ → ℕ → List ℕ → ℕ → Type 0
  Until s c t b = FromKey start 0 t b × (row_cmp (leaf_key t b) (leaf_key s c) ≡ Less)

  -- below a key all is counted
  record IsRead (s : List ℕ) (c : ℕ) (own : List Entry) (old : List TermCount) : Type 0 where
    from : FromKey start 0 s c
    has : HasOwnIn These (Until s c) own
    counted : Counted own old
    fits : length old ≤ n

  on_from : (t : List ℕ) (b : ℕ) → FromKey start 0 t b → On t
  on_from t b from = (comes_not t start).0 (term_from start t b from)

  from_on : (t : List ℕ) → On t → (b : ℕ) → FromKey start 0 t b
  from_on t on b = from_term start t b ((comes_not t start).1 on)

  abbrev Done : List ℕ → List TermCount → Type 1
  Done = IsDone trees at On (slice_cmp nat_cmp) nat_list_cmp_total same_bytes n (λ l. l) same_has (λ l. refl)

  done_to : (s : List ℕ) (c : ℕ) (own : List Entry) (old : List TermCount) → IsRead s c own old → Done s old
  done_to s c own old read = record {
    In = Until s c;
    own = own;
    has = read.has;
    on = λ t b is. (on_from t b is.0, less_key t s b c is.1);
    full = λ t on less b. (from_on t on b, key_less t s b c less);
    counted = read.counted;
    order = read.counted.rising;
    fits = read.fits;
  }

  hidden_at : (s : List ℕ) (c : ℕ) (own : List Entry) (old : List TermCount) → IsRead s c own old → (¬ AreEnough n old s) → HidesCount packed_leaves trees at.db.0 at.index at.register s → Hides
  hidden_at s c own old read less hidden =
      hidden_next trees at On (slice_cmp nat_cmp) nat_list_cmp_total same_bytes n (λ l. l) same_has (λ l. refl) s old (done_to s c own old read) one (on_from s c read.from) less hidden
      (λ some xs ys up whole there. fits_front old some xs ys read.counted.rising up whole there)

  enough_at : (s : List ℕ) (c : ℕ) (own : List Entry) (old : List TermCount) → IsRead s c own old → AreEnough n old s → Lists old
  enough_at s c own old read enough =
      enough_listed trees at On (slice_cmp nat_cmp) nat_list_cmp_total same_bytes n (λ l. l) same_has (λ l. refl) s old (done_to s c own old read) enough

  end_listed : (own : List Entry) (counts : List TermCount) → HasOwnIn These (FromText start) own → Counted own counts → length counts ≤ n → Lists counts
  end_listed own counts has counted fits =
      listed trees at On (slice_cmp nat_cmp) nat_list_cmp_total same_bytes n (FromText start) own counts has counted fits (λ t b is. (comes_not t start).0 is) (λ t asked b. (comes_not t start).1 asked.0)

  -- ---- entries, one after the other

  module _ (In : List ℕ → ℕ → Type 0) (all : List Entry) (has : HasOwnIn These In all) (from : (t : List ℕ) (b : ℕ) → In t b → FromKey start 0 t b)
      (back : (e : Entry) → Has all e → (t : List ℕ) (b : ℕ) → Until e.term e.block t b → In t b) where
    -- in front of an entry stand those with lower keys
    read_at : (front rest : List Entry) (e : Entry) (old : List TermCount) → front ++ e ∷ rest ≡ all → Counted front old → length old ≤ n → IsRead e.term e.block front old
    read_at front rest e old is counted fits = record {
      from = from e.term e.block ((has.each e).0 here).0;
      has = record {
        whole = λ t b key. has.whole t b (back e here t b key);
        rising = front_rises entries_total front (e ∷ rest) rises;
        each = λ x. (
          λ h.
              let it = (front_is x).0 h in
              let own = (has.each x).0 (subst (λ (l : List Entry). Has l x) is it.0) in
              ((from x.term x.block own.0, key_order x.term e.term x.block e.block ∙ it.1), own.1),
          λ it. (front_is x).1 (subst (λ (l : List Entry). Has l x) (sym is) ((has.each x).1 (back e here x.term x.block it.0, it.1)), sym (key_order x.term e.term x.block e.block) ∙ it.0.1),
        );
      };
      counted = counted;
      fits = fits;
    }
      where
        here : Has all e
        here = subst (λ (l : List Entry). Has l e) is (has_right front (e ∷ rest) e (inl refl))

        rises : IsStrictlySortedBy entry_cmp (front ++ e ∷ rest)
        rises = subst (IsStrictlySortedBy entry_cmp) (sym is) has.rising

        front_is : (x : Entry) → Has front x ↔ (Has (front ++ e ∷ rest) x × (entry_cmp x e ≡ Less))
        front_is = in_front entries_total front rest e rises

    known : (e : Entry) → Has all e → On e.term × IsEntryOf These e.term e
    known e h = let it = (has.each e).0 h in (on_from e.term e.block (from e.term e.block it.0), it.1)

    told : (front rest : List Entry) → front ++ rest ≡ all → (old new : List TermCount) (enough : Bool) → Counted front old → length old ≤ n → CountUntil n rest old new enough
        → ((enough ≡ true) × Lists new) ⊎ ((enough ≡ false) × Counted all new × (length new ≤ n))
    told = until_told trees at On (slice_cmp nat_cmp) nat_list_cmp_total same_bytes n (λ l. l) same_has (λ l. refl) one fits_front entry_cmp entries_total lower_term all has.rising known
        (λ front rest e old is counted fits. done_to e.term e.block front old (read_at front rest e old is counted fits))

    hides : (front rest : List Entry) → front ++ rest ≡ all → (old : List TermCount) → Counted front old → length old ≤ n → MeetNoText n rest old → Hides
    hides = until_hides trees at On (slice_cmp nat_cmp) nat_list_cmp_total same_bytes n (λ l. l) same_has (λ l. refl) one fits_front entry_cmp entries_total lower_term all has.rising known
        (λ front rest e old is counted fits. done_to e.term e.block front old (read_at front rest e old is counted fits))

  -- ---- leaves, one after the other

  module _ (shaped : (leaf : Row) → These leaf → (t : List ℕ) × (b : ℕ) × (d : List ℕ) × (leaf ≡ leaf_row t b d)) (same_leaf : (x y : Row) → These x → These y → own_key x ≡ own_key y → x ≡ y) where
    abbrev Standing : List ℕ → ℕ → Row → List Row → Type 0
    Standing = Stands These shaped same_leaf

    module _ (first : List ℕ) (from : ℕ) (done : List Entry) (old : List TermCount) (is : IsRead first from done old) where
      -- the row covers all keys from there on
      module _ (row : Row) (it : Standing first from row []) (own : List Entry) (shows : ShowsOwn first from None row own) where
        to_end : HasOwnIn These (FromText start) (done ++ own)
        to_end = own_joined These (FromText start) (Until first from) (FromKey first from) done own is.has (last_own These shaped same_leaf first from row own it shows)
            (λ u m v k low high. less_up (leaf_key u m) (leaf_key first from) (leaf_key v k) low.1 high)
            (λ u m after. elim (below_or (leaf_key u m) (leaf_key first from)) [ inl less ↦ inl (from_term start u m after, less) | inr beyond ↦ inr beyond ])
            (λ u m after. elim after [ inl low ↦ term_from start u m low.0 | inr high ↦ term_from start u m (up_to_then (leaf_key start 0) (leaf_key first from) (leaf_key u m) is.from high) ])

        end_told : (new : List TermCount) (enough : Bool) → CountUntil n own old new enough → Lists new
        end_told new enough counts = elim (told (FromText start) (done ++ own) to_end (λ t b. from_term start t b) (λ e h t b key. term_from start t b key.0) done own refl old new enough is.counted is.fits counts) [
          | inl told ↦ told.1
          | inr all ↦ end_listed (done ++ own) new to_end all.1 all.2
        ]

        end_hides : MeetNoText n own old → Hides
        end_hides = hides (FromText start) (done ++ own) to_end (λ t b. from_term start t b) (λ e h t b key. term_from start t b key.0) done own refl old is.counted is.fits

      -- or those up to the next one
      module _ (row next : Row) (rows : List Row) (it : Standing first from row (next ∷ rows)) (s : List ℕ) (c : ℕ) (key : own_key next ≡ leaf_key s c) (own : List Entry) (shows : ShowsOwn first from (Some (s, c)) row own) where
        abbrev beyond : row_cmp (leaf_key first from) (leaf_key s c) ≢ Greater
        beyond = over These shaped same_leaf first from row next rows it s c key

        to_next : HasOwnIn These (Until s c) (done ++ own)
        to_next = own_joined These (Until s c) (Until first from) (UpTo These shaped same_leaf first from row next rows it s c key) done own is.has (here_own These shaped same_leaf first from row next rows it s c key own shows)
            (λ u m v k low high. less_up (leaf_key u m) (leaf_key first from) (leaf_key v k) low.1 high.0)
            (λ u m both. elim (below_or (leaf_key u m) (leaf_key first from)) [ inl less ↦ inl (both.0, less) | inr up ↦ inr (up, both.1) ])
            (λ u m either. elim either [
              | inl low ↦ (low.0, less_up (leaf_key u m) (leaf_key first from) (leaf_key s c) low.1 beyond)
              | inr high ↦ (up_to_then (leaf_key start 0) (leaf_key first from) (leaf_key u m) is.from high.0, high.1)
            ])

        lower : (e : Entry) → Has (done ++ own) e → (t : List ℕ) (b : ℕ) → Until e.term e.block t b → Until s c t b
        lower e h t b low = (low.0, row_cmp_total.trans (leaf_key t b) (leaf_key e.term e.block) (leaf_key s c) low.1 ((to_next.each e).0 h).0.1)

        next_told : (new : List TermCount) (enough : Bool) → CountUntil n own old new enough → ((enough ≡ true) × Lists new) ⊎ ((enough ≡ false) × IsRead s c (done ++ own) new)
        next_told new enough counts = elim (told (Until s c) (done ++ own) to_next (λ t b low. low.0) lower done own refl old new enough is.counted is.fits counts) [
          | inl told ↦ inl told
          | inr all ↦ inr (all.0, record { from = up_to_then (leaf_key start 0) (leaf_key first from) (leaf_key s c) is.from beyond; has = to_next; counted = all.1; fits = all.2 })
        ]

        next_hides : MeetNoText n own old → Hides
        next_hides = hides (Until s c) (done ++ own) to_next (λ t b low. low.0) lower done own refl old is.counted is.fits

    rows_told : (first : List ℕ) (from : ℕ) (row : Row) (rows : List Row) (done : List Entry) (old new : List TermCount) → Standing first from row rows → IsRead first from done old
        → CountRows n first from row rows old new → Lists new
    rows_told first from row [] done old new it is counts = end_told first from done old is row it counts.1.0 counts.1.1 new counts.0 counts.1.2
    rows_told first from row (next ∷ rows) done old new it is counts =
        let s = counts.0 in
        let c = counts.1 in
        let key = counts.2 in
        let told = next_told first from done old is row next rows it s c key in
        elim counts.3 [
          | inl stops ↦ elim stops [
            | inl inside ↦ elim (told inside.0 inside.1 new true inside.2) [ inl lists ↦ lists.1 | inr none ↦ absurd (let e : true ≡ false = none.0 in cc) ]
            | inr behind ↦ elim (told behind.0.0 behind.0.1 new false behind.0.2) [ inl none ↦ absurd (let e : false ≡ true = none.0 in cc) | inr all ↦ enough_at s c (done ++ behind.0.0) new all.1 behind.1 ]
          ]
          | inr goes ↦ elim (told goes.1.0.0 goes.1.0.1 goes.0 false goes.1.0.2) [
            | inl none ↦ absurd (let e : false ≡ true = none.0 in cc)
            | inr all ↦ rows_told s c next rows (done ++ goes.1.0.0) goes.0 new (next_stands These shaped same_leaf first from row next rows it s c key) all.1 goes.2
          ]
        ]

    rows_hide : (first : List ℕ) (from : ℕ) (row : Row) (rows : List Row) (done : List Entry) (old : List TermCount) → Standing first from row rows → IsRead first from done old
        → (¬ AreEnough n old first) → HideRows n first from row rows old → Hides
    rows_hide first from row [] done old it is less (inl none) = hidden_at first from done old is less (lacks_hides trees at first from (inl (row, it.covers, none)))
    rows_hide first from row [] done old it is less (inr meets) = end_hides first from done old is row it meets.0 meets.1 meets.2
    rows_hide first from row (next ∷ rows) done old it is less (inl keyless) = let own = shaped next (it.known next (inl refl)).0 in absurd (keyless own.0 own.1 (ap own_key own.3))
    rows_hide first from row (next ∷ rows) done old it is less (inr bad) =
        let s = bad.0 in
        let c = bad.1 in
        let key = bad.2 in
        elim bad.3 [
          | inl here ↦ elim here [
            | inl none ↦ hidden_at first from done old is less (lacks_hides trees at first from (inl (row, it.covers, none)))
            | inr meets ↦ next_hides first from done old is row next rows it s c key meets.0 meets.1 meets.2
          ]
          | inr later ↦ elim (next_told first from done old is row next rows it s c key later.1.0.0 later.1.0.1 later.0 false later.1.0.2) [
            | inl none ↦ absurd (let e : false ≡ true = none.0 in cc)
            | inr all ↦ rows_hide s c next rows (done ++ later.1.0.0) later.0 (next_stands These shaped same_leaf first from row next rows it s c key) all.1 later.1.1 later.2
          ]
        ]

    -- ---- all leaves from the start on

    none_done : IsRead start 0 [] []
    unfolding IsStrictlySortedBy
    none_done = record {
      from = up_itself (leaf_key start 0);
      has = record {
        whole = λ t b both. absurd (never t b both);
        rising = tt;
        each = λ e. (λ h. absurd h, λ it. absurd (never e.term e.block it.0));
      };
      counted = none_counted (slice_cmp nat_cmp);
      fits = omega arith;
    }
      where
        never : (t : List ℕ) (b : ℕ) → Until start 0 t b → ⊥
        never t b both = both.0 (flipped_back (leaf_key t b) (leaf_key start 0) both.1)

    module _ (leaf : Row) (behind : List Row) (are : AreLeavesFrom These start (leaf ∷ behind)) where
      pub first_told : (new : List TermCount) → CountRows n start 0 leaf behind [] new → Lists new
      first_told new counts = rows_told start 0 leaf behind [] [] new (all_stand These shaped same_leaf start leaf behind are) none_done counts

      pub first_hides : HideRows n start 0 leaf behind [] → Hides
      first_hides bad = rows_hide start 0 leaf behind [] [] (all_stand These shaped same_leaf start leaf behind are) none_done (none_enough n one start) bad

    -- the register has no leaf
    pub none_first : ((leaf : Row) → ¬ These leaf) → Lists []
    none_first none = end_listed [] [] (all_owns These shaped same_leaf start [] [] none refl) (none_counted (slice_cmp nat_cmp)) (omega arith)

  -- ---- no leaf covers the start

  pub uncovered_start : LacksEntriesAt These (leaf_key start 0) → Hides
  uncovered_start lacks = record {
    term = start;
    on = λ less. never_itself nat_list_cmp_total start less;
    hidden = lacks_hides trees at start 0 lacks;
    few = λ some up each. none_listed some (λ t h. (each t h).0 (each t h).1);
  }
    where
      none_listed : (some : List TermCount) → ((t : TermCount) → Has some t → ⊥) → length some < n
      none_listed [] none = omega (arith, one)
      none_listed (t ∷ some) none = absurd (none t (inl refl))
