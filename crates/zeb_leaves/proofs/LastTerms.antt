-- The last terms below a text, counted leaf by leaf from the nearest down until there are enough: what a call tells of them, or by which it
-- is refused.
use Rattle.zeb_leaves.proofs.Cited.{Row, row_cmp, row_cmp_total, Has, all_has, has_right, Trees, ◌≡◌, ◌≢◌, ◌↔◌, ◌⊎◌, ◌∙◌, ◌<◌, ◌≤◌, ◌++◌, ◌∷◌, ℕ, true, false, List, [], Some, length, refl, sym, ap, subst, inl, inr, arith, Less, Greater, nat_cmp, slice_cmp, never_itself, nat_list_cmp_total, Entry, TermCount, IsEntryOf, LacksEntriesAt, SumsRecords, ShowsEntries, Covers, IsUpTo, leaf_key, own_key, Bool, reverse, cases_lt, is_lt, leaf_row, AreEnough, AreEnoughAt, CountBelow, CountUntil, HideBelow, MeetNoText, ShowsOwn, comes_not, comes_or, entries_total, lacks_sum, front_rises, has_reversed, reversed_rises, packed_leaves, Comes, HidesBefore, HidesCount, ListsBefore, RegisterOf}
use Rattle.std.proofs.lemmas.List.{append-nil, length-reverse, reverse-append, reverse-reverse}
use Rattle.std.specs.List.Sorted.{IsStrictlySortedBy}
use Rattle.zeb_leaves.proofs.CountedTerms.{Counted, CountedBy, counted_turned, falling, lower_turned, none_counted}
use Rattle.zeb_leaves.proofs.FallingKeys.{block_less, by_key, falling_apart, falling_total, falls, falls_total, fits_back, key_before, key_up, least_below, less_up_key}
use Rattle.zeb_leaves.proofs.FirstTerms.{key_less, less_key}
use Rattle.zeb_leaves.proofs.NearLists.{few_others, in_front, none_enough}
use Rattle.zeb_leaves.proofs.NearTerms.{IsDone, Leaves, counted_there, enough_listed, listed, until_hides, until_told}
use Rattle.zeb_leaves.proofs.OneCover.{up_to_then}
use Rattle.zeb_leaves.proofs.OwnLeaves.{FromKey, in_own}
use Rattle.zeb_leaves.proofs.SpanEntries.{HasOwnIn, own_joined}
use Rattle.zeb_leaves.proofs.SpanRuns.{below_or, flipped_back, from_term, less_up, not_less_up, up_itself, up_less}
use Rattle.zeb_leaves.proofs.TermsTold.{from_least, lacks_hides}
use Rattle.zeb_register.proofs.KeyOrder.{key_order}

module _ (trees : Trees) (at : RegisterOf) (start : List ℕ) (n : ℕ) (one : 1 ≤ n) where
  abbrev These : Row → Type 0
  These = Leaves trees at

  abbrev On : List ℕ → Type 0
  On term = Comes term start

  abbrev Lists : List TermCount → Type 0
  Lists = ListsBefore packed_leaves trees at.db.0 at.index at.register start n

  abbrev Hides : Type 0
  Hides = HidesBefore packed_leaves trees at.db.0 at.index at.register start n

  -- the keys from one on, or above it, and below the start
  abbrev Down : List ℕ → ℕ → List ℕ → ℕ → Type 0
  Down s c t b = FromKey s c t b × (row_cmp (leaf_key t b) (leaf_key start 0) ≡ Less)

  abbrev Above : List ℕ → ℕ → List ℕ → ℕ → Type 0
  Above s c t b = (row_cmp (leaf_key s c) (leaf_key t b) ≡ Less) × (row_cmp (leaf_key t b) (leaf_key start 0) ≡ Less)

  -- down to a key all is counted, the greatest first
  record IsRead (s : List ℕ) (c : ℕ) (visited : List Entry) (old : List TermCount) : Type 0 where
    from : row_cmp (leaf_key s c) (leaf_key start 0) ≢ Greater
    has : HasOwnIn These (Down s c) (reverse visited)
    counted : CountedBy falling visited old
    fits : length old ≤ n

  abbrev Done : List ℕ → List TermCount → Type 1
  Done = IsDone trees at On falling falling_total falling_apart n reverse has_reversed length-reverse

  on_before : (t : List ℕ) (b : ℕ) → row_cmp (leaf_key t b) (leaf_key start 0) ≡ Less → On t
  on_before t b less = key_before start t b less

  before_on : (t : List ℕ) → On t → (b : ℕ) → row_cmp (leaf_key t b) (leaf_key start 0) ≡ Less
  before_on t on b = key_less t start b 0 on

  module _ (s : List ℕ) (c : ℕ) (visited : List Entry) (old : List TermCount) (read : IsRead s c visited old) where
    counted : Counted (reverse visited) (reverse old)
    counted = counted_turned visited old read.counted

    -- there are enough of the terms above
    enough_above : AreEnough n old s → Lists (reverse old)
    enough_above enough =
        enough_listed trees at On falling falling_total falling_apart n reverse has_reversed length-reverse s old (record {
          In = Down s c;
          own = reverse visited;
          has = read.has;
          on = λ t b is. (on_before t b is.1, key_up s t c b is.0);
          full = λ t on above b. (less_up_key s t c b (key_less s t c b above), before_on t on b);
          counted = counted;
          order = read.counted.rising;
          fits = read.fits;
        }) enough

    -- all terms from this one on are counted, and they are n, or none is below
    all_listed : c ≡ 0 → (length old ≡ n) ⊎ (s ≡ []) → Lists (reverse old)
    all_listed first enough =
        listed trees at On falling falling_total falling_apart n (Down s c) (reverse visited) (reverse old) read.has counted (omega (arith, read.fits, length-reverse old)) (λ t b is. on_before t b is.1)
        (λ t asked b. (subst (λ k. FromKey s k t b) (sym first) (from_term s t b ((comes_not t s).1 (not_below t asked.1))), before_on t asked.0 b))
      where
        not_below : (t : List ℕ) → (length (reverse old) < n) ⊎ ((u : TermCount) × Has (reverse old) u × ¬ Comes t u.term) → ¬ Comes t s
        not_below t asked low = elim enough [
          | inr least ↦ (let e : true ≡ false = sym (ap is_lt (subst (Comes t) least low)) ∙ from_least t in cc)
          | inl many ↦ elim asked [
            | inl fewer ↦ omega (arith, fewer, many, length-reverse old)
            | inr u ↦
                let e = counted.some u.0 u.1 in
                let above : ¬ Comes u.0.term s = subst (λ v. ¬ Comes v s) e.2 (key_up s e.0.term c e.0.block ((read.has.each e.0).0 e.1).0.0) in
                u.2 (elim (comes_or s u.0.term) [
                  | inl less ↦ nat_list_cmp_total.trans t s u.0.term low less
                  | inr other ↦ elim other [ inl same ↦ subst (Comes t) same low | inr less ↦ absurd (above less) ]
                ])
          ]
        ]

    -- there aren't enough, and a term below has no count, nor has any between
    hidden_below : (¬ AreEnoughAt n old s c) → (h : List ℕ) → On h → HidesCount packed_leaves trees at.db.0 at.index at.register h
        → ((t : List ℕ) → Comes h t → row_cmp (leaf_key t 0) (leaf_key s c) ≡ Less → LacksEntriesAt These (leaf_key t 0)) → Hides
    hidden_below less h on hidden lacking = record {
      term = h;
      on = on;
      hidden = hidden;
      few = λ some up each.
          let near = λ (t : TermCount) (shown : Has some t). let it = each t shown in listed_above t it.0 it.1 it.2 it.3.0 in
          elim (cases_lt 0 c) [
            | inl inside ↦ few_others n one old some s read.fits (λ enough. less (inl enough)) (λ xs ys whole there. fits_back old some xs ys read.counted.rising up whole there)
                (λ t shown. let it = near t shown in (it.0, λ same. let first = it.1 same in omega (arith, inside, first)))
            | inr first ↦ omega (arith, read.fits, fewer (omega (arith, first)), fits_back old some old [] read.counted.rising up (append-nil old) (λ t shown. (near t shown).0))
          ];
    }
      where
        fewer : c ≡ 0 → length old < n
        fewer first = elim (cases_lt (length old) n) [ inl low ↦ low | inr full ↦ absurd (less (inr (first, omega (arith, read.fits, full)))) ]

        not_lacking : (t : TermCount) → Comes h t.term → SumsRecords These t.term t.records → row_cmp (leaf_key t.term 0) (leaf_key s c) ≢ Less
        not_lacking t above sums low = lacks_sum These t.term t.records (0, lacking t.term above low) sums

        listed_above : (t : TermCount) → On t.term → Comes h t.term → 1 ≤ t.records → SumsRecords These t.term t.records → Has old t × (t.term ≡ s → c ≡ 0)
        listed_above t on' above many sums =
            let up : row_cmp (leaf_key s c) (leaf_key t.term 0) ≢ Greater = not_less_up (leaf_key t.term 0) (leaf_key s c) (not_lacking t above sums) in (
              (has_reversed old t).0 (counted_there trees at (Down s c) (reverse visited) read.has (reverse old) counted t (λ b. (up_to_then (leaf_key s c) (leaf_key t.term 0) (leaf_key t.term b) up (own_up t.term b), before_on t.term on' b)) many sums),
              λ same. first (sym (ap (λ u. row_cmp (leaf_key s c) (leaf_key u 0)) same)) up,
            )
          where
            own_up : (u : List ℕ) (b : ℕ) → row_cmp (leaf_key u 0) (leaf_key u b) ≢ Greater
            own_up u b = from_term u u b ((comes_not u u).1 (never_itself nat_list_cmp_total u))

            first : row_cmp (leaf_key s c) (leaf_key s 0) ≡ row_cmp (leaf_key s c) (leaf_key t.term 0) → row_cmp (leaf_key s c) (leaf_key t.term 0) ≢ Greater → c ≡ 0
            first is up = elim (cases_lt 0 c) [
              | inl inside ↦ absurd (up (sym is ∙ flipped_back (leaf_key s 0) (leaf_key s c) (block_less s 0 c inside)))
              | inr none ↦ omega (arith, none)
            ]

  none_read : IsRead start 0 [] []
  unfolding IsStrictlySortedBy
  none_read = record {
    from = up_itself (leaf_key start 0);
    has = record {
      whole = λ t b both. absurd (never t b both);
      rising = tt;
      each = λ e. (λ h. absurd h, λ it. absurd (never e.term e.block it.0));
    };
    counted = none_counted falling;
    fits = omega arith;
  }
    where
      never : (t : List ℕ) (b : ℕ) → Down start 0 t b → ⊥
      never t b both = both.0 (flipped_back (leaf_key t b) (leaf_key start 0) both.1)

  -- ---- entries, the greatest first

  module _ (s : List ℕ) (c : ℕ) (all : List Entry) (has : HasOwnIn These (Down s c) (reverse all)) where
    in_all : (e : Entry) → Has all e → Down s c e.term e.block × IsEntryOf These e.term e
    in_all e h = (has.each e).0 ((has_reversed all e).1 h)

    all_fall : IsStrictlySortedBy falls all
    all_fall = subst (IsStrictlySortedBy falls) (reverse-reverse all) (reversed_rises falls_total (reverse all) has.rising)

    done_at : (front rest : List Entry) (e : Entry) (old : List TermCount) → front ++ e ∷ rest ≡ all → CountedBy falling front old → length old ≤ n → Done e.term old
    done_at front rest e old is counts fits = record {
      In = Above e.term e.block;
      own = reverse front;
      has = record {
        whole = λ t b key. has.whole t b (beyond t b key);
        rising = reversed_rises entries_total front (front_rises falls_total front (e ∷ rest) fall);
        each = λ x. (
          λ h.
              let it = (front_is x).0 ((has_reversed front x).0 h) in
              let known = in_all x (subst (λ (l : List Entry). Has l x) is it.0) in
              ((key_order e.term x.term e.block x.block ∙ it.1, known.0.1), known.1),
          λ it. (has_reversed front x).1 ((front_is x).1 (subst (λ (l : List Entry). Has l x) (sym is) ((has_reversed all x).0 ((has.each x).1 (beyond x.term x.block it.0, it.1))), sym (key_order e.term x.term e.block x.block) ∙ it.0.0)),
        );
      };
      on = λ t b key. (on_before t b key.1, less_key e.term t e.block b key.0);
      full = λ t on above b. (key_less e.term t e.block b above, before_on t on b);
      counted = counted_turned front old counts;
      order = counts.rising;
      fits = fits;
    }
      where
        fall : IsStrictlySortedBy falls (front ++ e ∷ rest)
        fall = subst (IsStrictlySortedBy falls) (sym is) all_fall

        front_is : (x : Entry) → Has front x ↔ (Has (front ++ e ∷ rest) x × (falls x e ≡ Less))
        front_is = in_front falls_total front rest e fall

        here : Down s c e.term e.block
        here = (in_all e (subst (λ (l : List Entry). Has l e) is (has_right front (e ∷ rest) e (inl refl)))).0

        beyond : (t : List ℕ) (b : ℕ) → Above e.term e.block t b → Down s c t b
        beyond t b key = (up_to_then (leaf_key s c) (leaf_key e.term e.block) (leaf_key t b) here.0 (less_up_key e.term t e.block b key.0), key.1)

    known : (e : Entry) → Has all e → On e.term × IsEntryOf These e.term e
    known e h = let it = in_all e h in (on_before e.term e.block it.0.1, it.1)

    told : (front rest : List Entry) → front ++ rest ≡ all → (old new : List TermCount) (enough : Bool) → CountedBy falling front old → length old ≤ n → CountUntil n rest old new enough
        → ((enough ≡ true) × Lists (reverse new)) ⊎ ((enough ≡ false) × CountedBy falling all new × (length new ≤ n))
    told = until_told trees at On falling falling_total falling_apart n reverse has_reversed length-reverse one fits_back falls falls_total lower_turned all all_fall known done_at

    hides : (front rest : List Entry) → front ++ rest ≡ all → (old : List TermCount) → CountedBy falling front old → length old ≤ n → MeetNoText n rest old → Hides
    hides = until_hides trees at On falling falling_total falling_apart n reverse has_reversed length-reverse one fits_back falls falls_total lower_turned all all_fall known done_at

  -- ---- leaves, the greatest first

  module _ (shaped : (leaf : Row) → These leaf → (t : List ℕ) × (b : ℕ) × (d : List ℕ) × (leaf ≡ leaf_row t b d)) (same_leaf : (x y : Row) → These x → These y → own_key x ≡ own_key y → x ≡ y) where
    -- all leaves below a key
    pub record StandsBelow (s : List ℕ) (c : ℕ) (rows : List Row) : Type 0 where
      pub known : (r : Row) → Has rows r → These r × (row_cmp (own_key r) (leaf_key s c) ≡ Less)
      pub every : (r : Row) → These r → row_cmp (own_key r) (leaf_key s c) ≡ Less → Has rows r
      pub fall : IsStrictlySortedBy (λ x y. by_key y x) rows

    module _ (s : List ℕ) (c : ℕ) (row : Row) (rows : List Row) (it : StandsBelow s c (row ∷ rows)) (u : List ℕ) (m : ℕ) (key : own_key row ≡ leaf_key u m) where
      below : row_cmp (leaf_key u m) (leaf_key s c) ≡ Less
      below = subst (λ (k : Row). row_cmp k (leaf_key s c) ≡ Less) key (it.known row (inl refl)).1

      -- the keys that the row covers
      abbrev Covered : List ℕ → ℕ → Type 0
      Covered t b = FromKey u m t b × (row_cmp (leaf_key t b) (leaf_key s c) ≡ Less)

      lower : (other : Row) → Has rows other → row_cmp (own_key other) (own_key row) ≡ Less
      unfolding IsStrictlySortedBy
      lower other later = all_has (λ r. by_key r row ≡ Less) rows other it.fall.0 later

      covers : (t : List ℕ) (b : ℕ) → Covered t b → Covers These (leaf_key t b) row
      covers t b is = record {
        is = (it.known row (inl refl)).0;
        up_to = λ above. is.0 (sym (ap (λ (k : Row). row_cmp k (leaf_key t b)) key) ∙ above);
        greatest = λ other there up. elim (it.every other there (up_less (own_key other) (leaf_key t b) (leaf_key s c) up is.1)) [
          | inl same ↦ subst (λ (r : Row). IsUpTo (own_key row) r) (sym same) (up_itself (own_key row))
          | inr later ↦ (λ above. let e : Less ≡ Greater = sym (lower other later) ∙ above in cc)
        ];
      }

      rest_stands : StandsBelow u m rows
      unfolding IsStrictlySortedBy
      rest_stands = record {
        known = λ r h. ((it.known r (inr h)).0, subst (λ (k : Row). row_cmp (own_key r) k ≡ Less) key (lower r h));
        every = λ r there low. elim (it.every r there (row_cmp_total.trans (own_key r) (leaf_key u m) (leaf_key s c) low below)) [
          | inl same ↦ absurd (never_itself row_cmp_total (leaf_key u m) (subst (λ (k : Row). row_cmp k (leaf_key u m) ≡ Less) (ap own_key same ∙ key) low))
          | inr later ↦ later
        ];
        fall = it.fall.1;
      }

      module _ (visited : List Entry) (old : List TermCount) (read : IsRead s c visited old) where
        under_start : row_cmp (leaf_key u m) (leaf_key start 0) ≡ Less
        under_start = less_up (leaf_key u m) (leaf_key s c) (leaf_key start 0) below read.from

        -- it shows no entries
        row_hidden : (¬ AreEnoughAt n old s c) → ((entries : List Entry) → ¬ ShowsEntries row entries) → Hides
        row_hidden less none =
            hidden_below s c visited old read less u (on_before u m under_start) (lacks_hides trees at u m (lacks u m (up_itself (leaf_key u m), below)))
            (λ t above low. lacks t 0 (less_up_key u t m 0 (key_less u t m 0 above), low))
          where
            lacks : (t : List ℕ) (b : ℕ) → Covered t b → LacksEntriesAt These (leaf_key t b)
            lacks t b is = inl (row, covers t b is, none)

        module _ (own : List Entry) (shows : ShowsOwn u m (Some (s, c)) row own) where
          abbrev whole : List Entry
          whole = visited ++ reverse own

          whole_has : HasOwnIn These (Down u m) (reverse whole)
          whole_has = subst (HasOwnIn These (Down u m)) (sym (reverse-append visited (reverse own) ∙ ap (λ l. l ++ reverse visited) (reverse-reverse own)))
              (own_joined These (Down u m) Covered (Down s c) own (reverse visited) (in_own These shaped same_leaf row Covered u m (Some (s, c)) own covers (λ t b. (λ is. is, λ is. is)) shows) read.has
              (λ x k v j low high. less_up (leaf_key x k) (leaf_key s c) (leaf_key v j) low.1 high.0)
              (λ x k both. elim (below_or (leaf_key x k) (leaf_key s c)) [ inl less ↦ inl (both.0, less) | inr up ↦ inr (up, both.1) ])
              (λ x k either. elim either [
                | inl low ↦ (low.0, less_up (leaf_key x k) (leaf_key s c) (leaf_key start 0) low.1 read.from)
                | inr high ↦ (up_to_then (leaf_key u m) (leaf_key s c) (leaf_key x k) (less_up_key u s m c below) high.0, high.1)
              ]))

          row_told : (new : List TermCount) (enough : Bool) → CountUntil n (reverse own) old new enough → ((enough ≡ true) × Lists (reverse new)) ⊎ ((enough ≡ false) × IsRead u m whole new)
          row_told new enough counts = elim (told u m whole whole_has visited (reverse own) refl old new enough read.counted read.fits counts) [
            | inl yes' ↦ inl yes'
            | inr all ↦ inr (all.0, record { from = less_up_key u start m 0 under_start; has = whole_has; counted = all.1; fits = all.2 })
          ]

          row_meets : MeetNoText n (reverse own) old → Hides
          row_meets = hides u m whole whole_has visited (reverse own) refl old read.counted read.fits

    rows_told : (s : List ℕ) (c : ℕ) (rows : List Row) (visited : List Entry) (old new : List TermCount) → StandsBelow s c rows → IsRead s c visited old → CountBelow n s c rows old new
        → Lists (reverse new)
    rows_told s c [] visited old new it read done = subst (λ (l : List TermCount). Lists (reverse l)) (sym done.1) (all_listed s c visited old read done.0.1 (inr done.0.0))
    rows_told s c (row ∷ rows) visited old new it read counts =
        let u = counts.0 in
        let m = counts.1 in
        let key = counts.2 in
        let by = row_told s c row rows it u m key visited old read in
        elim counts.3 [
          | inl stops ↦ elim stops [
            | inl inside ↦ elim (by inside.0 inside.1 new true inside.2) [ inl lists ↦ lists.1 | inr none ↦ absurd (let e : true ≡ false = none.0 in cc) ]
            | inr behind ↦ elim (by behind.0.0 behind.0.1 new false behind.0.2) [
              | inl none ↦ absurd (let e : false ≡ true = none.0 in cc)
              | inr all ↦ elim behind.1 [
                | inl enough ↦ enough_above u m (visited ++ reverse behind.0.0) new all.1 enough
                | inr first ↦ all_listed u m (visited ++ reverse behind.0.0) new all.1 first.0 (inl first.1)
              ]
            ]
          ]
          | inr goes ↦ elim (by goes.1.0.0 goes.1.0.1 goes.0 false goes.1.0.2) [
            | inl none ↦ absurd (let e : false ≡ true = none.0 in cc)
            | inr all ↦ rows_told u m rows (visited ++ reverse goes.1.0.0) goes.0 new (rest_stands s c row rows it u m key) all.1 goes.2
          ]
        ]

    module _ (leaf : Row) (there : These leaf) (on_least : On []) where
      rows_hide : (s : List ℕ) (c : ℕ) (rows : List Row) (visited : List Entry) (old : List TermCount) → StandsBelow s c rows → IsRead s c visited old → (¬ AreEnoughAt n old s c)
          → HideBelow n s c rows old → Hides
      rows_hide s c [] visited old it read less bad =
          hidden_below s c visited old read less [] on_least (lacks_hides trees at [] 0 (lacks [] (least_below s c bad))) (λ t above low. lacks t low)
        where
          lacks : (t : List ℕ) → row_cmp (leaf_key t 0) (leaf_key s c) ≡ Less → LacksEntriesAt These (leaf_key t 0)
          lacks t low = inr (leaf, there, λ other covers. absurd (it.every other covers.is (up_less (own_key other) (leaf_key t 0) (leaf_key s c) covers.up_to low)))
      rows_hide s c (row ∷ rows) visited old it read less (inl keyless) = let own = shaped row (it.known row (inl refl)).0 in absurd (keyless own.0 own.1 (ap own_key own.3))
      rows_hide s c (row ∷ rows) visited old it read less (inr bad) =
          let u = bad.0 in
          let m = bad.1 in
          let key = bad.2 in
          elim bad.3 [
            | inl here ↦ elim here [
              | inl none ↦ row_hidden s c row rows it u m key visited old read less none
              | inr meets ↦ row_meets s c row rows it u m key visited old read meets.0 meets.1 meets.2
            ]
            | inr later ↦ elim (row_told s c row rows it u m key visited old read later.1.0.0 later.1.0.1 later.0 false later.1.0.2) [
              | inl none ↦ absurd (let e : false ≡ true = none.0 in cc)
              | inr all ↦ rows_hide u m rows (visited ++ reverse later.1.0.0) later.0 (rest_stands s c row rows it u m key) all.1 later.1.1 later.2
            ]
          ]

      pub last_hides : (rows : List Row) → StandsBelow start 0 rows → HideBelow n start 0 rows [] → Hides
      last_hides rows it bad = rows_hide start 0 rows [] [] it none_read (λ enough. elim enough [ inl some ↦ none_enough n one start some | inr first ↦ omega (arith, one, first.1) ]) bad

    pub last_told : (rows : List Row) (new : List TermCount) → StandsBelow start 0 rows → CountBelow n start 0 rows [] new → Lists (reverse new)
    last_told rows new it counts = rows_told start 0 rows [] [] new it none_read counts

  -- the register has no leaf
  pub leafless : ((leaf : Row) → ¬ These leaf) → Lists []
  unfolding IsStrictlySortedBy
  leafless none =
      listed trees at On falling falling_total falling_apart n (λ t b. On t) [] [] (record {
        whole = λ t b on. ([], record { shown = λ leaf covers. absurd (none leaf covers.is); covered = inr (refl, none) });
        rising = tt;
        each = λ e. (λ h. absurd h, λ it. absurd (none it.1.1 it.1.3.is));
      }) (none_counted (slice_cmp nat_cmp)) (omega arith) (λ t b on. on) (λ t asked b. asked.0)
