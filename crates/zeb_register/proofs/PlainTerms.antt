-- The terms of a register as rows of postings show them, whatever the rows hold.
use Rattle.zeb_register.proofs.Cited.{Row, column, State, Trees, Null, Int, Text, all_from, has_either, has_left, has_right, has_mapped, mapped_has, Has, row_cmp, ◌≡◌, ◌≢◌, ◌↔◌, ◌⊎◌, ◌∙◌, ◌<◌, ◌≤◌, ℕ, ℤ, pos, List, [], ◌∷◌, ◌++◌, drop, length, length-map, map, reverse, reverse-append, length-reverse, Less, nat_cmp, cases_Bool, slice_cmp, nat_list_cmp_total, is_lt, register_code, refl, sym, ap, subst, inl, inr, arith, Option, Some, None, Result, Ok, Err, IfOk, String, string_bytes, IsUtf8, Global, Spot, Totals, capped, posting_at, posting_row, spot_cmp, Register, Posting, TermCount, store_schema, IsListOf, IsRest, IsStore, postings_tree, register_front, plain_rows, key_in, term_cmp, IsCount, AreCounts, IsInRecord, IsOccurrenceRow, IsShown, AreAllShown, HasRowIn, HasShownNone, IsUnderKey, RowsCount, FindsNearest, HasTerm, HidesText, IsTermRow, ShowsNearest, ShowsTerm, SomeIsNoOccurrence, ListsUnits, RegisterOf}
use Rattle.std.specs.declared.alloc.AllocError.{AllocError}
use Rattle.std.specs.List.Sorted.{IsStrictlySortedBy}
use Rattle.zeb_register.specs.PrivateNearest.{AreNearest, FindsCount, HasOn, HideNearest, HidesNext, IsNearer, IsNext, IsOn, in_order}
use Rattle.zeb_register.specs.Terms.{Comes, HidesCount, HidesSome, ListsAll, ListsCounts, SumsUp, shows_count}
use Rattle.zeb_register.specs.declared.terms.Way.{Way}
use Rattle.zeb_register.specs.declared.terms.Way.TheVariants.{Up, Down}
use Rattle.zeb_register.proofs.BetweenRows.{begins}
use Rattle.zeb_register.proofs.CountLemmas.{comes_is, comes_not, comes_or, count_none, count_so, some_count, term_total}
use Rattle.zeb_register.proofs.KeyPlaces.{place_in, place_of, placed_at}
use Rattle.zeb_register.proofs.NearestTerms.{hides_next}
use Rattle.zeb_register.proofs.PostingStatements.{postings, postings_static}
use Rattle.zeb_register.proofs.RisingLists.{never_itself, pushed_rises}
use Rattle.zeb_register.proofs.RowLemmas.{spread, text_first}
use Rattle.zeb_register.proofs.RowUnits.{one_posting}
use Rattle.zeb_register.proofs.Scans.{strictly_mapped}
use Rattle.zeb_register.proofs.TermRows.{spot_at, spot_shows, spots_order, term_of_row}
use Rattle.zeb_register.proofs.TermLists.{above_least, least_above}
use Rattle.zeb_register.proofs.ValueKinds.{code}
use Rattle.zeb_register.proofs.Writes.{codes_there}

-- a term without a row is counted
pub none_counted : (trees : Trees) (db : ℤ) (index : ℕ) (register : Register) (term : List ℕ) → ((row : Row) → ¬ IsUnderKey trees db (key_in index register term) row) → RowsCount trees db (key_in index register term) 0
none_counted trees db index register term none = record {
  count = count_none (HasRowIn trees db (key_in index register term)) (λ n has. none has.0 has.1.0);
  shown = λ row there. absurd (none row there);
}

-- a list of a key's units has as many records as the key
pub list_counted : (trees : Trees) (db : ℤ) (index : ℕ) (register : Register) (term : List ℕ) (list : List Posting) (records : ℕ) → ListsUnits plain_rows trees db (key_in index register term) list
    → IsCount (IsInRecord list) records → RowsCount trees db (key_in index register term) records
list_counted trees db index register term list records lists count = record {
  count = count_so (IsInRecord list) (HasRowIn trees db (key_in index register term)) records (λ n. (
    λ p.
        let row = (lists.units p.0.sysno).there (place_of p.0) (place_in list p.0 p.1) in
        (row.0, (row.1, row.2.0 ∙ ap (λ (m : ℕ). Int (pos m)) p.2)),
    λ row. let place = (lists.units n).shown row.0 row.1 in (_, placed_at n list place.0 place.1, refl),
  )) count;
  shown = lists.whole;
}

-- a count that isn't of a UTF-8 term, or of a row that shows no posting, can't be shown
unshown_hides : (trees : Trees) (db : ℤ) (index : ℕ) (register : Register) (term : List ℕ) → HasShownNone trees db (key_in index register term) → HidesCount plain_rows trees db index register term
unshown_hides trees db index register term bad records shows = let it = shows.0.shown bad.0 bad.1 in bad.2 it.0 it.1

row_counted : (trees : Trees) (db : ℤ) (index : ℕ) (register : Register) (term : List ℕ) (records : ℕ) → RowsCount trees db (key_in index register term) records
    → (row : Row) → IsUnderKey trees db (key_in index register term) row → 1 ≤ records
row_counted trees db index register term records counts row under =
    let p = counts.shown row under in
    some_count (HasRowIn trees db (key_in index register term)) records p.0.sysno counts.count (row, (under, p.1.0))

-- ---- all rows of a register

module _ (s : State) (store : IsStore s) (db : ℤ) (index : ℕ) (register : Register) (rows : List Row) (are : IsListOf (IsRest postings_tree (register_front db index register) s.now.trees) rows) where
  abbrev trees : Trees
  trees = s.now.trees

  in_row : (term : List ℕ) (n : ℕ) → IsShown rows term n ↔ HasRowIn trees db (key_in index register term) n
  in_row term n = (
    λ shown.
        let is = begins shown.0 (Text term) shown.2.0 (λ none. cc) in
        (drop 1 shown.0, (subst (IsRest postings_tree (register_front db index register) trees) is ((are.each shown.0).0 shown.1), sym (ap (λ (r : Row). column r 1) is) ∙ shown.2.1)),
    λ has. (Text term ∷ has.0, (are.each (Text term ∷ has.0)).1 has.1.0, (refl, has.1.1)),
  )

  typed : (row : Row) → IsRest postings_tree (register_front db index register) trees row → map code row ≡ 3 ∷ 1 ∷ 1 ∷ 1 ∷ []
  typed row there = ap (drop 4) (codes_there store_schema 3 postings postings_static s (Int there.0 ∷ register_front db index register ++ row) store there.1)

  module _ (occur : (row : Row) → Has rows row → IsOccurrenceRow row) where
    -- each row is that of a place of a term
    row_is : (row : Row) → Has rows row → (term : List ℕ) × (p : Posting) × (row ≡ term_of_row term p)
    row_is row here =
        let it = occur row here in
        (it.1, it.2, spread row (3 ∷ 1 ∷ 1 ∷ 1 ∷ []) (typed row ((are.each row).0 here)) ∙ (λ i. it.3 i ∷ it.4.0 i ∷ it.4.1 i ∷ it.4.2 i ∷ []))

    spots_rise : IsStrictlySortedBy spot_cmp (map spot_at rows)
    spots_rise = strictly_mapped row_cmp spot_cmp spot_at rows (λ a b here there less.
        let p = row_is a here in
        let q = row_is b there in
        let one = spot_is a here in
        let two = spot_is b there in
        rw (one, two) (spots_order p.0 q.0 p.1 q.1 (rw (p.2, q.2) at less))) are.rising
      where
        spot_is : (row : Row) (here : Has rows row) → spot_at row ≡ ((row_is row here).0, (row_is row here).1)
        spot_is row here = let p = row_is row here in ap spot_at p.2 ∙ spot_shows p.0 (posting_row p.1) p.1 (refl, refl, refl)

    -- a spot is shown by a row
    row_of : (spot : Spot) → Has (map spot_at rows) spot → Has rows (term_of_row spot.0 spot.1)
    row_of spot h =
        let row = has_mapped spot_at rows spot h in
        let p = row_is row.0 row.1 in
        let is : spot ≡ (p.0, p.1) = row.2 ∙ ap spot_at p.2 ∙ spot_shows p.0 (posting_row p.1) p.1 (refl, refl, refl) in
        subst (λ (x : Spot). Has rows (term_of_row x.0 x.1)) (sym is) (subst (Has rows) p.2 row.1)

  module _ (terms : List TermCount) (counts : AreCounts (IsShown rows) terms) (occur : (row : Row) → Has rows row → IsOccurrenceRow row) where
    shown_all : (term : List ℕ) → AreAllShown trees db (key_in index register term)
    shown_all term row there = let it = occur (Text term ∷ row) ((are.each (Text term ∷ row)).1 there) in (it.2, it.4)

    pub rows_list_all : ListsAll plain_rows trees db index register terms
    rows_list_all = record {
      rising = counts.rising;
      each = λ t h.
          let some = counts.some t h in
          let it = occur some.1.0 some.1.1 in
          let same : Text it.1 ≡ Text t.term = sym it.3 ∙ some.1.2.0 in (
            tt,
            some_count (IsShown rows t.term) t.records some.0 (counts.counts t h) some.1,
            (
              record { count = count_so (IsShown rows t.term) (HasRowIn trees db (key_in index register t.term)) t.records (in_row t.term) (counts.counts t h); shown = shown_all t.term },
              λ _. subst IsUtf8 (let e : it.1 ≡ t.term = cc in e) it.5,
            ),
          );
      others = λ term asked none. record {
        count = count_none (HasRowIn trees db (key_in index register term)) (λ n has. let t = counts.found term n ((in_row term n).1 has) in none t.0 t.1 t.2);
        shown = shown_all term;
      };
    }

    -- and their places, where each row stands for one
    pub rows_sum_up : (totals : Totals) → totals.terms ≡ capped (length terms) → totals.occurrences ≡ capped (length rows) → SumsUp plain_rows trees db index register totals
    rows_sum_up totals many some = record {
      all = terms;
      are = rows_list_all;
      terms = many;
      whole = λ t h. shown_all t.term;
      spots = map spot_at rows;
      rising = spots_rise occur;
      under = λ spot h. counts.found spot.0 spot.1.sysno (term_of_row spot.0 spot.1, row_of occur spot h, (refl, refl));
      told = λ t h sysno places reads place. (
        λ there.
            let p = posting_at sysno place in
            let read = reads.shown (posting_row p) ((are.each (term_of_row t.term p)).0 (row_of occur (t.term, p) there), refl) in
            let same : p ≡ posting_at sysno read.0 = one_posting (posting_row p) p (posting_at sysno read.0) (refl, refl, refl) read.2 in
            subst (Has places) (sym (ap place_of same)) read.1,
        λ there.
            let row = reads.there place there in
            subst (Has (map spot_at rows)) (spot_shows t.term row.0 (posting_at sysno place) row.2) (mapped_has spot_at rows (Text t.term ∷ row.0) ((are.each (Text t.term ∷ row.0)).1 row.1)),
      );
      occurrences = some ∙ ap capped (sym (length-map rows spot_at));
    }

  pub rows_hide : SomeIsNoOccurrence rows → HidesSome plain_rows trees db index register
  rows_hide bad =
      let there = (are.each bad.0).0 bad.1 in
      let text = text_first bad.0 (1 ∷ 1 ∷ 1 ∷ []) (typed bad.0 there) in
      let row = drop 1 bad.0 in
      let under : IsUnderKey trees db (key_in index register text.0) row = subst (IsRest postings_tree (register_front db index register) trees) text.1 there in (
        text.0,
        λ records shows.
            let p = shows.0.shown row under in
            bad.2 (subst IsOccurrenceRow (sym text.1) (omega arith, text.0, p.0, refl, p.1, shows.1 (row_counted trees db index register text.0 records shows.0 row under))),
      )

-- ---- the terms nearest to a text, one after the other

-- a row that shows a text has a column
pub some_column : (row : Row) (term : List ℕ) → column row 0 ≡ Text term → 0 < length row
some_column [] term is = absurd (let e : Null ≡ Text term = is in cc)
some_column (v ∷ row) term is = omega arith

-- the row of one, or none, shows it
pub found_told : (P : List ℕ → Type 0) (IsNearer : List ℕ → List ℕ → Type 0) (rows : List Row) → ShowsNearest P IsNearer rows → (term : Option (String Global)) → ShowsTerm rows term → FindsNearest P IsNearer term
found_told P IsNearer rows shows None told = subst (ShowsNearest P IsNearer) told shows
found_told P IsNearer rows shows (Some text) told =
    let it = (subst (ShowsNearest P IsNearer) told.2 shows).1 in
    let head : Text it.0 ≡ Text (string_bytes text) = sym (ap (λ (r : Row). column r 0) it.1) ∙ told.3 in
    let same : it.0 ≡ string_bytes text = cc in
    (subst P same it.2, λ other p. subst (λ t. ¬ IsNearer other t) same (it.3 other p))

-- a row that shows no term hides one
pub text_hidden : (P : List ℕ → Type 0) (IsNearer : List ℕ → List ℕ → Type 0) (rows : List Row) → ShowsNearest P IsNearer rows → ¬ ((row : Row) → Has rows row → IsTermRow row) → HidesText P IsNearer
text_hidden P IsNearer [] shows bad = absurd (bad (λ row h. absurd h))
text_hidden P IsNearer (first ∷ rest) shows bad =
    let it = shows.1 in (
      it.0,
      it.2,
      it.3,
      λ text. bad (λ row h. elim h [
        | inl same ↦ (omega (arith, ap length (same ∙ it.1)), (it.0, ap (λ (r : Row). column r 0) (same ∙ it.1), text))
        | inr later ↦ absurd (subst (λ l. Has l row) shows.0 later)
      ]),
    )

-- a term that isn't UTF-8 has no count that can be shown
text_hides : (trees : Trees) (db : ℤ) (index : ℕ) (register : Register) (term : List ℕ) → HasTerm trees db (pos index) (pos (register_code register)) term → (¬ IsUtf8 term) → HidesCount plain_rows trees db index register term
text_hides trees db index register term has bad records shows = bad (shows.1 (row_counted trees db index register term records shows.0 has.0 has.1))

-- ---- the term nearest to a text

module _ (at : RegisterOf) (way : Way) (text : List ℕ) (trees : Trees) where
  pub text_hides_next : HidesText (HasOn at way text trees) (IsNearer way) → HidesNext at way text trees
  text_hides_next hides = (hides.0, (hides.1, hides.2), text_hides trees at.db.0 at.index at.register hides.0 hides.1.0 hides.3)

  pub count_hides_next : (term : List ℕ) → IsNext at way text trees term → HasShownNone trees at.db.0 (key_in at.index at.register term) → HidesNext at way text trees
  count_hides_next term next bad = (term, next, unshown_hides trees at.db.0 at.index at.register term bad)

  pub next_counted : (term : List ℕ) → IsNext at way text trees term → IsUtf8 term → (t : TermCount) → (t.term ≡ term) × RowsCount trees at.db.0 (key_in at.index at.register term) t.records → FindsCount at way text trees (Some t)
  next_counted term next utf8 t counted = subst (λ u. IsNext at way text trees u × RowsCount trees at.db.0 (key_in at.index at.register u) t.records × IsUtf8 u) (sym counted.0) (next, counted.1, utf8)

-- what was found from a text as it is given
module _ (at : RegisterOf) (way : Way) (trees : Trees) (given text : List ℕ) (is : given ≡ text) where
  pub found_as : (count other : Option TermCount) → count ≡ other → FindsCount at way given trees count → FindsCount at way text trees other
  found_as count other also found = subst (λ t. FindsCount at way t trees other) is (subst (FindsCount at way given trees) also found)

  pub hidden_as : HidesNext at way given trees → HidesNext at way text trees
  hidden_as hides = subst (λ t. HidesNext at way t trees) is hides

-- ---- on a way from a text

comes_not_or : (s t : List ℕ) → Comes s t ⊎ ¬ Comes s t
comes_not_or s t = elim (cases_Bool (is_lt (slice_cmp nat_cmp s t))) [ inl is ↦ inl (comes_is s t is) | inr isnt ↦ inr ((comes_not s t).0 isnt) ]

comes_below : (s t u : List ℕ) → Comes s t → (¬ Comes u t) → Comes s u
comes_below s t u low high = elim (comes_or u t) [
  | inl lower ↦ absurd (high lower)
  | inr other ↦ elim other [ inl same ↦ subst (Comes s) (sym same) low | inr above ↦ nat_list_cmp_total.trans s t u low above ]
]

on_or : (way : Way) (text u : List ℕ) → IsOn way text u ⊎ ¬ IsOn way text u
on_or Up text u = elim (comes_not_or u text) [ inl low ↦ inr (λ high. high low) | inr high ↦ inl high ]
on_or Down text u = comes_not_or u text

never_nearer : (way : Way) (u : List ℕ) → ¬ IsNearer way u u
never_nearer Up u h = never_itself nat_list_cmp_total u h
never_nearer Down u h = never_itself nat_list_cmp_total u h

-- of two terms one is nearer
nearer_or : (way : Way) (t u : List ℕ) → IsNearer way t u ⊎ ((t ≡ u) ⊎ IsNearer way u t)
nearer_or Up t u = comes_or t u
nearer_or Down t u = elim (comes_or t u) [ inl low ↦ inr (inr low) | inr other ↦ elim other [ inl same ↦ inr (inl same) | inr high ↦ inl high ] ]

-- what is further than a term on the way is on it
further_on : (way : Way) (text t u : List ℕ) → IsOn way text t → IsNearer way t u → IsOn way text u
further_on Up text t u on near = λ low. on (nat_list_cmp_total.trans t u text near low)
further_on Down text t u on near = nat_list_cmp_total.trans u t text near on

-- what isn't on the way is nearer than a term on it
passed_nearer : (way : Way) (text t u : List ℕ) → (¬ IsOn way text t) → IsOn way text u → IsNearer way t u
passed_nearer Up text t u passed on = elim (comes_not_or t text) [ inl low ↦ comes_below t text u low on | inr high ↦ absurd (passed high) ]
passed_nearer Down text t u passed on = comes_below u text t on passed

-- ---- the text from which the way goes on

pub behind_up : (term : List ℕ) (made : Result (String Global) AllocError) → IfOk made (λ text. string_bytes text ≡ term ++ 0 ∷ []) → IfOk made (λ text. (u : List ℕ) → IsOn Up (string_bytes text) u ↔ IsNearer Up term u)
behind_up term (Ok text) is = λ u. (λ high. least_above u term ((comes_not u (term ++ 0 ∷ [])).1 (subst (λ t. ¬ Comes u t) is high)), λ low. subst (λ t. ¬ Comes u t) (sym is) ((comes_not u (term ++ 0 ∷ [])).0 (above_least u term low)))
behind_up term (Err e) is = tt

pub behind_down : (term : List ℕ) (made : Result (String Global) AllocError) → IfOk made (λ text. string_bytes text ≡ term) → IfOk made (λ text. (u : List ℕ) → IsOn Down (string_bytes text) u ↔ IsNearer Down term u)
behind_down term (Ok text) is = λ u. (λ low. subst (Comes u) is low, λ low. subst (Comes u) (sym is) low)
behind_down term (Err e) is = tt

-- ---- terms that were found

long_as : (way : Way) (terms : List TermCount) → length (in_order way terms) ≡ length terms
long_as Up terms = refl
long_as Down terms = length-reverse terms

has_more : (way : Way) (terms : List TermCount) (t u : TermCount) → Has (in_order way (terms ++ t ∷ [])) u ↔ (Has (in_order way terms) u ⊎ (u ≡ t))
has_more Up terms t u = (
  λ h. elim (has_either terms (t ∷ []) u h) [ inl old ↦ inl old | inr new ↦ elim new [ inl same ↦ inr same | inr none ↦ absurd none ] ],
  λ h. elim h [ inl old ↦ has_left terms (t ∷ []) u old | inr same ↦ has_right terms (t ∷ []) u (inl same) ],
)
has_more Down terms t u = rw (reverse-append terms (t ∷ [])) (λ h. elim h [ inl same ↦ inr same | inr old ↦ inl old ], λ h. elim h [ inl old ↦ inr old | inr same ↦ inl same ])

first_rises : (t : TermCount) (rest : List TermCount) → ((u : TermCount) → Has rest u → Comes t.term u.term) → IsStrictlySortedBy term_cmp rest → IsStrictlySortedBy term_cmp (t ∷ rest)
unfolding IsStrictlySortedBy
first_rises t rest above up = (all_from (λ u. term_cmp t u ≡ Less) rest above, up)

more_rise : (way : Way) (terms : List TermCount) (t : TermCount) → ((u : TermCount) → Has (in_order way terms) u → IsNearer way u.term t.term) → IsStrictlySortedBy term_cmp (in_order way terms) → IsStrictlySortedBy term_cmp (in_order way (terms ++ t ∷ []))
more_rise Up terms t nearer up = pushed_rises term_total terms t up nearer
more_rise Down terms t nearer up = rw (reverse-append terms (t ∷ [])) (first_rises t (reverse terms) nearer up)

none_rise : (way : Way) → IsStrictlySortedBy term_cmp (in_order way [])
unfolding IsStrictlySortedBy
none_rise Up = tt
none_rise Down = tt

none_had : (way : Way) (t : TermCount) → ¬ Has (in_order way []) t
none_had Up t h = h
none_had Down t h = h

-- from the start on this way up to the text all terms are listed
pub record AreGoneOver (at : RegisterOf) (way : Way) (start text : List ℕ) (trees : Trees) (terms : List TermCount) : Type 0 where
  pub within : (u : List ℕ) → IsOn way text u → IsOn way start u
  pub lists : ListsCounts plain_rows trees at.db.0 at.index at.register (λ u. IsOn way start u × ¬ IsOn way text u) (in_order way terms)

module _ (at : RegisterOf) (way : Way) (start text : List ℕ) (trees : Trees) where
  abbrev counts_so : List ℕ → ℕ → Type 0
  counts_so u records = RowsCount trees at.db.0 (key_in at.index at.register u) records

  pub none_gone : text ≡ start → (terms : List TermCount) → terms ≡ [] → AreGoneOver at way start text trees terms
  none_gone is terms none = subst (AreGoneOver at way start text trees) (sym none) record {
    within = λ u. subst (λ t. IsOn way t u) is;
    lists = record {
      rising = none_rise way;
      each = λ t h. absurd (none_had way t h);
      others = λ u asked no'. absurd (asked.1 (subst (λ t. IsOn way t u) (sym is) asked.0));
    };
  }

  module _ (terms : List TermCount) (gone : AreGoneOver at way start text trees terms) where
    unlisted : (u : List ℕ) → IsOn way start u → ((t : TermCount) → Has (in_order way terms) t → t.term ≢ u) → ¬ HasOn at way text trees u → counts_so u 0
    unlisted u on none absent = elim (on_or way text u) [
      | inl left ↦ none_counted trees at.db.0 at.index at.register u (λ row there. absent ((row, there), left))
      | inr passed ↦ gone.lists.others u (on, passed) none
    ]

    passed : (t : TermCount) → Has (in_order way terms) t → (u : List ℕ) → IsOn way text u → IsNearer way t.term u
    passed t h u on = passed_nearer way text t.term u (gone.lists.each t h).0.1 on

    pub gone_all : (n : ℕ) → length terms ≤ n → (length terms < n → (u : List ℕ) → ¬ HasOn at way text trees u) → AreNearest at way start trees n terms
    gone_all n few none = record {
      few = omega (arith, few, long_as way terms);
      are = record {
        rising = gone.lists.rising;
        each = λ t h. let it = gone.lists.each t h in ((it.0.0, inr (t, h, never_nearer way t.term)), it.1, it.2);
        others = λ u asked no'. unlisted u asked.0 no' (λ has. elim asked.1 [ inl some ↦ none (omega (arith, some, long_as way terms)) u has | inr t ↦ t.2 (passed t.0 t.1 u has.1) ]);
      };
    }

    pub gone_hides : (n : ℕ) → length terms < n → HidesNext at way text trees → HideNearest at way start trees n
    gone_hides n few next =
        hides_next plain_rows trees at.db.0 at.index at.register (IsOn way start) (IsNearer way) n next.0 (gone.within next.0 next.1.0.1) next.2 (in_order way terms) (omega (arith, few, long_as way terms)) (record {
          rising = gone.lists.rising;
          each = λ t h. let it = gone.lists.each t h in ((it.0.0, passed t h next.0 next.1.0.1), it.1, it.2);
          others = λ u asked no'. unlisted u asked.0 no' (λ has. next.1.1 u has asked.1);
        })

    pub gone_more : (t : TermCount) → FindsCount at way text trees (Some t) → (behind : List ℕ) → ((u : List ℕ) → IsOn way behind u ↔ IsNearer way t.term u)
        → (more : List TermCount) → more ≡ terms ++ t ∷ [] → AreGoneOver at way start behind trees more
    gone_more t next behind is more with_it =
        let further = λ (u : List ℕ) (on : IsOn way behind u). further_on way text t.term u next.0.0.1 ((is u).0 on) in
        subst (AreGoneOver at way start behind trees) (sym with_it) record {
          within = λ u on. gone.within u (further u on);
          lists = record {
            rising = more_rise way terms t (λ u h. passed u h t.term next.0.0.1) gone.lists.rising;
            each = λ u h. elim ((has_more way terms t u).0 h) [
              | inl old ↦ (let it = gone.lists.each u old in ((it.0.0, λ on. it.0.1 (further u.term on)), it.1, it.2))
              | inr same ↦ subst (λ (v : TermCount). (IsOn way start v.term × ¬ IsOn way behind v.term) × (1 ≤ v.records) × shows_count plain_rows trees at.db.0 (key_in at.index at.register v.term) v.records) (sym same)
                  ((gone.within t.term next.0.0.1, λ on. never_nearer way t.term ((is t.term).0 on)), row_counted trees at.db.0 at.index at.register t.term t.records next.1 next.0.0.0.0 next.0.0.0.1, (next.1, λ _. next.2))
            ];
            others = λ u asked no'. unlisted u asked.0 (λ v h. no' v ((has_more way terms t v).1 (inl h))) (λ has. elim (nearer_or way t.term u) [
              | inl near ↦ asked.1 ((is u).1 near)
              | inr other ↦ elim other [ inl same ↦ no' t ((has_more way terms t t).1 (inr refl)) same | inr near ↦ next.0.1 u has near ]
            ]);
          };
        }
