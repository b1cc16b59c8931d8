-- Rows of `dict` as the terms of a register, whatever the rows hold.
use Rattle.zeb_packed.proofs.Cited.{◌≡◌, ◌↔◌, ◌⊎◌, ◌∙◌, ◌+◌, ◌<◌, ◌≤◌, ◌^◌, ℕ, ℤ, pos, FitsSigned, w64, to_z, of_z, zero, suc, true, false, List, [], ◌∷◌, ◌++◌, length, get_or, map, take, drop, reverse, refl, sym, ap, ap₂, subst, inl, inr, Ordering, Less, Equal, Greater, nat_cmp, arith, length-map, length-reverse, map-append, take-append-drop, take_more, to_z-of_z, is_lt, ordering_then, slice_cmp, nat_list_cmp_total, IsUtf8, Int, Text, Row, column, row_cmp, State, as_count, limited, Has, all_from, all_has, has_either, has_mapped, mapped_has, row_cmp_total, value_cmp-Text, Register, TermCount, key_in, term_cmp, IsRestBefore, IsRestFrom, CountsTerm, count_row, first_two, IsFallingListOf, register_front, packed_blocks, IsListOf, IsRest, IsStore, store_schema, dict, dict_static, dict_tree, codes_there, never_itself, has_at, has_taken, term_total, value_cmp, IsTotalOrder, EndsCounting, TellTerms, begins, comes_is, comes_not, cut_rises, flipped_total, has_reversed, reversed_rises, same_bytes, text_first, taken_or, take_rises, taken_below, Comes, HidesBefore, HidesCount, HidesFrom, HidesNearest, HidesSome, IsNearest, ListsAll, ListsBefore, ListsCounts, ListsFrom, ListsNearest, shows_count}
use Rattle.std.specs.List.Sorted.{IsStrictlySortedBy}
use Rattle.zeb_register.proofs.NearestTerms.{hides_next}
use Rattle.zeb_packed.proofs.PackedSound.{one_dict}

-- one row more shows one term more
pub counted_more : (rows : List Row) (i : ℕ) (row : Row) (ts : List TermCount) (t : TermCount) → i < length rows → row ≡ get_or rows i row → map count_row ts ≡ map first_two (take i rows) → count_row t ≡ first_two row
    → map count_row (ts ++ t ∷ []) ≡ map first_two (take (i + 1) rows)
counted_more rows i row ts t within is before one =
    let more : take (i + 1) rows ≡ take i rows ++ row ∷ [] = take_more rows i row within ∙ ap (λ r. take i rows ++ r ∷ []) (sym is) in
    map-append count_row ts (t ∷ []) ∙ ap₂ (λ front last. front ++ last ∷ []) before one ∙ sym (ap (map first_two) more ∙ map-append first_two (take i rows) (row ∷ []))

-- the rows that are looked at are the first n, where the limit of the query stands for n
pub first_taken : (n : ℕ) (limit : ℤ) (rows seen all : List Row) → FitsSigned w64 limit → ((some every : List Row) → some ≡ limited (as_count (Int limit)) every → length some < 2 ^ 63 → some ≡ take n every)
    → rows ≡ limited (as_count (Int (to_z w64 (of_z w64 limit)))) all → seen ≡ rows → length seen < 2 ^ 63 → seen ≡ take n all
first_taken n limit rows seen all fits stands cut same few =
    same ∙ stands rows all (subst (λ z. rows ≡ limited (as_count (Int z)) all) (to_z-of_z {w = w64} {z = limit} fits) cut) (subst (λ l. length l < 2 ^ 63) same few)

-- in a list that rises, what isn't in front of an item is that item or above it
behind_cut : {X : Type 0} (R : X → X → Ordering) (xs : List X) (i : ℕ) (x : X) → IsStrictlySortedBy R xs → i < length xs → x ≡ get_or xs i x → (z : X) → Has (drop i xs) z → (z ≡ x) ⊎ (R x z ≡ Less)
unfolding IsStrictlySortedBy
behind_cut R [] i x up within is z h = absurd (omega (arith, within))
behind_cut R (y ∷ xs) zero x up within is z (inl same) = inl (same ∙ sym is)
behind_cut R (y ∷ xs) zero x up within is z (inr later) = inr (subst (λ w. R w z ≡ Less) (sym is) (all_has (λ w. R y w ≡ Less) xs z up.0 later))
behind_cut R (y ∷ xs) (suc i) x up within is z h = behind_cut R xs i x up.1 (omega (arith, within)) is z h

-- ---- the rows of a register

module _ (s : State) (store : IsStore s) (db : ℤ) (index : ℕ) (register : Register) where
  abbrev D : Row → Type 0
  D = IsRest dict_tree (register_front db index register) s.now.trees

  abbrev Counts : (List ℕ → Type 0) → List TermCount → Type 0
  Counts = ListsCounts packed_blocks s.now.trees db index register

  row_text : (row : Row) → D row → (term : List ℕ) × (row ≡ Text term ∷ drop 1 row)
  row_text row there = text_first row (1 ∷ []) (ap (drop 4) (codes_there store_schema 5 dict dict_static s (Int there.0 ∷ register_front db index register ++ row) store there.1))

  -- a term has one row
  one_row : (term : List ℕ) (x y : Row) → D (Text term ∷ x) → D (Text term ∷ y) → x ≡ y
  one_row term x y here there = one_dict s store db (key_in index register term) x y here there

  in_order : (x y : Row) (t u : List ℕ) → D x → D y → column x 0 ≡ Text t → column y 0 ≡ Text u → row_cmp x y ≡ Less → Comes t u
  in_order x y t u here there left right less = from (slice_cmp nat_cmp t u) refl
    where
      x_is : x ≡ Text t ∷ drop 1 x
      x_is = begins x (Text t) left (λ none. cc)

      y_is : y ≡ Text u ∷ drop 1 y
      y_is = begins y (Text u) right (λ none. cc)

      whole : ordering_then (slice_cmp nat_cmp t u) (row_cmp (drop 1 x) (drop 1 y)) ≡ Less
      whole = ap (λ o. ordering_then o (row_cmp (drop 1 x) (drop 1 y))) (sym (value_cmp-Text t u)) ∙ sym (ap₂ row_cmp x_is y_is) ∙ less

      from : (o : Ordering) → slice_cmp nat_cmp t u ≡ o → Comes t u
      from Less is = is
      from Greater is = absurd (let e : Greater ≡ Less = ap (λ o. ordering_then o (row_cmp (drop 1 x) (drop 1 y))) (sym is) ∙ whole in cc)
      from Equal is =
          let same : t ≡ u = same_bytes t u is in
          let rest : drop 1 x ≡ drop 1 y = one_row u (drop 1 x) (drop 1 y) (subst (λ v. D (Text v ∷ drop 1 x)) same (subst D x_is here)) (subst D y_is there) in
          let own : x ≡ y = x_is ∙ ap₂ (λ (v : List ℕ) (r : Row). Text v ∷ r) same rest ∙ sym y_is in
          absurd (never_itself row_cmp_total y (subst (λ (r : Row). row_cmp r y ≡ Less) own less))

  -- a row that counts a term shows the term's count
  row_counts : (row : Row) (t : TermCount) → D row → first_two row ≡ count_row t → CountsTerm row → (1 ≤ t.records) × shows_count packed_blocks s.now.trees db (key_in index register t.term) t.records
  row_counts row t there same counts =
      let text : column row 0 ≡ Text t.term = ap (λ (r : Row). column r 0) same in
      let number : column row 1 ≡ Int (pos t.records) = ap (λ (r : Row). column r 1) same in
      let e : Text counts.0 ≡ Text t.term = sym counts.1 ∙ text in
      let f : Int (pos counts.3.0) ≡ Int (pos t.records) = sym counts.3.1 ∙ number in
      let own : counts.0 ≡ t.term = cc in
      let many : counts.3.0 ≡ t.records = cc in
      let is : row ≡ Text t.term ∷ drop 1 row = begins row (Text t.term) text (λ none. cc) in
      let at = subst D is there in
      let some : 1 ≤ t.records = omega (arith, many, counts.3.2) in
      let few : t.records ≤ 999999999 = omega (arith, many, counts.3.3) in
      let value : column (drop 1 row) 0 ≡ Int (pos t.records) = sym (ap (λ (r : Row). column r 1) is) ∙ number in (
        some,
        (
          record {
            said = λ other here. (some, few, ap (λ (r : Row). column r 0) (one_row t.term other (drop 1 row) here at) ∙ value);
            there = λ _. (drop 1 row, at);
          },
          λ _. subst IsUtf8 own counts.2,
        ),
      )

  -- a row that counts none hides its term's count
  row_hides : (row : Row) → D row → (¬ CountsTerm row) → (term : List ℕ) → column row 0 ≡ Text term → HidesCount packed_blocks s.now.trees db index register term
  row_hides row there bad term text records shows =
      let is : row ≡ Text term ∷ drop 1 row = begins row (Text term) text (λ none. cc) in
      let said = shows.0.said (drop 1 row) (subst D is there) in
      bad (term, text, shows.1 said.0, (records, ap (λ (r : Row). column r 1) is ∙ said.2, said.0, said.1))

  -- ---- rows that tell terms

  module _ (rows : List Row) (near : List TermCount) (told : TellTerms rows near) (ours : (row : Row) → Has rows row → D row) where
    shown_row : (t : TermCount) → Has near t → (row : Row) × Has rows row × (first_two row ≡ count_row t)
    shown_row t here = let it = has_mapped first_two rows (count_row t) (subst (λ (l : List Row). Has l (count_row t)) told.shown (mapped_has count_row near t here)) in (it.0, it.1, sym it.2)

    row_shown : (row : Row) → Has rows row → (t : TermCount) × Has near t × (first_two row ≡ count_row t)
    row_shown row here = has_mapped count_row near (first_two row) (subst (λ (l : List Row). Has l (first_two row)) (sym told.shown) (mapped_has first_two rows row here))

    many : length near ≡ length rows
    many = sym (length-map near count_row) ∙ ap length told.shown ∙ length-map rows first_two

    -- the terms are told that are asked for, where each of these that has a row has one of these rows
    counts_told : (P : List ℕ → Type 0) (terms : List TermCount) → ((t : TermCount) → Has terms t ↔ Has near t) → IsStrictlySortedBy term_cmp terms → ((row : Row) (term : List ℕ) → Has rows row → column row 0 ≡ Text term → P term)
        → ((term : List ℕ) (row : Row) → P term → D (Text term ∷ row) → Has rows (Text term ∷ row)) → Counts P terms
    counts_told P terms same up asked reach = record {
      rising = up;
      each = λ t h.
          let row = shown_row t ((same t).0 h) in
          let it = row_counts row.0 t (ours row.0 row.1) row.2 (told.counted row.0 row.1) in
          (asked row.0 t.term row.1 (ap (λ (r : Row). column r 0) row.2), it.0, it.1);
      others = λ term wanted none. record {
        said = λ row there.
            let t = row_shown (Text term ∷ row) (reach term row wanted there) in
            let e : Text term ≡ Text t.0.term = ap (λ (r : Row). column r 0) t.2 in
            absurd (none t.0 ((same t.0).1 t.1) (let own : t.0.term ≡ term = cc in own));
        there = λ some. absurd (omega (arith, some));
      };
    }

  -- in the order of their rows
  shown_order : (R : Row → Row → Ordering) (T : TermCount → TermCount → Ordering) → ((x y : Row) (t u : TermCount) → D x → D y → column x 0 ≡ Text t.term → column y 0 ≡ Text u.term → R x y ≡ Less → T t u ≡ Less)
      → (rows : List Row) (near : List TermCount) → map count_row near ≡ map first_two rows → ((row : Row) → Has rows row → D row) → IsStrictlySortedBy R rows → IsStrictlySortedBy T near
  unfolding IsStrictlySortedBy
  shown_order R T order rows [] shown ours up = tt
  shown_order R T order [] (t ∷ near) shown ours up = absurd (cc)
  shown_order R T order (x ∷ rows) (t ∷ near) shown ours up =
      let head : count_row t ≡ first_two x = cc in
      let tail : map count_row near ≡ map first_two rows = cc in (
        all_from (λ u. T t u ≡ Less) near (λ u there.
            let it = has_mapped first_two rows (count_row u) (subst (λ (l : List Row). Has l (count_row u)) tail (mapped_has count_row near u there)) in
            order x it.0 t u (ours x (inl refl)) (ours it.0 (inr it.1)) (sym (ap (λ (r : Row). column r 0) head)) (sym (ap (λ (r : Row). column r 0) it.2)) (all_has (λ r. R x r ≡ Less) rows it.0 up.0 it.1)),
        shown_order R T order rows near tail (λ y h. ours y (inr h)) up.1,
      )

  -- ---- all of them

  module _ (rows : List Row) (are : IsListOf D rows) where
    pub all_listed : (terms : List TermCount) → TellTerms rows terms → ListsAll packed_blocks s.now.trees db index register terms
    all_listed terms told =
        counts_told rows terms told (λ row h. (are.each row).0 h) (λ _. Unit {0}) terms (λ t. (λ h. h, λ h. h))
        (shown_order row_cmp term_cmp (λ x y t u here there left right less. in_order x y t.term u.term here there left right less) rows terms told.shown (λ row h. (are.each row).0 h) are.rising) (λ row term h is. tt) (λ term row wanted there. (are.each (Text term ∷ row)).1 there)

    pub all_hide : EndsCounting rows → HidesSome packed_blocks s.now.trees db index register
    all_hide ends =
        let there = (are.each ends.row).0 (has_at rows ends.at ends.row ends.is ends.within) in
        let text = row_text ends.row there in
        (text.0, row_hides ends.row there ends.bad text.0 (ap (λ (r : Row). column r 0) text.1))

  -- ---- those nearest to a text: the rows of one side, in an order in which the nearest come first

  module _ (R : Row → Row → Ordering) (total : IsTotalOrder R) (T : List ℕ → List ℕ → Ordering) (texts : IsTotalOrder T)
      (order : (x y : Row) (t u : List ℕ) → D x → D y → column x 0 ≡ Text t → column y 0 ≡ Text u → R x y ≡ Less → T t u ≡ Less)
      (IsOn : List ℕ → Type 0) (Q : Row → Type 0) (on : (row : Row) (term : List ℕ) → column row 0 ≡ Text term → Q row ↔ IsOn term)
      (every : List Row) (each : (row : Row) → Has every row ↔ (D row × Q row)) (up : IsStrictlySortedBy R every) (n : ℕ) where
    abbrev IsNearer : List ℕ → List ℕ → Type 0
    IsNearer t u = T t u ≡ Less

    abbrev rows : List Row
    rows = take n every

    there : (row : Row) → Has rows row → D row × Q row
    there row h = (each row).0 (has_taken n every row h)

    rows_up : IsStrictlySortedBy R rows
    rows_up = take_rises total n every up

    at_most : length rows ≤ n
    at_most = elim (taken_or n every) [ inl is ↦ omega (arith, is) | inr is ↦ is.1 ]

    -- a row is one of the first n, or stands behind all of these
    first_or : (row : Row) → Has every row → Has rows row ⊎ ((x : Row) → Has rows x → R x row ≡ Less)
    first_or row h = elim (has_either rows (drop n every) row (subst (λ (l : List Row). Has l row) (sym (take-append-drop n every)) h)) [
      | inl first ↦ inl first
      | inr behind ↦ inr (λ x here. cut_rises R rows (drop n every) (subst (IsStrictlySortedBy R) (sym (take-append-drop n every)) up) x row here behind)
    ]

    -- what these rows show stands in the same order
    near_up : (xs : List Row) (near : List TermCount) → map count_row near ≡ map first_two xs → ((row : Row) → Has xs row → D row) → IsStrictlySortedBy R xs → IsStrictlySortedBy (λ t u. T t.term u.term) near
    near_up = shown_order R (λ t u. T t.term u.term) (λ x y t u here there left right less. order x y t.term u.term here there left right less)

    pub nearest_told : (near terms : List TermCount) → TellTerms rows near → ((t : TermCount) → Has terms t ↔ Has near t) → length terms ≡ length near
        → (IsStrictlySortedBy (λ t u. T t.term u.term) near → IsStrictlySortedBy term_cmp terms) → ListsNearest packed_blocks s.now.trees db index register IsOn IsNearer n terms
    nearest_told near terms told same long turn = record {
      few = omega (arith, long, enough, at_most);
      are = counts_told rows near told (λ row h. (there row h).0) (IsNearest packed_blocks s.now.trees db index register IsOn IsNearer n terms) terms same (turn (near_up rows near told.shown (λ r k. (there r k).0) rows_up)) (λ row term h is.
          let t = row_shown rows near told (λ r k. (there r k).0) row h in
          let e : Text term ≡ Text t.0.term = sym is ∙ ap (λ (r : Row). column r 0) t.2 in
          ((on row term is).0 (there row h).1, inr (t.0, (same t.0).1 t.1, λ nearer. never_itself texts term (subst (λ v. T v term ≡ Less) (let own : t.0.term ≡ term = cc in own) nearer)))) reach;
    }
      where
        enough : length near ≡ length rows
        enough = many rows near told (λ r k. (there r k).0)

        reach : (term : List ℕ) (row : Row) → IsNearest packed_blocks s.now.trees db index register IsOn IsNearer n terms term → D (Text term ∷ row) → Has rows (Text term ∷ row)
        reach term row asked here =
            let has : Has every (Text term ∷ row) = (each (Text term ∷ row)).1 (here, (on (Text term ∷ row) term refl).1 asked.0) in
            elim (has_either rows (drop n every) (Text term ∷ row) (subst (λ (l : List Row). Has l (Text term ∷ row)) (sym (take-append-drop n every)) has)) [
              | inl first ↦ first
              | inr behind ↦ absurd (elim asked.1 [
                | inl fewer ↦ elim (taken_or n every) [ inl is ↦ omega (arith, fewer, long, enough, is) | inr is ↦ subst (λ (l : List Row). Has l (Text term ∷ row)) is.0 behind ]
                | inr t ↦ (let x = shown_row rows near told (λ r k. (there r k).0) t.0 ((same t.0).0 t.1) in
                    t.2 (order x.0 (Text term ∷ row) t.0.term term (there x.0 x.1).0 here (ap (λ (r : Row). column r 0) x.2) refl (cut_rises R rows (drop n every) (subst (IsStrictlySortedBy R) (sym (take-append-drop n every)) up) x.0 (Text term ∷ row) x.1 behind)))
              ])
            ]

    pub nearest_hide : (ends : EndsCounting rows) (terms : List TermCount) → ((t : TermCount) → Has terms t ↔ Has ends.terms t) → length terms ≡ length ends.terms
        → (IsStrictlySortedBy (λ t u. T t.term u.term) ends.terms → IsStrictlySortedBy term_cmp terms) → HidesNearest packed_blocks s.now.trees db index register IsOn IsNearer n
    nearest_hide ends terms same long turn =
        hides_next packed_blocks s.now.trees db index register IsOn IsNearer n text.0 ((on ends.row text.0 shown).0 own.1) (row_hides ends.row own.0 ends.bad text.0 shown) terms
        (omega (arith, long, many front ends.terms ends.told ours, length_taken, at_most))
        (counts_told front ends.terms ends.told ours (λ other. IsOn other × IsNearer other text.0) terms same (turn (near_up front ends.terms ends.told.shown ours (take_rises total ends.at rows rows_up))) (λ row term h is. (
          (on row term is).0 (there row (has_taken ends.at rows row h)).1,
          order row ends.row term text.0 (ours row h) own.0 is shown (taken_below total rows ends.at ends.row rows_up ends.within ends.is row h),
        )) reach)
      where
        front : List Row
        front = take ends.at rows

        ours : (row : Row) → Has front row → D row
        ours row h = (there row (has_taken ends.at rows row h)).0

        here : Has rows ends.row
        here = has_at rows ends.at ends.row ends.is ends.within

        own : D ends.row × Q ends.row
        own = there ends.row here

        text : (term : List ℕ) × (ends.row ≡ Text term ∷ drop 1 ends.row)
        text = row_text ends.row own.0

        shown : column ends.row 0 ≡ Text text.0
        shown = ap (λ (r : Row). column r 0) text.1

        length_taken : length front < length rows
        length_taken = elim (taken_or ends.at rows) [ inl is ↦ omega (arith, is, ends.within) | inr is ↦ omega (arith, is.1, ends.within) ]

        back : (t u : List ℕ) → IsNearer t u → IsNearer u t → ⊥
        back t u one two = never_itself texts t (texts.trans t u t one two)

        reach : (term : List ℕ) (row : Row) → IsOn term × IsNearer term text.0 → D (Text term ∷ row) → Has front (Text term ∷ row)
        reach term row asked at =
            elim (first_or (Text term ∷ row) ((each (Text term ∷ row)).1 (at, (on (Text term ∷ row) term refl).1 asked.0))) [
              | inr behind ↦ absurd (back term text.0 asked.1 (order ends.row (Text term ∷ row) text.0 term own.0 at shown refl (behind ends.row here)))
              | inl first ↦ elim (has_either front (drop ends.at rows) (Text term ∷ row) (subst (λ (l : List Row). Has l (Text term ∷ row)) (sym (take-append-drop ends.at rows)) first)) [
                | inl it ↦ it
                | inr later ↦ absurd (elim (behind_cut R rows ends.at ends.row rows_up ends.within ends.is (Text term ∷ row) later) [
                  | inl is ↦ (let e : Text term ≡ Text text.0 = ap (λ (r : Row). column r 0) is ∙ shown in never_itself texts text.0 (subst (λ v. T v text.0 ≡ Less) (let w : term ≡ text.0 = cc in w) asked.1))
                  | inr above ↦ back term text.0 asked.1 (order ends.row (Text term ∷ row) text.0 term own.0 at shown refl above)
                ])
              ]
            ]

  -- ---- the two sides

  abbrev turned : List ℕ → List ℕ → Ordering
  turned t u = slice_cmp nat_cmp u t

  abbrev row_turned : Row → Row → Ordering
  row_turned x y = row_cmp y x

  module _ (start : List ℕ) (n : ℕ) (every : List Row) where
    text_at : (row : Row) (term : List ℕ) → column row 0 ≡ Text term → value_cmp (column row 0) (Text start) ≡ slice_cmp nat_cmp term start
    text_at row term is = ap (λ v. value_cmp v (Text start)) is ∙ value_cmp-Text term start

    from_on : (row : Row) (term : List ℕ) → column row 0 ≡ Text term → (is_lt (value_cmp (column row 0) (Text start)) ≡ false) ↔ ¬ Comes term start
    from_on row term is = (λ h. (comes_not term start).0 (sym (ap is_lt (text_at row term is)) ∙ h), λ h. ap is_lt (text_at row term is) ∙ (comes_not term start).1 h)

    before_on : (row : Row) (term : List ℕ) → column row 0 ≡ Text term → (is_lt (value_cmp (column row 0) (Text start)) ≡ true) ↔ Comes term start
    before_on row term is = (λ h. comes_is term start (sym (ap is_lt (text_at row term is)) ∙ h), λ h. ap is_lt (text_at row term is ∙ h))

    abbrev NotBelow : Row → Type 0
    NotBelow row = is_lt (value_cmp (column row 0) (Text start)) ≡ false

    abbrev Below : Row → Type 0
    Below row = is_lt (value_cmp (column row 0) (Text start)) ≡ true

    module _ (are : IsListOf (IsRestFrom dict_tree (register_front db index register) start s.now.trees) every) where
      pub from_listed : (terms : List TermCount) → TellTerms (take n every) terms → ListsFrom packed_blocks s.now.trees db index register start n terms
      from_listed terms told =
          nearest_told row_cmp row_cmp_total (slice_cmp nat_cmp) nat_list_cmp_total in_order (λ term. ¬ Comes term start) NotBelow from_on every are.each are.rising n terms terms told (λ t. (λ h. h, λ h. h)) refl (λ up. up)

      pub from_hide : EndsCounting (take n every) → HidesFrom packed_blocks s.now.trees db index register start n
      from_hide ends =
          nearest_hide row_cmp row_cmp_total (slice_cmp nat_cmp) nat_list_cmp_total in_order (λ term. ¬ Comes term start) NotBelow from_on every are.each are.rising n ends ends.terms (λ t. (λ h. h, λ h. h)) refl (λ up. up)

    module _ (are : IsFallingListOf (IsRestBefore dict_tree (register_front db index register) start s.now.trees) every) where
      falls : (x y : Row) (t u : List ℕ) → D x → D y → column x 0 ≡ Text t → column y 0 ≡ Text u → row_cmp y x ≡ Less → Comes u t
      falls x y t u here there left right less = in_order y x u t there here right left less

      pub before_listed : (near : List TermCount) → TellTerms (take n every) near → ListsBefore packed_blocks s.now.trees db index register start n (reverse near)
      before_listed near told =
          nearest_told row_turned (flipped_total row_cmp_total) turned (flipped_total nat_list_cmp_total) falls (λ term. Comes term start) Below before_on every are.each are.falling n near (reverse near) told (has_reversed near) (length-reverse near) (reversed_rises term_total near)

      pub before_hide : EndsCounting (take n every) → HidesBefore packed_blocks s.now.trees db index register start n
      before_hide ends =
          nearest_hide row_turned (flipped_total row_cmp_total) turned (flipped_total nat_list_cmp_total) falls (λ term. Comes term start) Below before_on every are.each are.falling n ends (reverse ends.terms) (has_reversed ends.terms) (length-reverse ends.terms) (reversed_rises term_total ends.terms)
