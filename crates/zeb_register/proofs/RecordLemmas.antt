-- Rows of records as the list of a database's records, and as one of them.
use Rattle.zeb_register.proofs.Cited.{Row, column, row_cmp, value_cmp, State, Int, Text, Blob, all_has, Has, ◌≡◌, ◌⊎◌, ◌∙◌, ◌<◌, ◌≤◌, ℕ, ℤ, pos, false, List, [], ◌∷◌, map, take, Option, Some, None, string_bytes, inl, inr, refl, sym, ap, ap₂, subst, Ordering, Less, Equal, Greater, nat_cmp, arith, ranked, is_lt, ordering_then, Record, HasRow, IsListOf, IsStore, records_tree, IsRest, first_three, AreReadable, IsFirstFrom, IsNumberOf, record_shown, IsRecordShown, IsRestAtLeast}
use Rattle.std.specs.List.Sorted.{IsStrictlySortedBy}
use Rattle.zeb_register.specs.PrivateFirstRows.{AreShown, ShowsFound, ShowsRecord}
use Rattle.zeb_register.proofs.Columns.{rows_at_least}
use Rattle.zeb_register.proofs.RecordStatements.{record_rest}
use Rattle.zeb_register.proofs.TermRows.{int_at, up_to}

module _ (s : State) (db : ℤ) (store : IsStore s) where
  three_same : (rows : List Row) → ((r : Row) → Has rows r → HasRow s.now.trees records_tree (Int db ∷ r)) → map first_three rows ≡ rows
  three_same [] known = refl
  three_same (r ∷ rows) known =
      let it = record_rest s db r store (known r (inl refl)) in
      ap₂ (λ a as'. a ∷ as') (ap first_three it.3 ∙ sym it.3) (three_same rows (λ x h. known x (inr h)))

  pub records_listed : (rows : List Row) (list : List Record) → IsListOf (IsRest records_tree (Int db ∷ []) s.now.trees) rows → map record_shown list ≡ map first_three rows
      → IsListOf (IsRest records_tree (Int db ∷ []) s.now.trees) (map record_shown list)
  records_listed rows list are shown = subst (IsListOf (IsRest records_tree (Int db ∷ []) s.now.trees)) (sym (shown ∙ three_same rows (λ r h. (are.each r).0 h))) are

  -- a record that is readable can be shown
  row_shown : (r : Row) → HasRow s.now.trees records_tree (Int db ∷ r) → AreReadable s.now.trees db → IsRecordShown r
  row_shown r there readable =
      let it = record_rest s db r store there in
      let able = readable it.0 it.1 it.2 (subst (λ x. HasRow s.now.trees records_tree (Int db ∷ x)) it.3 there) in
      (able.0.0, it.1, it.2, it.3 ∙ ap (λ n. Int n ∷ Text it.1 ∷ Blob it.2 ∷ []) able.0.1, able.1)

  pub records_shown : (rows : List Row) → IsListOf (IsRest records_tree (Int db ∷ []) s.now.trees) rows → AreReadable s.now.trees db → (r : Row) → Has rows r → IsRecordShown r
  records_shown rows are readable r here = row_shown r ((are.each r).0 here) readable

-- ---- the first of the rows from a number on

first_of : (all : List Row) (row : Row) → Has (take 1 all) row → (rest : List Row) × (all ≡ row ∷ rest)
first_of [] row h = absurd h
first_of (r ∷ rest) row h = elim h [ inl same ↦ (rest, ap (λ x. x ∷ rest) (sym same)) | inr later ↦ absurd later ]

none_of : (all : List Row) → take 1 all ≡ [] → all ≡ []
none_of [] h = refl
none_of (r ∷ rest) h = absurd (cc)

not_below : (n start : ℕ) → is_lt (nat_cmp n start) ≡ false → start ≤ n
not_below n start h = from (nat_cmp n start) refl h
  where
    from : (o : Ordering) → nat_cmp n start ≡ o → is_lt o ≡ false → start ≤ n
    from Less is low = absurd (cc)
    from Equal is low = let e : n ≡ start = ranked n start Equal (sym is) in omega arith
    from Greater is low = let e : start < n = ranked n start Greater (sym is) in omega arith

below_or : (n start : ℕ) → (n < start) ⊎ (is_lt (nat_cmp n start) ≡ false)
below_or n start = from (nat_cmp n start) refl
  where
    from : (o : Ordering) → nat_cmp n start ≡ o → (n < start) ⊎ (is_lt (nat_cmp n start) ≡ false)
    from Less is = inl (ranked n start Less (sym is))
    from Equal is = inr (ap is_lt is)
    from Greater is = inr (ap is_lt is)

module _ (s : State) (db : ℤ) (store : IsStore s) (start : ℕ) (all : List Row) (are : IsListOf (IsRestAtLeast records_tree (Int db ∷ []) (pos start) s.now.trees) all) where
  -- a record from the number on is among the rows
  listed : (n : ℕ) (record' : IsNumberOf s.now.trees db (pos n)) → is_lt (nat_cmp n start) ≡ false → Has all (Int (pos n) ∷ Text record'.0 ∷ Blob record'.1 ∷ [])
  listed n record' from = (are.each (Int (pos n) ∷ Text record'.0 ∷ Blob record'.1 ∷ [])).1 (record'.2, ap is_lt (int_at n start) ∙ from)

  first_shown : (row : Row) → Has (take 1 all) row → AreReadable s.now.trees db → IsRecordShown row
  first_shown row first readable =
      let whole = first_of all row first in
      row_shown s db store row ((are.each row).0 (subst (λ l. Has l row) (sym whole.1) (inl refl))).0 readable

  first_record : (row : Row) (found : Record) → Has (take 1 all) row → record_shown found ≡ first_three row → IsFirstFrom s.now.trees db start (Some found)
  unfolding IsStrictlySortedBy
  first_record row found first shown =
      let whole = first_of all row first in
      let there = (are.each row).0 (subst (λ l. Has l row) (sym whole.1) (inl refl)) in
      let it = record_rest s db row store there.0 in
      let same : row ≡ record_shown found = it.3 ∙ sym (ap first_three it.3) ∙ sym shown in
      let up = subst (IsStrictlySortedBy row_cmp) whole.1 are.rising in
      let from : is_lt (nat_cmp found.sysno start) ≡ false = sym (ap is_lt (int_at found.sysno start)) ∙ ap (λ (x : Row). is_lt (value_cmp (column x 0) (Int (pos start)))) (sym same) ∙ there.1 in (
        subst (IsRest records_tree (Int db ∷ []) s.now.trees) same there.0,
        not_below found.sysno start from,
        λ n record' above.
            let other : Row = Int (pos n) ∷ Text record'.0 ∷ Blob record'.1 ∷ [] in
            let here : Has all other = listed n record' (elim (below_or n start) [ inl low ↦ absurd (omega arith) | inr is ↦ is ]) in
            elim (subst (λ l. Has l other) whole.1 here) [
              | inl equal ↦
                  let e : Int (pos n) ≡ Int (pos found.sysno) = ap (λ (x : Row). column x 0) (equal ∙ same) in
                  let k : n ≡ found.sysno = cc in
                  omega arith
              | inr later ↦
                  let less : row_cmp (record_shown found) other ≡ Less = ap (λ x. row_cmp x other) (sym same) ∙ all_has (λ x. row_cmp row x ≡ Less) whole.0 other up.0 later in
                  let rest : Ordering = row_cmp (Text (string_bytes found.ident) ∷ Blob found.bytes.items ∷ []) (Text record'.0 ∷ Blob record'.1 ∷ []) in
                  up_to found.sysno n rest (ap (λ o. ordering_then o rest) (sym (int_at found.sysno n)) ∙ less)
            ],
      )

  none_left : take 1 all ≡ [] → IsFirstFrom s.now.trees db start None
  none_left none n record' = elim (below_or n start) [
    | inl low ↦ low
    | inr from ↦ absurd (subst (λ l. Has l (Int (pos n) ∷ Text record'.0 ∷ Blob record'.1 ∷ [])) (none_of all none) (listed n record' from))
  ]

-- what is read of the row with the least number from the start on
module _ (s : State) (db : ℤ) (store : IsStore s) (start : ℕ) {column stored : ℤ} {rows items : List Row} (known : column ≡ db) (is : stored ≡ pos start) (same : rows ≡ items)
    (read : (all : List Row) × IsListOf (IsRestAtLeast records_tree (Int column ∷ []) stored s.now.trees) all × (items ≡ take 1 all)) where
  are : IsListOf (IsRestAtLeast records_tree (Int db ∷ []) (pos start) s.now.trees) read.0
  are = rows_at_least s.now.trees records_tree column db stored (pos start) read.0 known is read.1

  pub first_told : (found : Option Record) → ShowsFound ShowsRecord rows found → IsFirstFrom s.now.trees db start found
  first_told None none = none_left s db store start read.0 are (sym (same ∙ read.2) ∙ none)
  first_told (Some found) it = first_record s db store start read.0 are it.0 found (subst (λ l. Has l it.0) (sym it.2 ∙ same ∙ read.2) (inl refl)) it.3

  pub rows_shown : AreReadable s.now.trees db → AreShown IsRecordShown rows
  rows_shown readable row here = first_shown s db store start read.0 are row (subst (λ l. Has l row) (same ∙ read.2) here) readable
