-- Rows of the terms from one text to another, whatever they hold, parted by their terms.
use Rattle.zeb_register.proofs.Cited.{arith, Row, column, row_cmp, value_cmp, Value, Trees, Null, Int, Real, Text, Blob, has_filtered, has_kept, has_mapped, mapped_has, Has, row_cmp_total, value_cmp_total, value_cmp-Text, ◌≡◌, ◌≢◌, ◌∙◌, ℕ, Bool, true, false, List, [], ◌∷◌, ◌++◌, drop, filter, map, refl, sym, ap, ap₂, subst, Less, nat_cmp, is_eq, is_lt, slice_cmp, nat_list_cmp_total, tied_itself, ordering_then, RegisterOf, IsBetween, IsRestBetween, register_columns, key_in, key_row, IsListOf, IsRest, value_cmp-apart}
use Rattle.zeb_register.proofs.BetweenLemmas.{up_to}
use Rattle.zeb_register.proofs.RisingLists.{kept_rises}
use Rattle.zeb_register.proofs.RowLemmas.{same_bytes}
use Rattle.zeb_register.proofs.Scans.{strictly_mapped, tied}

-- a row by its first column
pub begins : (row : Row) (v : Value) → column row 0 ≡ v → v ≢ Null → row ≡ v ∷ drop 1 row
begins [] v is some = absurd (some (sym is))
begins (w ∷ row) v is some = ap (λ (u : Value). u ∷ row) is

-- between two texts there are but texts
text_between : (v : Value) (first end : List ℕ) → is_lt (value_cmp v (Text first)) ≡ false → is_lt (value_cmp v (Text end)) ≡ true → (text : List ℕ) × (v ≡ Text text)
text_between Null first end low high = absurd (let e : true ≡ false = sym (ap is_lt (value_cmp-apart Null (Text first) (λ same. omega (arith, same)))) ∙ low in cc)
text_between (Int n) first end low high = absurd (let e : true ≡ false = sym (ap is_lt (value_cmp-apart (Int n) (Text first) (λ same. omega (arith, same)))) ∙ low in cc)
text_between (Real x) first end low high = absurd (let e : true ≡ false = sym (ap is_lt (value_cmp-apart (Real x) (Text first) (λ same. omega (arith, same)))) ∙ low in cc)
text_between (Text text) first end low high = (text, refl)
text_between (Blob b) first end low high = absurd (let e : false ≡ true = sym (ap is_lt (value_cmp-apart (Blob b) (Text end) (λ same. omega (arith, same)))) ∙ high in cc)

tail_less : (v : Value) (x y : Row) → row_cmp (v ∷ x) (v ∷ y) ≡ Less → row_cmp x y ≡ Less
tail_less v x y less = sym (ap (λ o. ordering_then o (row_cmp x y)) (tied_itself value_cmp_total v)) ∙ less

module _ (tree : ℕ) (trees : Trees) (at : RegisterOf) (first last : List ℕ) (rows : List Row) (are : IsListOf (IsRestBetween tree (register_columns at) first (last ++ 0 ∷ []) trees) rows) where
  -- a row of a term between is shown
  pub row_shown : (term : List ℕ) (rest : Row) → IsBetween first last term → IsRest tree (register_columns at) trees (Text term ∷ rest) → Has rows (Text term ∷ rest)
  row_shown term rest between there = (are.each (Text term ∷ rest)).1 (there, ap is_lt (value_cmp-Text term first) ∙ between.0, ap is_lt (value_cmp-Text term (last ++ 0 ∷ [])) ∙ (up_to last term).1 between.1)

  -- and no other
  pub shown_row : (row : Row) → Has rows row → (term : List ℕ) × IsBetween first last term × (row ≡ Text term ∷ drop 1 row) × IsRest tree (register_columns at) trees row
  shown_row row here =
      let it = (are.each row).0 here in
      let text = text_between (column row 0) first (last ++ 0 ∷ []) it.1 it.2 in
      let low = sym (ap is_lt (ap (λ v. value_cmp v (Text first)) text.1 ∙ value_cmp-Text text.0 first)) ∙ it.1 in
      let high = sym (ap is_lt (ap (λ v. value_cmp v (Text (last ++ 0 ∷ []))) text.1 ∙ value_cmp-Text text.0 (last ++ 0 ∷ []))) ∙ it.2 in
      (text.0, (low, (up_to last text.0).0 high), begins row (Text text.0) text.1 (λ none. cc), it.0)

  abbrev pub starts : List ℕ → Row → Bool
  starts term row = is_eq (value_cmp (column row 0) (Text term))

  -- what the rows of a term show behind it
  abbrev pub under : List ℕ → List Row
  under term = map (drop 1) (filter (starts term) rows)

  of_term : (term : List ℕ) (row : Row) → Has (filter (starts term) rows) row → row ≡ Text term ∷ drop 1 row
  of_term term row here =
      let kept = has_filtered (starts term) rows row here in
      let it = shown_row row kept.0 in
      let head : value_cmp (column row 0) (Text term) ≡ slice_cmp nat_cmp it.0 term = ap (λ (r : Row). value_cmp (column r 0) (Text term)) it.2 ∙ value_cmp-Text it.0 term in
      let same : it.0 ≡ term = same_bytes it.0 term (tied (slice_cmp nat_cmp it.0 term) (sym (ap is_eq head) ∙ kept.1)) in
      it.2 ∙ ap (λ (t : List ℕ). Text t ∷ drop 1 row) same

  pub has_under : (term : List ℕ) (x : Row) → Has (under term) x → Has rows (Text term ∷ x)
  has_under term x here =
      let row = has_mapped (drop 1) (filter (starts term) rows) x here in
      let is = of_term term row.0 row.1 in
      subst (Has rows) (is ∙ ap (λ (r : Row). Text term ∷ r) (sym row.2)) (has_filtered (starts term) rows row.0 row.1).0

  pub under_has : (term : List ℕ) (x : Row) → Has rows (Text term ∷ x) → Has (under term) x
  under_has term x here =
      mapped_has (drop 1) (filter (starts term) rows) (Text term ∷ x) (has_kept (starts term) rows (Text term ∷ x) here (ap is_eq (value_cmp-Text term term ∙ tied_itself nat_list_cmp_total term)))

  -- these are the rows of the key
  pub under_listed : (term : List ℕ) → IsBetween first last term → IsListOf (IsRest tree (key_row at.db.0 (key_in at.index at.register term)) trees) (under term)
  under_listed term between = record {
    each = λ x. (λ h. (shown_row (Text term ∷ x) (has_under term x h)).3, λ rest. under_has term x (row_shown term x between rest));
    rising = strictly_mapped row_cmp row_cmp (drop 1) (filter (starts term) rows) (λ a b here there less.
        tail_less (Text term) (drop 1 a) (drop 1 b) (sym (ap₂ row_cmp (of_term term a here) (of_term term b there)) ∙ less)) (kept_rises row_cmp_total (starts term) rows are.rising);
  }
