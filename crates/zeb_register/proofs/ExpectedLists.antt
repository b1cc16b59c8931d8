-- Rows of whole tables beside what is expected of them.
use Rattle.zeb_register.proofs.Cited.{Row, column, row_cmp, State, Trees, Int, Text, Blob, Has, row_cmp_total, value_cmp-Int, value_cmp-Text, ◌≡◌, ◌∙◌, ℕ, ℤ, pos, List, [], ◌∷◌, map, drop, codes, string_bytes, refl, sym, ap, ap₂, subst, inl, inr, Ordering, Less, Equal, Greater, nat_cmp, slice_cmp, ordering_then, register_code, Expected, KeyPosting, Record, IsTextOf, key_posting_order, number_order, record_shown, KeepsExpectedTexts, HoldsUnder, posting_shown, text_rows, HasRow, IsListOf, IsRest, IsStore, entry, meta_tree, store_schema, meta_table}
use Rattle.std.specs.List.Sorted.{IsStrictlySortedBy}
use Rattle.zeb_register.proofs.ContentLemmas.{ints_order, lower_then}
use Rattle.zeb_register.proofs.RisingLists.{same_list}
use Rattle.zeb_register.proofs.RowLemmas.{code_at, spread, text_of}
use Rattle.zeb_register.proofs.Scans.{strictly_mapped}
use Rattle.zeb_register.proofs.TextStatements.{meta_static}
use Rattle.zeb_register.proofs.ValueKinds.{code, codes_of}
use Rattle.zeb_register.proofs.Writes.{codes_there}

-- ---- the rows under an id

module _ (tree : ℕ) (id : ℤ) (trees : Trees) (rows items : List Row) (are : IsListOf (IsRest tree (Int id ∷ []) trees) rows) where
  pub under_rows : rows ≡ items → HoldsUnder tree id items trees
  under_rows same row = (λ h. subst (λ l. Has l row) same ((are.each row).1 h), λ h. (are.each row).0 (subst (λ l. Has l row) (sym same) h))

  pub rows_under : IsStrictlySortedBy row_cmp items → HoldsUnder tree id items trees → rows ≡ items
  rows_under up holds = same_list row_cmp_total rows items are.rising up (λ r h. (holds r).0 ((are.each r).0 h)) (λ r h. (are.each r).1 ((holds r).1 h))

-- ---- order

record_lower : (a b : Record) → number_order a b ≡ Less → row_cmp (record_shown a) (record_shown b) ≡ Less
record_lower a b less =
    ap (λ o. ordering_then o (row_cmp (Text (string_bytes a.ident) ∷ Blob a.bytes.items ∷ []) (Text (string_bytes b.ident) ∷ Blob b.bytes.items ∷ [])))
    (value_cmp-Int (pos a.sysno) (pos b.sysno) ∙ ints_order a.sysno b.sysno ∙ less)

pub records_rise : (records : List Record) → IsStrictlySortedBy number_order records → IsStrictlySortedBy row_cmp (map record_shown records)
records_rise records up = strictly_mapped number_order row_cmp record_shown records (λ a b here there. record_lower a b) up

then_so : (o p q : Ordering) → (p ≡ Less → q ≡ Less) → ordering_then o p ≡ Less → ordering_then o q ≡ Less
then_so Less p q so h = refl
then_so Equal p q so h = so h
then_so Greater p q so h = absurd (let e : Greater ≡ Less = h in cc)

pub then_joined : (a b c d : Ordering) → ordering_then (ordering_then a (ordering_then b c)) d ≡ ordering_then a (ordering_then b (ordering_then c d))
then_joined Less b c d = refl
then_joined Greater b c d = refl
then_joined Equal Less c d = refl
then_joined Equal Greater c d = refl
then_joined Equal Equal c d = refl

pub posting_lower : (a b : KeyPosting) → key_posting_order a b ≡ Less → row_cmp (posting_shown a) (posting_shown b) ≡ Less
posting_lower a b less =
    let index = nat_cmp a.key.index b.key.index in
    let rank = nat_cmp (register_code a.key.register) (register_code b.key.register) in
    let term = slice_cmp nat_cmp a.key.term b.key.term in
    let sysno = nat_cmp a.posting.sysno b.posting.sysno in
    let seq = nat_cmp a.posting.seq b.posting.seq in
    let place = nat_cmp a.posting.pos b.posting.pos in
    let whole : ordering_then index (ordering_then rank (ordering_then term (ordering_then sysno (ordering_then seq place)))) ≡ Less = sym (then_joined index rank term (ordering_then sysno (ordering_then seq place))) ∙ less in
    let low = then_so index _ (ordering_then rank (ordering_then term (ordering_then sysno (ordering_then seq (ordering_then place Equal)))))
    (then_so rank _ (ordering_then term (ordering_then sysno (ordering_then seq (ordering_then place Equal)))) (then_so term _ (ordering_then sysno (ordering_then seq (ordering_then place Equal))) (lower_then sysno seq place))) whole in
    rw (
      value_cmp-Int (pos a.key.index) (pos b.key.index),
      value_cmp-Int (pos (register_code a.key.register)) (pos (register_code b.key.register)),
      value_cmp-Text a.key.term b.key.term,
      value_cmp-Int (pos a.posting.sysno) (pos b.posting.sysno),
      value_cmp-Int (pos a.posting.seq) (pos b.posting.seq),
      value_cmp-Int (pos a.posting.pos) (pos b.posting.pos),
      ints_order a.key.index b.key.index,
      ints_order (register_code a.key.register) (register_code b.key.register),
      ints_order a.posting.sysno b.posting.sysno,
      ints_order a.posting.seq b.posting.seq,
      ints_order a.posting.pos b.posting.pos,
    ) low

pub postings_rise : (postings : List KeyPosting) → IsStrictlySortedBy key_posting_order postings → IsStrictlySortedBy row_cmp (map posting_shown postings)
postings_rise postings up = strictly_mapped key_posting_order row_cmp posting_shown postings (λ a b here there. posting_lower a b) up

-- ---- texts

entry_row : (s : State) (r : Row) → IsStore s → HasRow s.now.trees meta_tree r → (name : List ℕ) × (value : List ℕ) × (r ≡ entry name value)
entry_row s r store h =
    let row = Int h.0 ∷ r in
    let typed : map code row ≡ codes_of meta_table = codes_there store_schema 0 meta_table meta_static s row store h.1 in
    let name = text_of (column row 1) (code_at row (codes_of meta_table) 1 typed) in
    let value = text_of (column row 2) (code_at row (codes_of meta_table) 2 typed) in
    let all : row ≡ column row 0 ∷ column row 1 ∷ column row 2 ∷ [] = spread row (codes_of meta_table) typed in
    let rest : r ≡ column row 1 ∷ column row 2 ∷ [] = ap (drop 1) all in
    (name.0, value.0, rest ∙ ap₂ (λ a b. a ∷ b ∷ []) name.1 value.1)

module _ (s : State) (expected : Expected) (store : IsStore s) (rows : List Row) (are : IsListOf (HasRow s.now.trees meta_tree) rows) where
  text_there : (name value : List ℕ) → Has (text_rows expected) (entry name value) → IsTextOf expected name value
  text_there name value (inl same) =
      let a : Text name ≡ Text (codes "identifier") = ap (λ (r : Row). column r 0) same in
      let b : Text value ≡ Text (string_bytes expected.identifier) = ap (λ (r : Row). column r 1) same in
      inr (inr ((let e : name ≡ codes "identifier" = cc in e), (let e : value ≡ string_bytes expected.identifier = cc in e)))
  text_there name value (inr (inl same)) =
      let a : Text name ≡ Text (codes "profile") = ap (λ (r : Row). column r 0) same in
      let b : Text value ≡ Text (string_bytes expected.profile) = ap (λ (r : Row). column r 1) same in
      inr (inl ((let e : name ≡ codes "profile" = cc in e), (let e : value ≡ string_bytes expected.profile = cc in e)))
  text_there name value (inr (inr (inl same))) =
      let a : Text name ≡ Text (codes "version") = ap (λ (r : Row). column r 0) same in
      let b : Text value ≡ Text (string_bytes expected.version) = ap (λ (r : Row). column r 1) same in
      inl ((let e : name ≡ codes "version" = cc in e), (let e : value ≡ string_bytes expected.version = cc in e))
  text_there name value (inr (inr (inr none))) = absurd none

  text_has : (name value : List ℕ) → IsTextOf expected name value → Has (text_rows expected) (entry name value)
  text_has name value (inl is) = inr (inr (inl (ap₂ entry is.0 is.1)))
  text_has name value (inr (inl is)) = inr (inl (ap₂ entry is.0 is.1))
  text_has name value (inr (inr is)) = inl (ap₂ entry is.0 is.1)

  pub texts_there : rows ≡ text_rows expected → KeepsExpectedTexts s.now.trees expected
  texts_there same name value = (
    λ h. text_there name value (subst (λ l. Has l (entry name value)) same ((are.each (entry name value)).1 h)),
    λ is. (are.each (entry name value)).0 (subst (λ l. Has l (entry name value)) (sym same) (text_has name value is)),
  )

  names_lower : (a b c d : List ℕ) → slice_cmp nat_cmp a b ≡ Less → row_cmp (entry a c) (entry b d) ≡ Less
  names_lower a b c d less = ap (λ o. ordering_then o (row_cmp (Text c ∷ []) (Text d ∷ []))) (value_cmp-Text a b ∙ less)

  texts_rise : IsStrictlySortedBy row_cmp (text_rows expected)
  unfolding IsStrictlySortedBy
  texts_rise = (
    (names_lower (codes "identifier") (codes "profile") _ _ refl, (names_lower (codes "identifier") (codes "version") _ _ refl, tt)),
    ((names_lower (codes "profile") (codes "version") _ _ refl, tt), (tt, tt)),
  )

  pub texts_rows : KeepsExpectedTexts s.now.trees expected → rows ≡ text_rows expected
  texts_rows has = same_list row_cmp_total rows (text_rows expected) are.rising texts_rise
      (λ r h.
      let there = (are.each r).0 h in
      let it = entry_row s r store there in
      subst (Has (text_rows expected)) (sym it.2) (text_has it.0 it.1 ((has it.0 it.1).0 (subst (HasRow s.now.trees meta_tree) it.2 there))))
      back
    where
      put : (name value : List ℕ) (r : Row) → r ≡ entry name value → IsTextOf expected name value → Has rows r
      put name value r same is = subst (Has rows) (sym same) ((are.each (entry name value)).1 ((has name value).1 is))

      back : (r : Row) → Has (text_rows expected) r → Has rows r
      back r (inl same) = put (codes "identifier") _ r same (inr (inr (refl, refl)))
      back r (inr (inl same)) = put (codes "profile") _ r same (inr (inl (refl, refl)))
      back r (inr (inr (inl same))) = put (codes "version") _ r same (inl (refl, refl))
      back r (inr (inr (inr none))) = absurd none
