-- The statements that find the ids of databases with which rows of a table begin, one after the other, each with what it is compiled to.
use Rattle.zeb_register.proofs.Cited.{reads_as, Select, Row, column, value_cmp, State, Term, col, Int, Has, value_cmp-Int, then-Equal, ◌≡◌, ◌↔◌, ◌∙◌, ◌≤ℤ◌, ◌<ℤ◌, ℤ, true, false, List, [], ◌∷◌, codes, refl, sym, ap, subst, inl, inr, Ordering, Less, Equal, Greater, arith, int_cmp, int_ranked, ints, int_cmp_is, is_lt, ordering_then, Records, Postings, Blocks, Dict, Owns, tree_of, ShowsFirst, greatest_text, least_text, next_text, IsStore, store_schema}
use Rattle.sqlite.specs.Listing.{understood}
use Rattle.sqlite.specs.State.{Shown}
use Rattle.sqlite_tied.specs.Compute.{everything}
use Rattle.sqlite_value.specs.declared.keys.Key.{Key}
use Rattle.zeb_register.specs.declared.agreeing.Table.{Table}
use Rattle.zeb_register.proofs.ExpectedStatements.{owner_row}
use Rattle.zeb_register.proofs.FirstRows.{first_shown}
use Rattle.zeb_register.proofs.PostingStatements.{blocks, blocks_static, dict, dict_static, postings, postings_static}
use Rattle.zeb_register.proofs.RecordStatements.{records, records_static}
use Rattle.zeb_register.proofs.Refusals.{IsQuery}
use Rattle.zeb_register.proofs.Scans.{reads}
use Rattle.zeb_register.proofs.StatementForms.{Condition, MeetsAll, alone, ascending, at_least, descending, one_row, passes, reading_by, shows}
use Rattle.zeb_register.proofs.Writes.{meets_there}

abbrev upward : List (Term × Key)
upward = (col 1 1, ascending) ∷ []

abbrev downward : List (Term × Key)
downward = (col 1 1, descending) ∷ []

abbrev from_start : List Condition
from_start = at_least 1 0 ∷ []

-- ---- what each is compiled to

pub least_query : (t : Table) → IsQuery (least_text t) [] (tree_of t) [] (shows (1 ∷ [])) upward one_row (codes "db" ∷ [])
unfolding understood everything
least_query Records = record { is = refl; plain = (refl, refl); unlisted = refl; silent = λ schema base. refl; whole = (omega arith, refl); fit = λ trees mistyped. absurd (let e : true ≡ false = mistyped in cc) }
least_query Postings = record { is = refl; plain = (refl, refl); unlisted = refl; silent = λ schema base. refl; whole = (omega arith, refl); fit = λ trees mistyped. absurd (let e : true ≡ false = mistyped in cc) }
least_query Blocks = record { is = refl; plain = (refl, refl); unlisted = refl; silent = λ schema base. refl; whole = (omega arith, refl); fit = λ trees mistyped. absurd (let e : true ≡ false = mistyped in cc) }
least_query Dict = record { is = refl; plain = (refl, refl); unlisted = refl; silent = λ schema base. refl; whole = (omega arith, refl); fit = λ trees mistyped. absurd (let e : true ≡ false = mistyped in cc) }

pub greatest_query : (t : Table) → IsQuery (greatest_text t) [] (tree_of t) [] (shows (1 ∷ [])) downward one_row (codes "db" ∷ [])
unfolding understood everything
greatest_query Records = record { is = refl; plain = (refl, refl); unlisted = refl; silent = λ schema base. refl; whole = (omega arith, refl); fit = λ trees mistyped. absurd (let e : true ≡ false = mistyped in cc) }
greatest_query Postings = record { is = refl; plain = (refl, refl); unlisted = refl; silent = λ schema base. refl; whole = (omega arith, refl); fit = λ trees mistyped. absurd (let e : true ≡ false = mistyped in cc) }
greatest_query Blocks = record { is = refl; plain = (refl, refl); unlisted = refl; silent = λ schema base. refl; whole = (omega arith, refl); fit = λ trees mistyped. absurd (let e : true ≡ false = mistyped in cc) }
greatest_query Dict = record { is = refl; plain = (refl, refl); unlisted = refl; silent = λ schema base. refl; whole = (omega arith, refl); fit = λ trees mistyped. absurd (let e : true ≡ false = mistyped in cc) }

pub next_query : (t : Table) (start : ℤ) → IsQuery (next_text t) (Int start ∷ []) (tree_of t) from_start (shows (1 ∷ [])) upward one_row (codes "db" ∷ [])
unfolding understood everything
next_query Records start = record { is = refl; plain = (refl, refl); unlisted = refl; silent = λ schema base. refl; whole = (omega arith, refl); fit = λ trees mistyped. absurd (let e : true ≡ false = mistyped in cc) }
next_query Postings start = record { is = refl; plain = (refl, refl); unlisted = refl; silent = λ schema base. refl; whole = (omega arith, refl); fit = λ trees mistyped. absurd (let e : true ≡ false = mistyped in cc) }
next_query Blocks start = record { is = refl; plain = (refl, refl); unlisted = refl; silent = λ schema base. refl; whole = (omega arith, refl); fit = λ trees mistyped. absurd (let e : true ≡ false = mistyped in cc) }
next_query Dict start = record { is = refl; plain = (refl, refl); unlisted = refl; silent = λ schema base. refl; whole = (omega arith, refl); fit = λ trees mistyped. absurd (let e : true ≡ false = mistyped in cc) }

-- ---- what each shows

pub cmp_below : (m n : ℤ) → m <ℤ n → int_cmp m n ≡ Less
cmp_below m n h = sym (int_cmp_is m n Less h)

-- an id that another isn't before is at least as great
pub not_below : (m n : ℤ) → is_lt (value_cmp (Int m) (Int n)) ≡ false → n ≤ℤ m
not_below m n h = from (int_cmp m n) refl
  where
    from : (o : Ordering) → o ≡ int_cmp m n → n ≤ℤ m
    from Less is = absurd (let e : true ≡ false = ap is_lt (is ∙ sym (value_cmp-Int m n)) ∙ h in cc)
    from Equal is = let e : m ≡ n = int_ranked m n Equal is in omega (arith, ints, e)
    from Greater is = let e : n <ℤ m = int_ranked m n Greater is in omega (arith, ints, e)

pub at_least_is : (m n : ℤ) → n ≤ℤ m → is_lt (value_cmp (Int m) (Int n)) ≡ false
at_least_is m n h = from (int_cmp m n) refl
  where
    from : (o : Ordering) → o ≡ int_cmp m n → is_lt (value_cmp (Int m) (Int n)) ≡ false
    from Less is = let e : m <ℤ n = int_ranked m n Less is in absurd (omega (arith, ints, e, h))
    from Equal is = ap is_lt (value_cmp-Int m n ∙ sym is)
    from Greater is = ap is_lt (value_cmp-Int m n ∙ sym is)

module _ (t : Table) (old : State) (store : IsStore old) where
  abbrev Owned : ℤ → Type 0
  Owned = Owns (tree_of t) old.now.trees

  -- a row of the table, by the id with which it begins
  row_owner : (r : Row) → Has (old.now.trees (tree_of t)) r → (id : ℤ) × (column r 1 ≡ Int id) × Owned id
  row_owner r here = by t r here
    where
      made : (t : Table) (r : Row) → Has (old.now.trees (tree_of t)) r → (i : ℤ) × (id : ℤ) × (rest : Row) × (r ≡ Int i ∷ Int id ∷ rest) → (id : ℤ) × (column r 1 ≡ Int id) × Owns (tree_of t) old.now.trees id
      made t r here it = (it.1, ap (λ (x : Row). column x 1) it.3, (it.2, (it.0, subst (Has (old.now.trees (tree_of t))) it.3 here)))

      by : (t : Table) (r : Row) → Has (old.now.trees (tree_of t)) r → (id : ℤ) × (column r 1 ≡ Int id) × Owns (tree_of t) old.now.trees id
      by Records r here = made Records r here (owner_row 2 records records_static _ refl old r store here)
      by Postings r here = made Postings r here (owner_row 3 postings postings_static _ refl old r store here)
      by Blocks r here = made Blocks r here (owner_row 4 blocks blocks_static _ refl old r store here)
      by Dict r here = made Dict r here (owner_row 5 dict dict_static _ refl old r store here)

  abbrev owned_row : (id : ℤ) → Owned id → Row
  owned_row id there = Int there.1.0 ∷ Int id ∷ there.0

  least_above : (r : Row) (id other : ℤ) → column r 1 ≡ Int id → is_lt (ordering_then (value_cmp (Int other) (column r 1)) Equal) ≡ false → id ≤ℤ other
  least_above r id other is low = not_below other id (ap (λ v. is_lt (value_cmp (Int other) v)) (sym is) ∙ ap is_lt (sym (then-Equal (value_cmp (Int other) (column r 1)))) ∙ low)

  greatest_below : (r : Row) (id other : ℤ) → column r 1 ≡ Int id → is_lt (ordering_then (value_cmp (column r 1) (Int other)) Equal) ≡ false → other ≤ℤ id
  greatest_below r id other is high = not_below id other (ap (λ v. is_lt (value_cmp v (Int other))) (sym is) ∙ ap is_lt (sym (then-Equal (value_cmp (column r 1) (Int other)))) ∙ high)

  pub shows_least : (new : State) (rows : List Row) → Shown (least_text t) [] old new rows → ShowsFirst (λ id other. id ≤ℤ other) Owned rows
  shows_least new rows shown =
      let it = least_query t in
      let read = reads_as (least_text t) [] old new store_schema store.is (Select (alone (reading_by (tree_of t) [] (shows (1 ∷ [])) upward one_row)) (codes "db" ∷ [])) it.is it.plain it.unlisted rows shown in
      elim (first_shown (old.now.trees (tree_of t)) [] (shows (1 ∷ [])) upward [] rows (reads old.now (tree_of t) [] (shows (1 ∷ [])) upward one_row [] rows read)) [
        | inl none ↦ subst (ShowsFirst (λ id other. id ≤ℤ other) Owned) (sym none.0) (λ id there. none.1 (owned_row id there) there.1.1 refl)
        | inr first ↦
            let r = row_owner first.0 first.1.0 in
            subst (ShowsFirst (λ id other. id ≤ℤ other) Owned) (sym first.1.2) (r.0, ap (λ v. v ∷ []) r.1, r.2, λ other there. least_above first.0 r.0 other r.1 (first.1.3 (owned_row other there) there.1.1 refl))
      ]

  pub shows_greatest : (new : State) (rows : List Row) → Shown (greatest_text t) [] old new rows → ShowsFirst (λ id other. other ≤ℤ id) Owned rows
  shows_greatest new rows shown =
      let it = greatest_query t in
      let read = reads_as (greatest_text t) [] old new store_schema store.is (Select (alone (reading_by (tree_of t) [] (shows (1 ∷ [])) downward one_row)) (codes "db" ∷ [])) it.is it.plain it.unlisted rows shown in
      elim (first_shown (old.now.trees (tree_of t)) [] (shows (1 ∷ [])) downward [] rows (reads old.now (tree_of t) [] (shows (1 ∷ [])) downward one_row [] rows read)) [
        | inl none ↦ subst (ShowsFirst (λ id other. other ≤ℤ id) Owned) (sym none.0) (λ id there. none.1 (owned_row id there) there.1.1 refl)
        | inr first ↦
            let r = row_owner first.0 first.1.0 in
            subst (ShowsFirst (λ id other. other ≤ℤ id) Owned) (sym first.1.2) (r.0, ap (λ v. v ∷ []) r.1, r.2, λ other there. greatest_below first.0 r.0 other r.1 (first.1.3 (owned_row other there) there.1.1 refl))
      ]

  module _ (start : ℤ) where
    abbrev FromStart : ℤ → Type 0
    FromStart id = Owned id × (start ≤ℤ id)

    meets_from : (r : Row) → Has (old.now.trees (tree_of t)) r → (passes from_start (Int start ∷ []) r ≡ true) ↔ MeetsAll (Int start ∷ []) r from_start
    meets_from r here = by t r here
      where
        by : (t : Table) (r : Row) → Has (old.now.trees (tree_of t)) r → (passes from_start (Int start ∷ []) r ≡ true) ↔ MeetsAll (Int start ∷ []) r from_start
        by Records r here = meets_there store_schema 2 records records_static old (Int start ∷ []) from_start store refl r here
        by Postings r here = meets_there store_schema 3 postings postings_static old (Int start ∷ []) from_start store refl r here
        by Blocks r here = meets_there store_schema 4 blocks blocks_static old (Int start ∷ []) from_start store refl r here
        by Dict r here = meets_there store_schema 5 dict dict_static old (Int start ∷ []) from_start store refl r here

    passed : (id : ℤ) (it : FromStart id) → passes from_start (Int start ∷ []) (owned_row id it.0) ≡ true
    passed id it = (meets_from (owned_row id it.0) it.0.1.1).1 (at_least_is id start it.1, tt)

    pub shows_next : (new : State) (rows : List Row) → Shown (next_text t) (Int start ∷ []) old new rows → ShowsFirst (λ id other. id ≤ℤ other) FromStart rows
    shows_next new rows shown =
        let it = next_query t start in
        let read = reads_as (next_text t) (Int start ∷ []) old new store_schema store.is (Select (alone (reading_by (tree_of t) from_start (shows (1 ∷ [])) upward one_row)) (codes "db" ∷ [])) it.is it.plain it.unlisted rows shown in
        elim (first_shown (old.now.trees (tree_of t)) from_start (shows (1 ∷ [])) upward (Int start ∷ []) rows (reads old.now (tree_of t) from_start (shows (1 ∷ [])) upward one_row (Int start ∷ []) rows read)) [
          | inl none ↦ subst (ShowsFirst (λ id other. id ≤ℤ other) FromStart) (sym none.0) (λ id there. none.1 (owned_row id there.0) there.0.1.1 (passed id there))
          | inr first ↦
              let r = row_owner first.0 first.1.0 in
              let met = (meets_from first.0 first.1.0).0 first.1.1 in
              let from : start ≤ℤ r.0 = not_below r.0 start (ap (λ v. is_lt (value_cmp v (Int start))) (sym r.1) ∙ met.0) in
              subst (ShowsFirst (λ id other. id ≤ℤ other) FromStart) (sym first.1.2)
              (r.0, ap (λ v. v ∷ []) r.1, (r.2, from), λ other there. least_above first.0 r.0 other r.1 (first.1.3 (owned_row other there.0) there.0.1.1 (passed other there)))
        ]
