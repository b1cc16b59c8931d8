-- The statements that find leaves, each with what it is compiled to.
use Rattle.zeb_leaf_rows.proofs.Cited.{Row, column, Trees, Int, Text, Has, all_has, ◌≡◌, ◌∙◌, ◌⊎◌, ◌++◌, ◌∷◌, ℕ, ℤ, pos, true, false, List, [], length, map, codes, refl, sym, ap, subst, inl, inr, arith, length-map, IsUpTo, own_key, ShowsFirst, ShowsGreatest, ShowsSome, HasBlockFrom, IsRest, IsStore, State, Shown, blocks_tree, store_schema}
use Rattle.std.proofs.Common.{Equal, Greater, Less, Ordering}
use Rattle.std.specs.Ordering.{is_lt, ordering_then}
use Rattle.sqlite.specs.Command.TheVariants.{Select}
use Rattle.sqlite.specs.Listing.{understood}
use Rattle.sqlite.specs.Order.{value_cmp}
use Rattle.sqlite.specs.Query.{output_cmp}
use Rattle.sqlite.specs.Term.{Term, col}
use Rattle.sqlite.specs.Tree.{rowid}
use Rattle.sqlite.specs.View.{is_int}
use Rattle.sqlite.proofs.Callers.{reads_as}
use Rattle.sqlite_tied.specs.Compute.{everything}
use Rattle.sqlite_value.specs.declared.keys.Key.{Key as Order}
use Rattle.zeb_leaf_rows.specs.declared.statements.TheConstants.{ANY, BETWEEN, OF_TERM, OF_TERMS_BELOW}
use Rattle.zeb_register.proofs.KeyOrder.{not_lower}
use Rattle.zeb_register.proofs.FirstRows.{first_shown}
use Rattle.zeb_register.proofs.PostingStatements.{blocks, blocks_keys, blocks_static, register_of}
use Rattle.zeb_register.proofs.PrefixSelects.{IsAfter, after_key, lists_after}
use Rattle.zeb_register.proofs.Refusals.{IsQuery}
use Rattle.zeb_register.proofs.Scans.{reads}
use Rattle.zeb_register.proofs.Selects.{list_so, shown_places}
use Rattle.zeb_register.proofs.StatementForms.{Condition, alone, at_least, descending, equals, keyed_from, less_than, no_limit, one_row, reading_by, rising, shown_of, shows}
use Rattle.zeb_register.proofs.ValueKinds.{are_fit, code}
use Rattle.zeb_register.specs.Sql.{IsListOf}
use Rattle.zeb_register.proofs.Writes.{codes_there, keyed_there, meets_there}

abbrev pub leaf_places : List ℕ
leaf_places = 4 ∷ 5 ∷ 6 ∷ []

abbrev pub leaf_names : List (List ℕ)
leaf_names = codes "term" ∷ codes "block" ∷ codes "data" ∷ []

abbrev pub falling_keys : List (Term × Order)
falling_keys = (col 1 4, descending) ∷ (col 1 5, descending) ∷ []

abbrev pub term_order : List ℕ
term_order = 4 ∷ 5 ∷ []

-- a row before which no other comes is before it, by what they are sorted by
abbrev pub IsOrderOf : (places : List ℕ) → List (Term × Order) → List Condition → Row → (Row → Row → Type 0) → Type 0
IsOrderOf places keys wheres params Before =
    (r s : Row) → is_lt (output_cmp (reading_by 0 wheres (shows places) keys one_row) (shown_of (shows places) keys params s) (shown_of (shows places) keys params r)) ≡ false
    → Before (map (column r) leaf_places) (map (column s) leaf_places)

module _ (old : State) (store : IsStore old) where
  abbrev pub table : List Row
  table = old.now.trees 9

  pub known : (r : Row) → Has table r → (is_int (rowid r) ≡ true) × (length r ≡ 7)
  known r here = (
    all_has _ table r (keyed_there store_schema 4 blocks blocks_static old store).1 here,
    sym (length-map r code) ∙ ap length (codes_there store_schema 4 blocks blocks_static old r store here),
  )

  module _ (db idx reg : ℤ) (rest : Row) (more : List Condition) where
    abbrev pub key : Row
    key = register_of db idx reg

    abbrev pub params : Row
    params = key ++ rest

    abbrev pub wheres : List Condition
    wheres = keyed_from 1 0 3 ++ more

    abbrev pub Found : Row → Type 0
    Found = IsAfter table key rest more

    module _ (fit : are_fit blocks params wheres ≡ true) where
      -- no row is shown, or the places of the first of those that meet the conditions, in the order of the statement
      pub first_of : (places : List ℕ) (names : List (List ℕ)) (keys : List (Term × Order)) (Before : Row → Row → Type 0) → IsOrderOf places keys wheres params Before
          → (text : List ℕ) → IsQuery text params 9 wheres (shows places) keys one_row names → (new : State) (rows : List Row) → Shown text params old new rows
          → ((rows ≡ []) × ShowsFirst Before Found []) ⊎ ((r : Row) × (rows ≡ map (column r) places ∷ []) × ShowsFirst Before Found (map (column r) leaf_places ∷ []))
      first_of places names keys Before order text q new rows shown =
          let read = reads_as text params old new store_schema store.is (Select (alone (reading_by 9 wheres (shows places) keys one_row)) names) q.is q.plain q.unlisted rows shown in
          let answer = reads old.now 9 wheres (shows places) keys one_row params rows read in
          let met = meets_there store_schema 4 blocks blocks_static old params wheres store fit in
          elim (first_shown table wheres (shows places) keys params rows answer) [
            | inl none ↦ inl (
              none.0,
              λ y found.
                  let s = (after_key table key rest more 3 y known).1 found in
                  none.1 s.0 s.1 ((met s.0 s.1).1 s.2),
            )
            | inr first ↦
                let r = first.0 in
                let x : Row = map (column r) leaf_places in
                inr (
                  r,
                  first.1.2 ∙ ap (λ v. v ∷ []) (shown_places params r places),
                  (
                    refl,
                    (after_key table key rest more 3 x known).0 (r, first.1.0, (met r first.1.0).0 first.1.1, refl),
                    λ y found.
                        let s = (after_key table key rest more 3 y known).1 found in
                        subst (Before x) (sym s.3) (order r s.0 (first.1.3 s.0 s.1 ((met s.0 s.1).1 s.2))),
                  ),
                )
          ]

      -- the greatest
      pub greatest_shown : (text : List ℕ) → IsQuery text params 9 wheres (shows leaf_places) falling_keys one_row leaf_names → (new : State) (rows : List Row) → Shown text params old new rows → ShowsGreatest Found rows
      greatest_shown text q new rows shown =
          elim (first_of leaf_places leaf_names falling_keys (λ row other. IsUpTo (own_key row) other) (λ r s low. not_lower (own_key (map (column r) leaf_places)) (own_key (map (column s) leaf_places)) low) text q new rows shown) [
            | inl none ↦ subst (ShowsGreatest Found) (sym none.0) none.1
            | inr first ↦ subst (ShowsGreatest Found) (sym first.1) first.2
          ]

      -- one of them, if there is one
      pub some_shown : (text : List ℕ) → IsQuery text params 9 wheres (shows (5 ∷ [])) [] one_row (codes "block" ∷ []) → (new : State) (rows : List Row) → Shown text params old new rows → ShowsSome Found rows
      some_shown text q new rows shown =
          elim (first_of (5 ∷ []) (codes "block" ∷ []) [] (λ row other. Unit {0}) (λ r s low. tt) text q new rows shown) [
            | inl none ↦ subst (ShowsSome Found) (sym none.0) none.1
            | inr first ↦ subst (ShowsSome Found) (sym first.1) (map (column first.0) leaf_places, first.2.1)
          ]

-- ---- what is shown of rows that are P is shown of those that are Q

pub first_so : (Before : Row → Row → Type 0) (P Q : Row → Type 0) (rows : List Row) → ((row : Row) → P row → Q row) → ((row : Row) → Q row → P row) → ShowsFirst Before P rows → ShowsFirst Before Q rows
first_so Before P Q [] so back none = λ row there. none row (back row there)
first_so Before P Q (row ∷ rows) so back it = (it.0, so row it.1, λ other there. it.2 other (back other there))

pub some_so : (P Q : Row → Type 0) (rows : List Row) → ((row : Row) → P row → Q row) → ((row : Row) → Q row → P row) → ShowsSome P rows → ShowsSome Q rows
some_so P Q [] so back none = λ row there. none row (back row there)
some_so P Q (row ∷ rows) so back it = (it.0, so it.0 it.1)

-- ---- the leaves of one term

abbrev pub of_term_text : List ℕ
of_term_text = OF_TERM.now

abbrev pub of_term_more : List Condition
of_term_more = equals 4 3 ∷ at_least 5 4 ∷ less_than 5 5 ∷ []

abbrev pub of_term_rest : List ℕ → ℤ → Row
of_term_rest term end = Text term ∷ Int (pos 0) ∷ Int end ∷ []

pub of_term_query : (db idx reg : ℤ) (term : List ℕ) (end : ℤ) → IsQuery of_term_text (register_of db idx reg ++ of_term_rest term end) 9 (keyed_from 1 0 3 ++ of_term_more) (shows leaf_places) falling_keys one_row leaf_names
unfolding understood everything
of_term_query db idx reg term end = record { is = refl; plain = (refl, refl); unlisted = refl; silent = λ schema base. refl; whole = (omega arith, refl); fit = λ trees mistyped. absurd (let t : true ≡ false = mistyped in cc) }

abbrev pub IsOf : ℤ → ℤ → ℤ → List ℕ → ℤ → Trees → Row → Type 0
IsOf db idx reg term end trees row = IsRest blocks_tree (register_of db idx reg) trees row × (column row 0 ≡ Text term) × HasBlockFrom 0 row × (is_lt (value_cmp (column row 1) (Int end)) ≡ true)

pub of_term_shown : (old : State) → IsStore old → (db idx reg : ℤ) (term : List ℕ) (end : ℤ) (new : State) (rows : List Row) → Shown of_term_text (register_of db idx reg ++ of_term_rest term end) old new rows
    → ShowsGreatest (IsOf db idx reg term end old.now.trees) rows
of_term_shown old store db idx reg term end new rows shown =
    first_so (λ row other. IsUpTo (own_key row) other) (IsAfter (old.now.trees 9) (register_of db idx reg) (of_term_rest term end) of_term_more) (IsOf db idx reg term end old.now.trees) rows (λ row h. ((h.0, h.1), h.2.0, h.2.1.0, h.2.1.1.0)) (λ row h. (h.0.0, h.0.1, (h.1, (h.2, (h.3, tt)))))
    (greatest_shown old store db idx reg (of_term_rest term end) of_term_more refl of_term_text (of_term_query db idx reg term end) new rows shown)

-- ---- those of the terms below

abbrev pub below_text : List ℕ
below_text = OF_TERMS_BELOW.now

abbrev pub below_more : List Condition
below_more = less_than 4 3 ∷ at_least 5 4 ∷ []

abbrev pub below_rest : List ℕ → Row
below_rest term = Text term ∷ Int (pos 0) ∷ []

pub below_query : (db idx reg : ℤ) (term : List ℕ) → IsQuery below_text (register_of db idx reg ++ below_rest term) 9 (keyed_from 1 0 3 ++ below_more) (shows leaf_places) falling_keys one_row leaf_names
unfolding understood everything
below_query db idx reg term = record { is = refl; plain = (refl, refl); unlisted = refl; silent = λ schema base. refl; whole = (omega arith, refl); fit = λ trees mistyped. absurd (let t : true ≡ false = mistyped in cc) }

abbrev pub IsUnder : ℤ → ℤ → ℤ → List ℕ → Trees → Row → Type 0
IsUnder db idx reg term trees row = IsRest blocks_tree (register_of db idx reg) trees row × (is_lt (value_cmp (column row 0) (Text term)) ≡ true) × HasBlockFrom 0 row

pub below_shown : (old : State) → IsStore old → (db idx reg : ℤ) (term : List ℕ) (new : State) (rows : List Row) → Shown below_text (register_of db idx reg ++ below_rest term) old new rows
    → ShowsGreatest (IsUnder db idx reg term old.now.trees) rows
below_shown old store db idx reg term new rows shown =
    first_so (λ row other. IsUpTo (own_key row) other) (IsAfter (old.now.trees 9) (register_of db idx reg) (below_rest term) below_more) (IsUnder db idx reg term old.now.trees) rows (λ row h. ((h.0, h.1), h.2.0, h.2.1.0)) (λ row h. (h.0.0, h.0.1, (h.1, (h.2, tt))))
    (greatest_shown old store db idx reg (below_rest term) below_more refl below_text (below_query db idx reg term) new rows shown)

-- ---- any

abbrev pub any_text : List ℕ
any_text = ANY.now

abbrev pub any_more : List Condition
any_more = at_least 5 3 ∷ []

abbrev pub any_rest : Row
any_rest = Int (pos 0) ∷ []

pub any_query : (db idx reg : ℤ) → IsQuery any_text (register_of db idx reg ++ any_rest) 9 (keyed_from 1 0 3 ++ any_more) (shows (5 ∷ [])) [] one_row (codes "block" ∷ [])
unfolding understood everything
any_query db idx reg = record { is = refl; plain = (refl, refl); unlisted = refl; silent = λ schema base. refl; whole = (omega arith, refl); fit = λ trees mistyped. absurd (let t : true ≡ false = mistyped in cc) }

abbrev pub IsThere : ℤ → ℤ → ℤ → Trees → Row → Type 0
IsThere db idx reg trees row = IsRest blocks_tree (register_of db idx reg) trees row × HasBlockFrom 0 row

pub any_shown : (old : State) → IsStore old → (db idx reg : ℤ) (new : State) (rows : List Row) → Shown any_text (register_of db idx reg ++ any_rest) old new rows → ShowsSome (IsThere db idx reg old.now.trees) rows
any_shown old store db idx reg new rows shown =
    some_so (IsAfter (old.now.trees 9) (register_of db idx reg) any_rest any_more) (IsThere db idx reg old.now.trees) rows (λ row h. ((h.0, h.1), h.2.0)) (λ row h. (h.0.0, h.0.1, (h.1, tt)))
    (some_shown old store db idx reg any_rest any_more refl any_text (any_query db idx reg) new rows shown)

-- ---- those of the terms from one text on and below another

-- what is lower by two columns is lower by these and more
pub two_lower : (a b c : Ordering) → ordering_then a (ordering_then b Equal) ≡ Less → ordering_then a (ordering_then b c) ≡ Less
two_lower Less b c lower = refl
two_lower Greater b c lower = absurd (cc)
two_lower Equal Less c lower = refl
two_lower Equal Equal c lower = absurd (cc)
two_lower Equal Greater c lower = absurd (cc)

abbrev pub between_text : List ℕ
between_text = BETWEEN.now

abbrev pub between_more : List Condition
between_more = at_least 4 3 ∷ less_than 4 4 ∷ at_least 5 5 ∷ []

abbrev pub between_rest : (first end : List ℕ) → Row
between_rest first end = Text first ∷ Text end ∷ Int (pos 0) ∷ []

pub between_query : (db idx reg : ℤ) (first end : List ℕ) → IsQuery between_text (register_of db idx reg ++ between_rest first end) 9 (keyed_from 1 0 3 ++ between_more) (shows leaf_places) (rising term_order) no_limit leaf_names
unfolding understood everything
between_query db idx reg first end = record { is = refl; plain = (refl, refl); unlisted = refl; silent = λ schema base. refl; whole = (omega arith, refl); fit = λ trees mistyped. absurd (let t : true ≡ false = mistyped in cc) }

abbrev pub IsBetweenRow : ℤ → ℤ → ℤ → (first end : List ℕ) → Trees → Row → Type 0
IsBetweenRow db idx reg first end trees row =
    (IsRest blocks_tree (register_of db idx reg) trees row × (is_lt (value_cmp (column row 0) (Text first)) ≡ false) × (is_lt (value_cmp (column row 0) (Text end)) ≡ true)) × HasBlockFrom 0 row

pub between_listed : (db idx reg : ℤ) (first end : List ℕ) (old new : State) (rows : List Row) → IsStore old → Shown between_text (register_of db idx reg ++ between_rest first end) old new rows → IsListOf (IsBetweenRow db idx reg first end old.now.trees) rows
between_listed db idx reg first end old new rows store shown =
    let front = register_of db idx reg in
    let P = IsAfter (old.now.trees 9) front (between_rest first end) between_more in
    let q = between_query db idx reg first end in
    let got = lists_after store_schema 4 blocks blocks_static _ blocks_keys between_text front (between_rest first end) between_more 3 term_order no_limit leaf_names q.is q.plain q.unlisted refl refl refl refl
    (λ r s lower. two_lower (value_cmp (column r 4) (column s 4)) (value_cmp (column r 5) (column s 5)) _ lower) old new rows store shown in
    list_so P (IsBetweenRow db idx reg first end old.now.trees) rows (λ x. (λ h. (((h.0, h.1), h.2.0, h.2.1.0), h.2.1.1.0), λ h. (h.0.0.0, h.0.0.1, (h.0.1, (h.0.2, (h.1, tt)))))) (subst (IsListOf P) (sym got.2) got.1)
