-- The statements that list the leaves nearest to a text, so many at most, with what they are compiled to.
use Rattle.zeb_leaves.proofs.Cited.{Row, column, Int, Text, ◌≡◌, ◌∙◌, ◌++◌, ◌∷◌, ◌<◌, ℕ, zero, suc, ℤ, pos, true, false, List, [], length, drop, refl, sym, ap, subst, arith, IsStore, State, Shown, store_schema, value_cmp, col, reverse, take, take-append-drop, IsUnder, below_more, falling_keys, leaf_names, leaf_places, term_order, two_lower, ListsBack, ListsFront, blocks, blocks_keys, blocks_static, register_of, IsAfter, lists_after, IsQuery, list_so, keyed_from, rising, shows, IsListOf}
use Rattle.sqlite.specs.Listing.{understood}
use Rattle.sqlite_tied.specs.Compute.{everything}
use Rattle.zeb_leaves.specs.declared.near_rows.TheConstants.{FIRST, LAST}
use Rattle.zeb_leaves.proofs.FallingRows.{falling_shown}
use Rattle.zeb_leaves.proofs.FromStatements.{from_more, IsFromRow}

-- fewer than were asked for are all
short : (limit : ℕ) (xs : List Row) → length (take limit xs) < limit → drop limit xs ≡ []
short zero xs few = absurd (omega (arith, few))
short (suc limit) [] few = refl
short (suc limit) (x ∷ xs) few = short limit xs (omega (arith, few))

cut : (limit : ℕ) (rows all : List Row) → rows ≡ take limit all → all ≡ rows ++ drop limit all
cut limit rows all is = sym (take-append-drop limit all) ∙ ap (λ (l : List Row). l ++ drop limit all) (sym is)

all_cut : (limit : ℕ) (rows all : List Row) → rows ≡ take limit all → length rows < limit → drop limit all ≡ []
all_cut limit rows all is few = short limit all (subst (λ (l : List Row). length l < limit) is few)

abbrev near_rest : (start : List ℕ) (limit : ℕ) → Row
near_rest start limit = Text start ∷ Int (pos 0) ∷ Int (pos limit) ∷ []

module _ (db idx reg : ℤ) (start : List ℕ) (limit : ℕ) where
  abbrev front : Row
  front = register_of db idx reg

  abbrev rest : Row
  rest = near_rest start limit

  pub first_query : IsQuery FIRST.now (front ++ rest) 9 (keyed_from 1 0 3 ++ from_more) (shows leaf_places) (rising term_order) (col 0 5) leaf_names
  unfolding understood everything
  first_query = record { is = refl; plain = (refl, refl); unlisted = refl; silent = λ schema base. refl; whole = (omega arith, refl); fit = λ trees mistyped. absurd (let t : true ≡ false = mistyped in cc) }

  pub first_listed : (old new : State) (rows : List Row) → IsStore old → Shown FIRST.now (front ++ rest) old new rows → ListsFront limit (IsFromRow db idx reg start old.now.trees) rows
  first_listed old new rows store shown =
      let P = IsAfter (old.now.trees 9) front rest from_more in
      let q = first_query in
      let got = lists_after store_schema 4 blocks blocks_static _ blocks_keys FIRST.now front rest from_more 3 term_order (col 0 5) leaf_names q.is q.plain q.unlisted refl refl refl refl
      (λ r s lower. two_lower (value_cmp (column r 4) (column s 4)) (value_cmp (column r 5) (column s 5)) _ lower) old new rows store shown in
      let listed = list_so P (IsFromRow db idx reg start old.now.trees) got.0 (λ x. (λ h. ((h.0, h.1), h.2.0, h.2.1.0), λ h. (h.0.0, h.0.1, (h.1, (h.2, tt))))) got.1 in
      (drop limit got.0, subst (IsListOf (IsFromRow db idx reg start old.now.trees)) (cut limit rows got.0 got.2) listed, all_cut limit rows got.0 got.2)

  pub last_query : IsQuery LAST.now (front ++ rest) 9 (keyed_from 1 0 3 ++ below_more) (shows leaf_places) falling_keys (col 0 5) leaf_names
  unfolding understood everything
  last_query = record { is = refl; plain = (refl, refl); unlisted = refl; silent = λ schema base. refl; whole = (omega arith, refl); fit = λ trees mistyped. absurd (let t : true ≡ false = mistyped in cc) }

  pub last_listed : (old new : State) (rows : List Row) → IsStore old → Shown LAST.now (front ++ rest) old new rows → ListsBack limit (IsUnder db idx reg start old.now.trees) rows
  last_listed old new rows store shown =
      let P = IsAfter (old.now.trees 9) front rest below_more in
      let got = falling_shown old store db idx reg rest below_more refl refl (col 0 5) LAST.now last_query new rows shown in
      let listed = list_so P (IsUnder db idx reg start old.now.trees) got.0 (λ x. (λ h. ((h.0, h.1), h.2.0, h.2.1.0), λ h. (h.0.0, h.0.1, (h.1, (h.2, tt))))) got.1 in
      (got.0, drop limit (reverse got.0), listed, cut limit rows (reverse got.0) got.2, all_cut limit rows (reverse got.0) got.2)
