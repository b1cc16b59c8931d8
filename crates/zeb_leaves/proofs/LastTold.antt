-- What a call that lists the last terms below a text answers, by the leaves that it found.
use Rattle.zeb_leaves.proofs.Cited.{Row, column, row_cmp, Has, all_from, all_has, Text, ◌≡◌, ◌≢◌, ◌≤◌, ◌∙◌, ◌++◌, ℕ, true, false, nat_eq, List, [], ◌∷◌, length, Option, Some, None, refl, sym, ap, subst, inl, inr, arith, Less, nat_list_cmp_total, never_itself, value_cmp-Text, State, TermCount, IsLeafIn, IsStore, leaf_key, own_key, value_cmp, reverse, eqb-true, is_lt, IfSome, Vec, IsOfTermsBelow, HidesBeside, IsSide, ListsBeside, CountBelow, HideBelow, Below, flipped_total, has_reversed, reversed_rises, packed_leaves, IsListOf, Comes, ListsBefore, RegisterOf}
use Rattle.std.specs.List.Sorted.{IsStrictlySortedBy}
use Rattle.std.specs.declared.alloc.Global.{Global}
use Rattle.zeb_leaf_rows.proofs.CoveringLeaves.{Leaves, below_is_lower, below_up, from_leaf, leaf_shape}
use Rattle.zeb_leaves.proofs.FallingKeys.{by_key, key_before, keys_total}
use Rattle.zeb_leaves.proofs.FirstTerms.{key_less}
use Rattle.zeb_leaves.proofs.LastTerms.{StandsBelow, last_hides, last_told, leafless}
use Rattle.zeb_leaves.proofs.OneLeaf.{one_leaf}
use Rattle.zeb_leaves.proofs.OwnLeaves.{key_behind}
use Rattle.zeb_leaves.proofs.TermsTold.{from_least}

pub none_before : (term : List ℕ) → ¬ Comes term []
none_before term on = let e : true ≡ false = sym (ap is_lt on) ∙ from_least term in cc

-- a list of which a test says whether it is empty
pub some_there : {X : Type 0} (xs : List X) (n : ℕ) → n ≡ length xs → nat_eq n 0 ≡ false → xs ≢ []
some_there xs n is isnt same = let zero : n ≡ 0 = is ∙ ap length same in let e : true ≡ false = sym (ap (λ k. nat_eq k 0) zero) ∙ isnt in cc

pub none_there : {X : Type 0} (xs : List X) (n : ℕ) → n ≡ length xs → nat_eq n 0 ≡ true → xs ≡ []
none_there [] n is yes' = refl
none_there (x ∷ xs) n is yes' = absurd (omega (arith, is, eqb-true n 0 yes'))

pub more_there : {X : Type 0} (xs ys : List X) → xs ≢ [] → xs ++ ys ≢ []
more_there [] ys some same = some refl
more_there (x ∷ xs) ys some same = cc

pub least_before : (start : List ℕ) → start ≢ [] → Comes [] start
least_before [] some = absurd (some refl)
least_before (x ∷ start) some = refl

first_of : (rows : List Row) → rows ≢ [] → (row : Row) × Has rows row
first_of [] some = absurd (some refl)
first_of (row ∷ rows) some = (row, inl refl)

module _ (s : State) (store : IsStore s) (at : RegisterOf) where
  abbrev These : Row → Type 0
  These = Leaves s store at.db.0 at.index at.register

  keys_rise : (rows : List Row) → IsStrictlySortedBy row_cmp rows → ((r : Row) → Has rows r → These r) → IsStrictlySortedBy by_key rows
  unfolding IsStrictlySortedBy
  keys_rise [] up known = tt
  keys_rise (row ∷ rows) up known = (
    all_from (λ r. by_key row r ≡ Less) rows (λ r h. key_behind These (leaf_shape s store at.db.0 at.index at.register) (one_leaf s store at.db.0 at.index at.register) row r (known row (inl refl)) (known r (inr h)) (all_has (λ x. row_cmp row x ≡ Less) rows r up.0 h)),
    keys_rise rows up.1 (λ r h. known r (inr h)),
  )

  module _ (start : List ℕ) (n : ℕ) (one : 1 ≤ n) (rising : List Row) (are : IsListOf (IsOfTermsBelow at start s.now.trees) rising) where
    abbrev Stands : List Row → Type 0
    Stands = StandsBelow s.now.trees at start n one (leaf_shape s store at.db.0 at.index at.register) (one_leaf s store at.db.0 at.index at.register) start 0

    leaf_of : (r : Row) → Has rising r → These r × (row_cmp (own_key r) (leaf_key start 0) ≡ Less)
    leaf_of r h =
        let is = (are.each r).0 h in
        let low = below_is_lower s store at.db.0 at.index at.register start 0 r is in
        ((below_up s store at.db.0 at.index at.register start 0 r is).0, ap (λ (x : Row). row_cmp (own_key x) (leaf_key start 0)) low.0.3 ∙ key_less low.0.0 start low.0.1 0 low.1)

    below_stands : Stands (reverse rising)
    below_stands = record {
      known = λ r h. leaf_of r ((has_reversed rising r).0 h);
      every = λ r there less.
          let shape = leaf_shape s store at.db.0 at.index at.register r there in
          let before = key_before start shape.0 shape.1 (sym (ap (λ (x : Row). row_cmp (own_key x) (leaf_key start 0)) shape.3) ∙ less) in
          (has_reversed rising r).1 ((are.each r).1 (
            there.0,
            ap (λ (x : Row). is_lt (value_cmp (column x 0) (Text start))) shape.3 ∙ ap is_lt (value_cmp-Text shape.0 start ∙ before),
            from_leaf s store at.db.0 at.index at.register r 0 there (omega arith),
          ));
      fall = reversed_rises (flipped_total keys_total) rising (keys_rise rising are.rising (λ r h. (leaf_of r h).0));
    }

    module _ (rows : List Row) (is : reverse rising ≡ rows) where
      abbrev on : Type 0
      on = IsSide at start n Below s.now.trees

      stands : Stands rows
      stands = subst Stands is below_stands

      pub last_found : (found : Option (Vec TermCount Global)) → IfSome found (λ list. (counts : List TermCount) × CountBelow n start 0 rows [] counts × (list.items ≡ reverse counts))
          → IfSome found (λ list. on → ListsBeside at start n Below s.now.trees list.items)
      last_found None told = tt
      last_found (Some list) told = λ below.
          subst (ListsBefore packed_leaves s.now.trees at.db.0 at.index at.register start n) (sym told.2)
          (last_told s.now.trees at start n one (leaf_shape s store at.db.0 at.index at.register) (one_leaf s store at.db.0 at.index at.register) rows told.0 stands told.1)

      pub last_hidden : rows ≢ [] → HideBelow n start 0 rows [] → on → HidesBeside at start n Below s.now.trees
      last_hidden some bad below =
          let first = first_of rows some in
          last_hides s.now.trees at start n one (leaf_shape s store at.db.0 at.index at.register) (one_leaf s store at.db.0 at.index at.register) first.0 ((stands.known first.0 first.1).0) (least_before start below) rows stands bad

      -- without a row there no leaf covers what is below, and so none may be anywhere
      pub leafless_hidden : rows ≡ [] → (leaf : Row) × IsLeafIn s.now.trees at leaf → on → HidesBeside at start n Below s.now.trees
      leafless_hidden none it below =
          let least = least_before start below in
          last_hides s.now.trees at start n one (leaf_shape s store at.db.0 at.index at.register) (one_leaf s store at.db.0 at.index at.register) it.0 it.1 least [] (subst Stands none stands)
          (λ both. never_itself nat_list_cmp_total [] (subst (Comes []) both.0 least))

  pub leafless_found : (start : List ℕ) (n : ℕ) → 1 ≤ n → (found : Option (Vec TermCount Global)) → IfSome found (λ list. list.items ≡ []) → ((leaf : Row) → ¬ IsLeafIn s.now.trees at leaf)
      → IfSome found (λ list. IsSide at start n Below s.now.trees → ListsBeside at start n Below s.now.trees list.items)
  leafless_found start n one None told gone = tt
  leafless_found start n one (Some list) told gone = λ below. subst (ListsBefore packed_leaves s.now.trees at.db.0 at.index at.register start n) (sym told) (leafless s.now.trees at start n one gone)
