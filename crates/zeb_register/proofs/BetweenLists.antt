-- The lists of neighbouring terms are told by their units. What a call that lists them says of tables that hold a content.
use Rattle.zeb_register.proofs.Cited.{Row, State, Text, has_mapped, mapped_has, Has, ◌≡◌, ◌↔◌, ◌∙◌, ℕ, List, [], ◌∷◌, ◌++◌, drop, map, refl, sym, ap, ap₂, subst, inl, inr, Result, Ok, Err, Vec, Global, Key, Posting, RegFault, RegisterOf, IsBetween, IsRestBetween, three_behind, register_columns, key_in, posting_row, first_three, IsListOf, IsRest, IsStore, postings_tree, Format, plain_rows, holds_in, term_list, IsPostingBetween, TellsHeld, ShowsNone, SomeShowsNoneBehind, HasMalformedBetween, ListsBetween, ListsTerms}
use Rattle.zeb_register.proofs.BetweenRows.{has_under, shown_row, under, under_has, under_listed}
use Rattle.zeb_register.proofs.ContentLemmas.{same_posting}
use Rattle.zeb_register.proofs.KeyLists.{held_listing, one_listing}
use Rattle.zeb_register.proofs.RowUnits.{rows_listed}

-- ---- rows of postings

all_first : (xs : List Row) → ((x : Row) → Has xs x → (p : Posting) × (first_three x ≡ posting_row p)) → (list : List Posting) × (map posting_row list ≡ map first_three xs)
all_first [] each = ([], refl)
all_first (x ∷ xs) each =
    let p = each x (inl refl) in
    let rest = all_first xs (λ y h. each y (inr h)) in
    (p.0 ∷ rest.0, ap₂ (λ a as'. a ∷ as') (sym p.1) rest.1)

module _ (s : State) (store : IsStore s) (at : RegisterOf) (first last : List ℕ) (rows : List Row) (are : IsListOf (IsRestBetween postings_tree (register_columns at) first (last ++ 0 ∷ []) s.now.trees) rows) where
  abbrev key : List ℕ → Key
  key term = key_in at.index at.register term

  abbrev its : List ℕ → List Row
  its = under postings_tree s.now.trees at first last rows are

  there : (term : List ℕ) (x : Row) → Has (its term) x → Has rows (Text term ∷ x)
  there = has_under postings_tree s.now.trees at first last rows are

  module _ (list : List Posting) (shown : map posting_row list ≡ map three_behind rows) where
    -- a row under a term shows a posting of the list
    under_shown : (term : List ℕ) (x : Row) → Has (its term) x → (p : Posting) × Has list p × (first_three x ≡ posting_row p)
    under_shown term x here =
        has_mapped posting_row list (three_behind (Text term ∷ x)) (subst (λ (l : List Row). Has l (three_behind (Text term ∷ x))) (sym shown) (mapped_has three_behind rows (Text term ∷ x) (there term x here)))

    own : (term : List ℕ) → (l : List Posting) × (map posting_row l ≡ map first_three (its term))
    own term = all_first (its term) (λ x h. let it = under_shown term x h in (it.0, it.2))

    listed_of : (p : Posting) → Has list p → (term : List ℕ) × IsBetween first last term × Has (own term).0 p
    listed_of p here =
        let row = has_mapped three_behind rows (posting_row p) (subst (λ (l : List Row). Has l (posting_row p)) shown (mapped_has posting_row list p here)) in
        let it = shown_row postings_tree s.now.trees at first last rows are row.0 row.1 in
        let x = drop 1 row.0 in
        let inside = under_has postings_tree s.now.trees at first last rows are it.0 x (subst (Has rows) it.2 row.1) in
        let q = has_mapped posting_row (own it.0).0 (first_three x) (subst (λ (l : List Row). Has l (first_three x)) (sym (own it.0).1) (mapped_has first_three (its it.0) x inside)) in
        let same : p ≡ q.0 = same_posting p q.0 (row.2 ∙ ap three_behind it.2 ∙ q.2) in
        (it.0, it.1, subst (Has (own it.0).0) (sym same) q.1)

    of_listed : (p : Posting) → (term : List ℕ) × IsBetween first last term × Has (own term).0 p → Has list p
    of_listed p of =
        let x = has_mapped first_three (its of.0) (posting_row p) (subst (λ (l : List Row). Has l (posting_row p)) (own of.0).1 (mapped_has posting_row (own of.0).0 p of.2)) in
        let q = under_shown of.0 x.0 x.1 in
        subst (Has list) (sym (same_posting p q.0 (x.2 ∙ q.2))) q.1

    -- the rows of the terms, listed and read, say their units
    pub rows_between : ListsBetween plain_rows s.now.trees at first last list
    rows_between = record {
      lists = λ term. (own term).0;
      units = λ term between. rows_listed s store at.db.0 (key term) (its term) (own term).0 (under_listed postings_tree s.now.trees at first last rows are term between) (own term).1;
      each = λ p. (listed_of p, of_listed p);
    }

  -- one that shows no posting is of one of the terms
  pub none_between : SomeShowsNoneBehind rows → HasMalformedBetween plain_rows s.now.trees at first last
  none_between bad =
      let it = shown_row postings_tree s.now.trees at first last rows are bad.0 bad.1 in
      (it.0, it.1, (drop 1 bad.0, subst (λ (r : Row). IsRest postings_tree (register_columns at) s.now.trees r) it.2 it.3, subst (λ (r : Row). ShowsNone (three_behind r)) it.2 bad.2))

-- ---- a call

module _ (format : Format) (at : RegisterOf) (first last : List ℕ) where
  pub between_told : (old new : State) (result : Result (Vec Posting Global) RegFault) → ListsTerms format at first last old new result
      → TellsHeld (holds_in format) old new result (λ content list. (p : Posting) → Has list.items p ↔ IsPostingBetween content at first last p)
  between_told old new (Ok list) looks clean store = λ content holds p.
      let are = looks.finds clean store in
      let same = λ (term : List ℕ) (between : IsBetween first last term).
      one_listing format old.now.trees at.db.0 (key_in at.index at.register term) (are.lists term) (term_list content at term) (are.units term between) (held_listing format old.now.trees at.db.0 (key_in at.index at.register term) content holds) in (
        λ here. let it = (are.each p).0 here in (it.0, it.1, subst (λ l. Has l p) (same it.0 it.1) it.2),
        λ of. (are.each p).1 (of.0, of.1, subst (λ l. Has l p) (sym (same of.0 of.1)) of.2),
      )
  between_told old new (Err fault) looks clean store = tt
