-- What calls that list the terms of a register answer, by the leaves that they found.
use Rattle.zeb_leaves.proofs.Cited.{Row, column, Has, Trees, Text, ◌≡◌, ◌↔◌, ◌∙◌, ◌≤◌, ◌∷◌, ℕ, false, List, [], Some, refl, sym, ap, subst, inl, inr, arith, nat_cmp, slice_cmp, sum_by, value_cmp-Text, Entry, State, TermCount, IsEntryOf, IsLeafAt, IsLeafIn, IsLeafOf, IsStore, IsUncovered, LacksEntriesAt, SumsRecords, key_in, leaf_key, own_key, value_cmp, sum_by-cons, is_lt, AreLeavesFrom, CountAll, HideAllOwns, IsLeafFrom, IsNoText, IsRowFrom, ShowAllOwns, lacks_sum, list_so, packed_leaves, IsListOf, HidesCount, HidesSome, ListsAll, ListsCounts, RegisterOf}
use Rattle.zeb_leaves.proofs.CountedTerms.{Counted, all_counted, none_there}
use Rattle.zeb_leaf_rows.proofs.CoveringLeaves.{Leaves, from_leaf, leaf_from, leaf_shape, shape_from}
use Rattle.zeb_leaves.proofs.OneLeaf.{one_leaf}
use Rattle.zeb_leaves.proofs.OwnLeaves.{FromText, IsHidden, all_hide, all_owns}
use Rattle.zeb_leaves.proofs.SpanEntries.{HasOwnIn}
use Rattle.zeb_leaves.proofs.SpanLists.{its, its_has, own_term}
use Rattle.zeb_leaves.proofs.TermEntries.{own_summed, shown_entry}

-- each text is from the empty one on
pub from_least : (t : List ℕ) → is_lt (slice_cmp nat_cmp t []) ≡ false
from_least [] = refl
from_least (x ∷ t) = refl

-- ---- records

pub records_in : (own : List Entry) (e : Entry) → Has own e → e.records ≤ sum_by (λ (d : Entry). d.records) own
records_in [] e here = absurd here
records_in (d ∷ own) e (inl same) = omega (arith, sum_by-cons (λ (x : Entry). x.records) d own, ap (λ (x : Entry). x.records) same)
records_in (d ∷ own) e (inr later) = omega (arith, sum_by-cons (λ (x : Entry). x.records) d own, records_in own e later)

pub some_records : (Leaves : Row → Type 0) (term : List ℕ) (e : Entry) → IsEntryOf Leaves term e → 1 ≤ e.records
some_records Leaves term e is = (shown_entry is.1 is.2 is.4 e is.5).records.0

module _ (trees : Trees) (at : RegisterOf) where
  abbrev pub Own : Row → Type 0
  Own = IsLeafOf trees at.db.0 (key_in at.index at.register [])

  -- ---- what can't be shown

  abbrev Hides : List ℕ → Type 0
  Hides = HidesCount packed_leaves trees at.db.0 at.index at.register

  pub lacks_hides : (t : List ℕ) (b : ℕ) → LacksEntriesAt Own (leaf_key t b) → Hides t
  lacks_hides t b lacks = λ records shows. lacks_sum Own t records (b, lacks) shows.0

  -- a term that has an entry has some records
  pub entry_counts : (e : Entry) → IsEntryOf Own e.term e → (records : ℕ) → SumsRecords Own e.term records → 1 ≤ records
  entry_counts e is records sums = omega (arith, sums.sum, some_records Own e.term e is, records_in sums.own e ((sums.each e).1 is))

  pub text_hides : (e : Entry) → IsEntryOf Own e.term e → IsNoText e → Hides e.term
  text_hides e is bad = λ records shows. bad (shows.1 (entry_counts e is records shows.0))

  pub hidden_term : (first : List ℕ) (from : ℕ) → IsHidden Own IsNoText first from → HidesSome packed_leaves trees at.db.0 at.index at.register
  hidden_term first from (inl it) = (it.0, lacks_hides it.0 it.1 it.3)
  hidden_term first from (inr it) = (it.0.term, text_hides it.0 it.2 it.3)

  -- ---- what can

  -- entries of keys that are In, and the counts of their terms: those asked for, of which each block is In
  module _ (In : List ℕ → ℕ → Type 0) (own : List Entry) (has : HasOwnIn Own In own) (counts : List TermCount) (counted : Counted own counts) where
    sums : (term : List ℕ) (records : ℕ) → ((block : ℕ) → In term block) → records ≡ sum_by (λ (e : Entry). e.records) (its term own) → SumsRecords Own term records
    sums term records all is = own_summed Own term (its term own) records (own_term Own In own has term all) is

    pub lists_counted : (P : List ℕ → Type 0) → ((t : TermCount) → Has counts t → P t.term) → ((term : List ℕ) → P term → (block : ℕ) → In term block) → ListsCounts packed_leaves trees at.db.0 at.index at.register P counts
    lists_counted P asked all = record {
      rising = counted.rising;
      each = λ t h.
          let is = asked t h in
          let e = counted.some t h in
          let some = some_records Own e.0.term e.0 ((has.each e.0).0 e.1).1 in
          let mine = records_in (its t.term own) e.0 ((its_has t.term own e.0).1 (e.1, e.2)) in
          (is, omega (arith, counted.sums t h, some, mine), (sums t.term t.records (all t.term is) (counted.sums t h), λ _. counted.texts t h));
      others = λ term is none.
          let nothing : its term own ≡ [] = none_there (its term own) (λ e h.
          let here = (its_has term own e).0 h in
          let t = counted.found e here.0 in
          none t.0 t.1 (t.2 ∙ here.1)) in
          sums term 0 (all term is) (sym (ap (sum_by (λ (e : Entry). e.records)) nothing));
    }

-- ---- the leaves that statements show

module _ (s : State) (store : IsStore s) (at : RegisterOf) where
  abbrev These : Row → Type 0
  These = Leaves s store at.db.0 at.index at.register

  pub row_so : (first : List ℕ) (row : Row) → IsRowFrom at first s.now.trees row ↔ IsLeafFrom These first row
  row_so first row = (
    λ it.
        let shape = shape_from s store at.db.0 at.index at.register row 0 it.0 it.2 in
        let term : column row 0 ≡ Text shape.0 = ap (λ (r : Row). column r 0) shape.3 in
        (leaf_from s store at.db.0 at.index at.register row 0 it.0 it.2, shape.0, shape.1, ap own_key shape.3, sym (ap is_lt (ap (λ v. value_cmp v (Text first)) term ∙ value_cmp-Text shape.0 first)) ∙ it.1),
    λ it.
        let term : column row 0 ≡ Text it.1 = ap (λ (k : Row). column k 0) it.3 in
        (it.0.0, ap is_lt (ap (λ v. value_cmp v (Text first)) term ∙ value_cmp-Text it.1 first) ∙ it.4, from_leaf s store at.db.0 at.index at.register row 0 it.0 (omega arith)),
  )

  -- the leaf that covers the first text's first block, and those that a statement lists behind it
  pub found_from : (first : List ℕ) (leaf : Row) → IsLeafAt (IsLeafIn s.now.trees at) (leaf_key first 0) (Some leaf) → (rows : List Row) → (behind : List Row) × (rows ≡ leaf ∷ behind) × IsListOf (IsRowFrom at first s.now.trees) behind
      → AreLeavesFrom (IsLeafIn s.now.trees at) first rows
  found_from first leaf covers rows told = subst (AreLeavesFrom (IsLeafIn s.now.trees at) first) (sym told.1) (covers, list_so (IsRowFrom at first s.now.trees) (IsLeafFrom These first) told.0 (row_so first) told.2)

  -- ---- all terms

  module _ (rows : List Row) (are : AreLeavesFrom These [] rows) where
    pub all_own : (own : List Entry) → ShowAllOwns [] rows own → HasOwnIn These (FromText []) own
    all_own own shows = all_owns These (leaf_shape s store at.db.0 at.index at.register) (one_leaf s store at.db.0 at.index at.register) [] rows own are shows

    pub some_hidden : (Bad : Entry → Type 0) → HideAllOwns Bad [] rows → IsHidden These Bad [] 0
    some_hidden Bad bad = all_hide These (leaf_shape s store at.db.0 at.index at.register) (one_leaf s store at.db.0 at.index at.register) [] Bad rows are bad

    pub all_listed : (own : List Entry) (counts : List TermCount) → ShowAllOwns [] rows own → CountAll own [] counts → ListsAll packed_leaves s.now.trees at.db.0 at.index at.register counts
    all_listed own counts shows all =
        let has = all_own own shows in
        lists_counted s.now.trees at (FromText []) own has counts (all_counted own counts has.rising all) (λ _. Unit {0}) (λ t h. tt) (λ term any block. from_least term)

    pub all_hidden : HideAllOwns IsNoText [] rows → HidesSome packed_leaves s.now.trees at.db.0 at.index at.register
    all_hidden bad = hidden_term s.now.trees at [] 0 (some_hidden IsNoText bad)

  -- no leaf covers the first block of the empty term
  pub uncovered_hides : IsUncovered (IsLeafIn s.now.trees at) (leaf_key [] 0) → HidesSome packed_leaves s.now.trees at.db.0 at.index at.register
  uncovered_hides none = ([], lacks_hides s.now.trees at [] 0 (inr none))
