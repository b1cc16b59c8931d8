-- The statements that find the term next to a text.
use Rattle.zeb_register.proofs.Cited.{reads_as, Select, Row, column, value_cmp, State, Term, col, lit, Trees, Value, Int, Text, Has, value_cmp-Text, then-Equal, ◌≡◌, ◌↔◌, ◌∙◌, ℕ, ℤ, pos, true, false, List, [], ◌∷◌, codes, refl, sym, ap, ap₂, subst, inl, inr, Equal, map, arith, nat_cmp, slice_cmp, is_lt, ordering_then, NOTHING, TERM_FROM, TERM_BEFORE, store_schema, IsStore, HasTerm, ShowsNearest, Comes}
use Rattle.sqlite.specs.Listing.{understood}
use Rattle.sqlite.specs.State.{Shown}
use Rattle.sqlite_tied.specs.Compute.{everything}
use Rattle.sqlite_value.specs.declared.keys.Key.{Key}
use Rattle.zeb_register.proofs.StatementForms.{Condition, equals, at_least, less_than, MeetsAll, passes, reading_by, alone, shows, ascending, descending, one_row}
use Rattle.zeb_register.proofs.ValueKinds.{code, codes_of}
use Rattle.zeb_register.proofs.RowLemmas.{spread, code_at, int_of, text_of}
use Rattle.zeb_register.proofs.Scans.{reads}
use Rattle.zeb_register.proofs.FirstRows.{first_shown}
use Rattle.zeb_register.proofs.Writes.{codes_there, meets_there}
use Rattle.zeb_register.proofs.Refusals.{IsQuery}
use Rattle.zeb_register.proofs.PostingStatements.{postings, postings_static}
use Rattle.zeb_register.proofs.CountLemmas.{comes_is, comes_not}

abbrev pub from_text : List ℕ
from_text = TERM_FROM.now

abbrev pub before_text : List ℕ
before_text = TERM_BEFORE.now

abbrev pub nothing_text : List ℕ
nothing_text = NOTHING.now

pub nothing_query : IsQuery nothing_text [] 7 [] (shows (4 ∷ [])) [] (lit (Int (pos 0))) (codes "term" ∷ [])
unfolding understood everything
nothing_query = record { is = refl; plain = (refl, refl); unlisted = refl; silent = λ schema base. refl; whole = (omega arith, refl); fit = λ trees mistyped. absurd (let t : true ≡ false = mistyped in cc) }

abbrev in_register : Condition → List Condition
in_register last = equals 1 0 ∷ equals 2 1 ∷ equals 3 2 ∷ last ∷ []

abbrev from_keys : List (Term × Key)
from_keys = (col 1 4, ascending) ∷ []

abbrev before_keys : List (Term × Key)
before_keys = (col 1 4, descending) ∷ []

abbrev pub near : ℤ → ℤ → ℤ → List ℕ → Row
near db idx reg start = Int db ∷ Int idx ∷ Int reg ∷ Text start ∷ []

pub from_query : (db idx reg : ℤ) (start : List ℕ) → IsQuery from_text (near db idx reg start) 7 (in_register (at_least 4 3)) (shows (4 ∷ [])) from_keys one_row (codes "term" ∷ [])
unfolding understood everything
from_query db idx reg start = record { is = refl; plain = (refl, refl); unlisted = refl; silent = λ schema base. refl; whole = (omega arith, refl); fit = λ trees mistyped. absurd (let t : true ≡ false = mistyped in cc) }

pub before_query : (db idx reg : ℤ) (start : List ℕ) → IsQuery before_text (near db idx reg start) 7 (in_register (less_than 4 3)) (shows (4 ∷ [])) before_keys one_row (codes "term" ∷ [])
unfolding understood everything
before_query db idx reg start = record { is = refl; plain = (refl, refl); unlisted = refl; silent = λ schema base. refl; whole = (omega arith, refl); fit = λ trees mistyped. absurd (let t : true ≡ false = mistyped in cc) }

abbrev laid : Value → Row → List ℕ → Row
laid id r term = id ∷ column r 1 ∷ column r 2 ∷ column r 3 ∷ Text term ∷ column r 5 ∷ column r 6 ∷ column r 7 ∷ []

module _ (old : State) (store : IsStore old) (db idx reg : ℤ) (start : List ℕ) where
  abbrev trees : Trees
  trees = old.now.trees

  abbrev params : Row
  params = near db idx reg start

  -- a row of the table, by its rowid and its term
  row_is : (r : Row) → Has (trees 7) r → (id : ℤ) × (term : List ℕ) × (r ≡ laid (Int id) r term) × (column r 4 ≡ Text term)
  row_is r here =
      let typed : map code r ≡ codes_of postings = codes_there store_schema 3 postings postings_static old r store here in
      let id = int_of (column r 0) (code_at r (codes_of postings) 0 typed) in
      let term = text_of (column r 4) (code_at r (codes_of postings) 4 typed) in
      (id.0, term.0, spread r (codes_of postings) typed ∙ ap₂ (λ v w. v ∷ column r 1 ∷ column r 2 ∷ column r 3 ∷ w ∷ column r 5 ∷ column r 6 ∷ column r 7 ∷ []) id.1 term.1, term.1)

  -- a row of the register is one of a term
  row_term : (r : Row) → Has (trees 7) r → column r 1 ≡ Int db → column r 2 ≡ Int idx → column r 3 ≡ Int reg → (term : List ℕ) × HasTerm trees db idx reg term × (column r 4 ≡ Text term)
  row_term r here one two three =
      let it = row_is r here in
      let same : r ≡ Int it.0 ∷ Int db ∷ Int idx ∷ Int reg ∷ Text it.1 ∷ column r 5 ∷ column r 6 ∷ column r 7 ∷ [] =
      it.2 ∙ (λ i. Int it.0 ∷ one i ∷ two i ∷ three i ∷ Text it.1 ∷ column r 5 ∷ column r 6 ∷ column r 7 ∷ []) in
      (it.1, (column r 5 ∷ column r 6 ∷ column r 7 ∷ [], (it.0, subst (Has (trees 7)) same here)), it.3)

  abbrev term_row : (term : List ℕ) → HasTerm trees db idx reg term → Row
  term_row term there = Int there.1.0 ∷ Int db ∷ Int idx ∷ Int reg ∷ Text term ∷ there.0

  abbrev FromStart : List ℕ → Type 0
  FromStart term = HasTerm trees db idx reg term × ¬ Comes term start

  abbrev BelowStart : List ℕ → Type 0
  BelowStart term = HasTerm trees db idx reg term × Comes term start

  meets_from : (r : Row) → Has (trees 7) r → (passes (in_register (at_least 4 3)) params r ≡ true) ↔ MeetsAll params r (in_register (at_least 4 3))
  meets_from r here = meets_there store_schema 3 postings postings_static old params (in_register (at_least 4 3)) store refl r here

  meets_below : (r : Row) → Has (trees 7) r → (passes (in_register (less_than 4 3)) params r ≡ true) ↔ MeetsAll params r (in_register (less_than 4 3))
  meets_below r here = meets_there store_schema 3 postings postings_static old params (in_register (less_than 4 3)) store refl r here

  row_from : (term : List ℕ) (p : FromStart term) → passes (in_register (at_least 4 3)) params (term_row term p.0) ≡ true
  row_from term p = (meets_from (term_row term p.0) p.0.1.1).1 (refl, (refl, (refl, (ap is_lt (value_cmp-Text term start) ∙ (comes_not term start).1 p.1, tt))))

  row_below : (term : List ℕ) (p : BelowStart term) → passes (in_register (less_than 4 3)) params (term_row term p.0) ≡ true
  row_below term p = (meets_below (term_row term p.0) p.0.1.1).1 (refl, (refl, (refl, (ap is_lt (value_cmp-Text term start) ∙ ap is_lt p.1, tt))))

  pub shows_least : (new : State) (rows : List Row) → Shown from_text params old new rows → ShowsNearest FromStart Comes rows
  shows_least new rows shown =
      let wheres = in_register (at_least 4 3) in
      let read = reads_as from_text params old new store_schema store.is (Select (alone (reading_by 7 wheres (shows (4 ∷ [])) from_keys one_row)) (codes "term" ∷ [])) (from_query db idx reg start).is (from_query db idx reg start).plain (from_query db idx reg start).unlisted rows shown in
      let answer = reads old.now 7 wheres (shows (4 ∷ [])) from_keys one_row params rows read in
      elim (first_shown (trees 7) wheres (shows (4 ∷ [])) from_keys params rows answer) [
        | inl none ↦ subst (ShowsNearest FromStart Comes) (sym none.0) (λ term p. none.1 (term_row term p.0) p.0.1.1 (row_from term p))
        | inr first ↦
            let met = (meets_from first.0 first.1.0).0 first.1.1 in
            let it = row_term first.0 first.1.0 met.0 met.1.0 met.1.1.0 in
            let low : is_lt (slice_cmp nat_cmp it.0 start) ≡ false = ap is_lt (sym (value_cmp-Text it.0 start)) ∙ ap (λ v. is_lt (value_cmp v (Text start))) (sym it.2) ∙ met.1.1.1.0 in
            subst (ShowsNearest FromStart Comes) (sym first.1.2) (
              refl,
              (
                it.0,
                ap (λ v. v ∷ []) it.2,
                (it.1, (comes_not it.0 start).0 low),
                λ other p.
                    let least : is_lt (ordering_then (value_cmp (Text other) (column first.0 4)) Equal) ≡ false = first.1.3 (term_row other p.0) p.0.1.1 (row_from other p) in
                    (comes_not other it.0).0 (ap is_lt (sym (value_cmp-Text other it.0)) ∙ ap (λ v. is_lt (value_cmp (Text other) v)) (sym it.2) ∙ ap is_lt (sym (then-Equal (value_cmp (Text other) (column first.0 4)))) ∙ least),
              ),
            )
      ]

  pub shows_greatest : (new : State) (rows : List Row) → Shown before_text params old new rows → ShowsNearest BelowStart (λ one other. Comes other one) rows
  shows_greatest new rows shown =
      let wheres = in_register (less_than 4 3) in
      let read = reads_as before_text params old new store_schema store.is (Select (alone (reading_by 7 wheres (shows (4 ∷ [])) before_keys one_row)) (codes "term" ∷ [])) (before_query db idx reg start).is (before_query db idx reg start).plain (before_query db idx reg start).unlisted rows shown in
      let answer = reads old.now 7 wheres (shows (4 ∷ [])) before_keys one_row params rows read in
      elim (first_shown (trees 7) wheres (shows (4 ∷ [])) before_keys params rows answer) [
        | inl none ↦ subst (ShowsNearest BelowStart (λ one other. Comes other one)) (sym none.0) (λ term p. none.1 (term_row term p.0) p.0.1.1 (row_below term p))
        | inr first ↦
            let met = (meets_below first.0 first.1.0).0 first.1.1 in
            let it = row_term first.0 first.1.0 met.0 met.1.0 met.1.1.0 in
            let low : is_lt (slice_cmp nat_cmp it.0 start) ≡ true = ap is_lt (sym (value_cmp-Text it.0 start)) ∙ ap (λ v. is_lt (value_cmp v (Text start))) (sym it.2) ∙ met.1.1.1.0 in
            subst (ShowsNearest BelowStart (λ one other. Comes other one)) (sym first.1.2) (
              refl,
              (
                it.0,
                ap (λ v. v ∷ []) it.2,
                (it.1, comes_is it.0 start low),
                λ other p.
                    let greatest : is_lt (ordering_then (value_cmp (column first.0 4) (Text other)) Equal) ≡ false = first.1.3 (term_row other p.0) p.0.1.1 (row_below other p) in
                    (comes_not it.0 other).0 (ap is_lt (sym (value_cmp-Text it.0 other)) ∙ ap (λ v. is_lt (value_cmp v (Text other))) (sym it.2) ∙ ap is_lt (sym (then-Equal (value_cmp (column first.0 4) (Text other)))) ∙ greatest),
              ),
            )
      ]
