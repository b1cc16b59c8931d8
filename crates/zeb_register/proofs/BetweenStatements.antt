-- The statements that list rows of the terms from one text to another, each with what it is compiled to.
use Rattle.zeb_register.proofs.Cited.{Row, State, Text, ◌≡◌, ℕ, ℤ, true, false, arith, List, [], ◌∷◌, ◌++◌, codes, refl, sym, subst, BETWEEN, IsRestBetween, IsListOf, IsStore, key_of, postings_tree, store_schema}
use Rattle.sqlite.specs.Listing.{understood}
use Rattle.sqlite.specs.State.{Shown}
use Rattle.sqlite_tied.specs.Compute.{everything}
use Rattle.zeb_register.proofs.PostingStatements.{register_of, postings, postings_keys, postings_static}
use Rattle.zeb_register.proofs.PrefixSelects.{IsAfter, lists_after}
use Rattle.zeb_register.proofs.Refusals.{IsQuery}
use Rattle.zeb_register.proofs.Selects.{list_so}
use Rattle.zeb_register.proofs.StatementForms.{Condition, at_least, keyed_from, less_than, no_limit, rising, shows}

abbrev pub between : ℤ → ℤ → ℤ → (first end : List ℕ) → Row
between db idx reg first end = key_of db idx reg first ++ Text end ∷ []

abbrev pub more : List Condition
more = at_least 4 3 ∷ less_than 4 4 ∷ []

-- ---- postings

abbrev pub postings_text : List ℕ
postings_text = BETWEEN.now

abbrev postings_shown : List ℕ
postings_shown = 4 ∷ 5 ∷ 6 ∷ 7 ∷ []

abbrev postings_names : List (List ℕ)
postings_names = codes "term" ∷ codes "sysno" ∷ codes "seq" ∷ codes "pos" ∷ []

pub postings_query : (db idx reg : ℤ) (first end : List ℕ) → IsQuery postings_text (between db idx reg first end) 7 (keyed_from 1 0 3 ++ more) (shows postings_shown) (rising postings_shown) no_limit postings_names
unfolding understood everything
postings_query db idx reg first end = record { is = refl; plain = (refl, refl); unlisted = refl; silent = λ schema base. refl; whole = (omega arith, refl); fit = λ trees mistyped. absurd (let t : true ≡ false = mistyped in cc) }

pub lists_postings : (db idx reg : ℤ) (first end : List ℕ) (old new : State) (rows : List Row) → IsStore old → Shown postings_text (between db idx reg first end) old new rows
    → IsListOf (IsRestBetween postings_tree (register_of db idx reg) first end old.now.trees) rows
lists_postings db idx reg first end old new rows store shown =
    let key = register_of db idx reg in
    let rest = Text first ∷ Text end ∷ [] in
    let P = IsAfter (old.now.trees 7) key rest more in
    let got = lists_after store_schema 3 postings postings_static _ postings_keys postings_text key rest more 4 postings_shown no_limit postings_names (postings_query db idx reg first end).is (postings_query db idx reg first end).plain (postings_query db idx reg first end).unlisted refl refl refl refl (λ r s lower. lower) old new rows store shown in
    list_so P (IsRestBetween 7 key first end old.now.trees) rows (λ x. (λ h. ((h.0, h.1), h.2.0, h.2.1.0), λ h. (h.0.0, h.0.1, (h.1, (h.2, tt))))) (subst (IsListOf P) (sym got.2) got.1)
