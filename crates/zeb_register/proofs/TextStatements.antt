-- The statements on the texts that the store keeps of itself, each with what it is compiled to.
use Rattle.zeb_register.proofs.Cited.{VALUE, IsPlain, command_of, InsertOr, Row, column, Values, State, Executes, Term, lit, col, Null, Int, Text, Has, Replace, ◌≡◌, ◌∙◌, arith, sym, ap, subst, map, drop, ℕ, List, [], ◌∷◌, codes, refl, true, false, Ok, inl, inr, store_schema, meta_table, Replaces, IsListOf, IsStore, Changes, meta_tree, entry, IsEntryOf, IsValueRow}
use Rattle.zeb_register.specs.declared.meta.TheConstants.{PUT}
use Rattle.sqlite.specs.Listing.{understood}
use Rattle.sqlite.specs.State.{Shown}
use Rattle.sqlite_tied.specs.Compute.{everything}
use Rattle.zeb_register.proofs.StatementForms.{equals, shows, no_limit}
use Rattle.zeb_register.proofs.ValueKinds.{IsPlainTable, HasKeys, code}
use Rattle.zeb_register.proofs.Writes.{replaces, takes_place, codes_there}
use Rattle.zeb_register.proofs.RowLemmas.{spread, code_at, text_of}
use Rattle.zeb_register.proofs.Selects.{list_so}
use Rattle.zeb_register.proofs.PrefixSelects.{IsAfter, lists_after}
use Rattle.zeb_register.proofs.Refusals.{IsQuery}

abbrev pub set_text : List ℕ
set_text = PUT.now

abbrev set_terms : List Term
set_terms = lit Null ∷ col 0 0 ∷ col 0 1 ∷ []

set_is : command_of (understood store_schema set_text) ≡ InsertOr 0 Replace (Values set_terms 3) []
unfolding understood everything
set_is = refl

set_plain : IsPlain (understood store_schema set_text)
unfolding understood everything
set_plain = (refl, refl)

pub meta_static : IsPlainTable store_schema 0 meta_table
meta_static = record { there = refl; whole = refl; free = λ olds news. refl; uncounted = refl; unstamped = refl }

pub meta_keys : HasKeys store_schema meta_table ((1 ∷ []) ∷ [])
meta_keys = record { are = λ r new. refl; comparable = refl }

pub sets : (name value : List ℕ) (old new : State) (count : ℕ) → IsStore old → Executes set_text (entry name value) old new (Ok count) → Changes meta_tree (Replaces (IsEntryOf name) (entry name value)) old new
sets name value old new count store ran =
    let row = entry name value in
    let keys = (1 ∷ []) ∷ [] in
    takes_place store_schema 0 old new keys (IsEntryOf name) row (λ id other columns. (λ h. elim h [ inl same ↦ same.0 | inr none ↦ absurd none ], λ p. inl (p, tt)))
    (replaces store_schema 0 meta_table meta_static set_text row set_terms 3 row keys set_is set_plain refl refl (λ id. refl) meta_keys old new count store ran).0

abbrev pub value_text : List ℕ
value_text = VALUE.now

pub value_query : (name : List ℕ) → IsQuery value_text (Text name ∷ []) 0 (equals 1 0 ∷ []) (shows (2 ∷ [])) [] no_limit (codes "value" ∷ [])
unfolding understood everything
value_query name = record { is = refl; plain = (refl, refl); unlisted = refl; silent = λ schema base. refl; whole = (omega arith, refl); fit = λ trees mistyped. absurd (let t : true ≡ false = mistyped in cc) }

pub lists_value : (name : List ℕ) (old new : State) (rows : List Row) → IsStore old → Shown value_text (Text name ∷ []) old new rows → IsListOf (IsValueRow old.now.trees name) rows
lists_value name old new rows store shown =
    let trees = old.now.trees in
    let P = IsAfter (trees 0) (Text name ∷ []) [] [] in
    let got = lists_after store_schema 0 meta_table meta_static _ meta_keys value_text (Text name ∷ []) [] [] 1 [] no_limit (codes "value" ∷ []) (value_query name).is (value_query name).plain (value_query name).unlisted refl refl refl refl (λ r s lower. absurd cc)
    old new rows store shown in
    list_so P (IsValueRow trees name) rows (λ x. (
      λ h.
          let typed : map code x ≡ 3 ∷ [] = ap (drop 2) (codes_there store_schema 0 meta_table meta_static old (Int h.0 ∷ Text name ∷ x) store h.1) in
          let value = text_of (column x 0) (code_at x (3 ∷ []) 0 typed) in
          let is : x ≡ Text value.0 ∷ [] = spread x (3 ∷ []) typed ∙ ap (λ v. v ∷ []) value.1 in
          (value.0, is, (h.0, subst (λ y. Has (trees 0) (Int h.0 ∷ Text name ∷ y)) is h.1)),
      λ h. (h.2.0, subst (λ y. Has (trees 0) (Int h.2.0 ∷ Text name ∷ y)) (sym h.1) h.2.1, tt),
    )) (subst (IsListOf P) (sym got.2) got.1)
