-- The statements that find the own key of the leaf behind a key, each with what it is compiled to.
use Rattle.zeb_leaves.proofs.Cited.{Row, column, Trees, Int, Text, ◌≡◌, ◌++◌, ◌∷◌, ℕ, ℤ, pos, true, false, List, [], map, codes, inl, inr, refl, arith, IsUpTo, own_key, HasBlockFrom, IsRest, IsStore, State, Shown, blocks_tree, value_cmp, is_lt, first_of, first_so, leaf_places, term_order, not_lower, blocks, register_of, IsAfter, IsQuery, Condition, at_least, equals, keyed_from, one_row, rising, shows}
use Rattle.sqlite.specs.Listing.{understood}
use Rattle.sqlite_tied.specs.Compute.{everything}
use Rattle.zeb_leaves.specs.declared.statements_inside.TheConstants.{OF_TERMS_FROM, OF_TERM_FROM}
use Rattle.zeb_register.proofs.ValueKinds.{are_fit}
use Rattle.zeb_leaf_rows.specs.PrivateLeafRows.{ShowsFirst}

-- an own key is shown by these places, alone
abbrev pub key_names : List (List ℕ)
key_names = codes "term" ∷ codes "block" ∷ []

-- the row with the least own key
abbrev pub ShowsLeast : (Row → Type 0) → List Row → Type 0
ShowsLeast = ShowsFirst (λ row other. IsUpTo (own_key other) row)

-- they are the own keys of the rows that would show the least
abbrev pub ShowsLeastKey : (Row → Type 0) → List Row → Type 0
ShowsLeastKey P rows = (leaves : List Row) × (rows ≡ map own_key leaves) × ShowsLeast P leaves

-- the own key of the least is shown
least_key_shown : (old : State) → IsStore old → (db idx reg : ℤ) (rest : Row) (more : List Condition) → are_fit blocks (register_of db idx reg ++ rest) (keyed_from 1 0 3 ++ more) ≡ true
    → (text : List ℕ) → IsQuery text (register_of db idx reg ++ rest) 9 (keyed_from 1 0 3 ++ more) (shows term_order) (rising term_order) one_row key_names
    → (new : State) (rows : List Row) → Shown text (register_of db idx reg ++ rest) old new rows → ShowsLeastKey (IsAfter (old.now.trees 9) (register_of db idx reg) rest more) rows
least_key_shown old store db idx reg rest more fit text q new rows shown =
    elim (first_of old store db idx reg rest more fit term_order key_names (rising term_order) (λ row other. IsUpTo (own_key other) row) (λ r s low. not_lower (own_key (map (column s) leaf_places)) (own_key (map (column r) leaf_places)) low) text q new rows shown) [
      | inl none ↦ ([], none.0, none.1)
      | inr first ↦ (map (column first.0) leaf_places ∷ [], first.1, first.2)
    ]

-- ---- of one term

abbrev pub own_text : List ℕ
own_text = OF_TERM_FROM.now

abbrev own_more : List Condition
own_more = equals 4 3 ∷ at_least 5 4 ∷ []

abbrev own_rest : List ℕ → ℤ → Row
own_rest term first = Text term ∷ Int first ∷ []

pub own_query : (db idx reg : ℤ) (term : List ℕ) (first : ℤ) → IsQuery own_text (register_of db idx reg ++ own_rest term first) 9 (keyed_from 1 0 3 ++ own_more) (shows term_order) (rising term_order) one_row key_names
unfolding understood everything
own_query db idx reg term first = record { is = refl; plain = (refl, refl); unlisted = refl; silent = λ schema base. refl; whole = (omega arith, refl); fit = λ trees mistyped. absurd (let t : true ≡ false = mistyped in cc) }

abbrev IsOwn : ℤ → ℤ → ℤ → List ℕ → ℤ → Trees → Row → Type 0
IsOwn db idx reg term first trees row = IsRest blocks_tree (register_of db idx reg) trees row × (column row 0 ≡ Text term) × (is_lt (value_cmp (column row 1) (Int first)) ≡ false)

pub own_shown : (old : State) → IsStore old → (db idx reg : ℤ) (term : List ℕ) (first : ℤ) (new : State) (rows : List Row) → Shown own_text (register_of db idx reg ++ own_rest term first) old new rows → ShowsLeastKey (IsOwn db idx reg term first old.now.trees) rows
own_shown old store db idx reg term first new rows shown =
    let keys = least_key_shown old store db idx reg (own_rest term first) own_more refl own_text (own_query db idx reg term first) new rows shown in (
      keys.0,
      keys.1,
      first_so (λ row other. IsUpTo (own_key other) row) (IsAfter (old.now.trees 9) (register_of db idx reg) (own_rest term first) own_more) (IsOwn db idx reg term first old.now.trees) keys.0 (λ row h. ((h.0, h.1), h.2.0, h.2.1.0)) (λ row h. (h.0.0, h.0.1, (h.1, (h.2, tt)))) keys.2,
    )

-- ---- of the terms from a text on

abbrev pub from_text : List ℕ
from_text = OF_TERMS_FROM.now

abbrev from_more : List Condition
from_more = at_least 4 3 ∷ at_least 5 4 ∷ []

abbrev from_rest : List ℕ → Row
from_rest first = Text first ∷ Int (pos 0) ∷ []

pub from_query : (db idx reg : ℤ) (first : List ℕ) → IsQuery from_text (register_of db idx reg ++ from_rest first) 9 (keyed_from 1 0 3 ++ from_more) (shows term_order) (rising term_order) one_row key_names
unfolding understood everything
from_query db idx reg first = record { is = refl; plain = (refl, refl); unlisted = refl; silent = λ schema base. refl; whole = (omega arith, refl); fit = λ trees mistyped. absurd (let t : true ≡ false = mistyped in cc) }

abbrev IsFrom : ℤ → ℤ → ℤ → List ℕ → Trees → Row → Type 0
IsFrom db idx reg first trees row = IsRest blocks_tree (register_of db idx reg) trees row × (is_lt (value_cmp (column row 0) (Text first)) ≡ false) × HasBlockFrom 0 row

pub from_shown : (old : State) → IsStore old → (db idx reg : ℤ) (first : List ℕ) (new : State) (rows : List Row) → Shown from_text (register_of db idx reg ++ from_rest first) old new rows → ShowsLeastKey (IsFrom db idx reg first old.now.trees) rows
from_shown old store db idx reg first new rows shown =
    let keys = least_key_shown old store db idx reg (from_rest first) from_more refl from_text (from_query db idx reg first) new rows shown in (
      keys.0,
      keys.1,
      first_so (λ row other. IsUpTo (own_key other) row) (IsAfter (old.now.trees 9) (register_of db idx reg) (from_rest first) from_more) (IsFrom db idx reg first old.now.trees) keys.0 (λ row h. ((h.0, h.1), h.2.0, h.2.1.0)) (λ row h. (h.0.0, h.0.1, (h.1, (h.2, tt)))) keys.2,
    )
