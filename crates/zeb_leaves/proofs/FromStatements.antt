-- The statement that lists the leaves from a text on, with what it is compiled to.
use Rattle.zeb_leaves.proofs.Cited.{Row, column, Trees, Int, Text, ◌≡◌, ◌++◌, ◌∷◌, ℕ, ℤ, pos, true, false, List, [], refl, sym, subst, arith, HasBlockFrom, IsRest, IsStore, State, Shown, blocks_tree, store_schema, value_cmp, is_lt, leaf_names, leaf_places, term_order, two_lower, blocks, blocks_keys, blocks_static, register_of, IsAfter, lists_after, IsQuery, list_so, Condition, at_least, keyed_from, no_limit, rising, shows, IsListOf}
use Rattle.sqlite.specs.Listing.{understood}
use Rattle.sqlite_tied.specs.Compute.{everything}
use Rattle.zeb_leaves.specs.declared.rows_from.TheConstants.{FROM}

abbrev pub from_text : List ℕ
from_text = FROM.now

abbrev pub from_more : List Condition
from_more = at_least 4 3 ∷ at_least 5 4 ∷ []

abbrev from_rest : (first : List ℕ) → Row
from_rest first = Text first ∷ Int (pos 0) ∷ []

pub from_query : (db idx reg : ℤ) (first : List ℕ)
    → IsQuery from_text (register_of db idx reg ++ from_rest first) 9 (keyed_from 1 0 3 ++ from_more) (shows leaf_places) (rising term_order) no_limit leaf_names
unfolding understood everything
from_query db idx reg first = record { is = refl; plain = (refl, refl); unlisted = refl; silent = λ schema base. refl; whole = (omega arith, refl); fit = λ trees mistyped. absurd (let t : true ≡ false = mistyped in cc) }

abbrev pub IsFromRow : ℤ → ℤ → ℤ → (first : List ℕ) → Trees → Row → Type 0
IsFromRow db idx reg first trees row = IsRest blocks_tree (register_of db idx reg) trees row × (is_lt (value_cmp (column row 0) (Text first)) ≡ false) × HasBlockFrom 0 row

pub from_listed : (db idx reg : ℤ) (first : List ℕ) (old new : State) (rows : List Row) → IsStore old → Shown from_text (register_of db idx reg ++ from_rest first) old new rows
    → IsListOf (IsFromRow db idx reg first old.now.trees) rows
from_listed db idx reg first old new rows store shown =
    let front = register_of db idx reg in
    let P = IsAfter (old.now.trees 9) front (from_rest first) from_more in
    let q = from_query db idx reg first in
    let got = lists_after store_schema 4 blocks blocks_static _ blocks_keys from_text front (from_rest first) from_more 3 term_order no_limit leaf_names q.is q.plain q.unlisted refl refl refl refl
    (λ r s lower. two_lower (value_cmp (column r 4) (column s 4)) (value_cmp (column r 5) (column s 5)) _ lower) old new rows store shown in
    list_so P (IsFromRow db idx reg first old.now.trees) rows (λ x. (λ h. ((h.0, h.1), h.2.0, h.2.1.0), λ h. (h.0.0, h.0.1, (h.1, (h.2, tt))))) (subst (IsListOf P) (sym got.2) got.1)
