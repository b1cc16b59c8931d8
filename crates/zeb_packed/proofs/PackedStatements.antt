-- The statements that list rows of the packed tables, each with what it is compiled to.
use Rattle.zeb_packed.proofs.Cited.{◌≡◌, ℕ, ℤ, true, false, arith, List, [], ◌∷◌, ◌++◌, codes, refl, sym, ap, subst, Ordering, Less, ordering_then, Int, Text, Row, column, State, Shown, Select, col, reads_listing, IsPlain, command_of, IsRestBefore, IsRestFrom, IsFallingListOf, IsListOf, IsStore, IsRest, blocks_tree, dict_tree, key_of, store_schema, IsSilent, alone_first, IsAfter, lists_after, blocks, blocks_static, dict, dict_static, blocks_keys, dict_keys, register_of, IsFit, IsReasonedQuery, IsWhole, why_refused, list_so, Condition, alone, at_least, keyed_from, less_than, no_limit, reading, reading_by, rising, shows, value_cmp}
use Rattle.sqlite.specs.Query.{limited, as_count}
use Rattle.sqlite.specs.Listing.{understood}
use Rattle.sqlite_tied.specs.Compute.{everything}
use Rattle.zeb_packed.proofs.Falling.{falling, falls_after}
use Rattle.zeb_packed.specs.declared.statements.packed.TheConstants.{TERMS_FROM}

then_less : (o p : Ordering) → o ≡ Less → ordering_then o p ≡ Less
then_less o p is = ap (λ q. ordering_then q p) is

-- ---- the blocks of a key

abbrev pub key_text : List ℕ
key_text = codes "SELECT block, data FROM blocks WHERE db = ?1 AND idx = ?2 AND reg = ?3 AND term = ?4 ORDER BY block"

abbrev key_columns : List ℕ
key_columns = 5 ∷ 6 ∷ []

abbrev key_names : List (List ℕ)
key_names = codes "block" ∷ codes "data" ∷ []

key_is : command_of (understood store_schema key_text) ≡ Select (alone (reading 9 (keyed_from 1 0 4) (shows key_columns) (5 ∷ []) no_limit)) key_names
unfolding understood everything
key_is = refl

key_plain : IsPlain (understood store_schema key_text) × (reads_listing store_schema key_text ≡ false)
unfolding understood everything
key_plain = ((refl, refl), refl)

pub key_silent : IsSilent key_text
unfolding everything
key_silent = λ schema base. refl

blocks_whole : IsWhole key_text 4 (understood store_schema key_text)
unfolding understood everything
blocks_whole = (omega arith, refl)

blocks_fit : (db idx reg : ℤ) (term : List ℕ) → IsFit (alone (reading 9 (keyed_from 1 0 4) (shows key_columns) (5 ∷ []) no_limit)) (key_of db idx reg term)
unfolding everything
blocks_fit db idx reg term trees mistyped = absurd (let t : true ≡ false = mistyped in cc)

pub blocks_refused : (db idx reg : ℤ) (term : List ℕ) → IsReasonedQuery key_text (key_of db idx reg term)
blocks_refused db idx reg term old new e store told failed =
    why_refused key_text (key_of db idx reg term) 9 (keyed_from 1 0 4) (shows key_columns) (rising (5 ∷ [])) no_limit key_names key_is key_plain.0 key_plain.1 blocks_whole (blocks_fit db idx reg term) old new store e told failed

pub lists_blocks : (db idx reg : ℤ) (term : List ℕ) (old new : State) (rows : List Row) → IsStore old → Shown key_text (key_of db idx reg term) old new rows
    → IsListOf (IsRest blocks_tree (key_of db idx reg term) old.now.trees) rows
lists_blocks db idx reg term old new rows store shown =
    let key = key_of db idx reg term in
    let P = IsAfter (old.now.trees 9) key [] [] in
    let got = lists_after store_schema 4 blocks blocks_static _ blocks_keys key_text key [] [] 2 (5 ∷ []) no_limit key_names key_is key_plain.0 key_plain.1 refl refl refl refl
    (λ r s lower. then_less (value_cmp (column r 5) (column s 5)) _ (alone_first (value_cmp (column r 5) (column s 5)) lower)) old new rows store shown in
    list_so P (IsRest 9 key old.now.trees) rows (λ x. (λ h. (h.0, h.1), λ h. (h.0, h.1, tt))) (subst (IsListOf P) (sym got.2) got.1)

-- ---- the terms of a register

abbrev dict_columns : List ℕ
dict_columns = 4 ∷ 5 ∷ []

abbrev dict_names : List (List ℕ)
dict_names = codes "term" ∷ codes "records" ∷ []

abbrev pub terms_text : List ℕ
terms_text = codes "SELECT term, records FROM dict WHERE db = ?1 AND idx = ?2 AND reg = ?3 ORDER BY term"

terms_is : command_of (understood store_schema terms_text) ≡ Select (alone (reading 11 (keyed_from 1 0 3) (shows dict_columns) (4 ∷ []) no_limit)) dict_names
unfolding understood everything
terms_is = refl

terms_plain : IsPlain (understood store_schema terms_text) × (reads_listing store_schema terms_text ≡ false)
unfolding understood everything
terms_plain = ((refl, refl), refl)

pub terms_silent : IsSilent terms_text
unfolding everything
terms_silent = λ schema base. refl

terms_whole : IsWhole terms_text 3 (understood store_schema terms_text)
unfolding understood everything
terms_whole = (omega arith, refl)

terms_fit : (db idx reg : ℤ) → IsFit (alone (reading 11 (keyed_from 1 0 3) (shows dict_columns) (4 ∷ []) no_limit)) (register_of db idx reg)
unfolding everything
terms_fit db idx reg trees mistyped = absurd (let t : true ≡ false = mistyped in cc)

pub terms_refused : (db idx reg : ℤ) → IsReasonedQuery terms_text (register_of db idx reg)
terms_refused db idx reg old new e store told failed =
    why_refused terms_text (register_of db idx reg) 11 (keyed_from 1 0 3) (shows dict_columns) (rising (4 ∷ [])) no_limit dict_names terms_is terms_plain.0 terms_plain.1 terms_whole (terms_fit db idx reg) old new store e told failed

pub lists_terms : (db idx reg : ℤ) (old new : State) (rows : List Row) → IsStore old → Shown terms_text (register_of db idx reg) old new rows
    → IsListOf (IsRest dict_tree (register_of db idx reg) old.now.trees) rows
lists_terms db idx reg old new rows store shown =
    let key = register_of db idx reg in
    let P = IsAfter (old.now.trees 11) key [] [] in
    let got = lists_after store_schema 5 dict dict_static _ dict_keys terms_text key [] [] 2 (4 ∷ []) no_limit dict_names terms_is terms_plain.0 terms_plain.1 refl refl refl refl
    (λ r s lower. then_less (value_cmp (column r 4) (column s 4)) _ (alone_first (value_cmp (column r 4) (column s 4)) lower)) old new rows store shown in
    list_so P (IsRest 11 key old.now.trees) rows (λ x. (λ h. (h.0, h.1), λ h. (h.0, h.1, tt))) (subst (IsListOf P) (sym got.2) got.1)

-- ---- those next to a text

abbrev pub from_text : List ℕ
from_text = TERMS_FROM.now

abbrev from_more : List Condition
from_more = at_least 4 3 ∷ []

from_is : command_of (understood store_schema from_text) ≡ Select (alone (reading 11 (keyed_from 1 0 3 ++ from_more) (shows dict_columns) (4 ∷ []) (col 0 4))) dict_names
unfolding understood everything
from_is = refl

from_plain : IsPlain (understood store_schema from_text) × (reads_listing store_schema from_text ≡ false)
unfolding understood everything
from_plain = ((refl, refl), refl)

pub from_silent : IsSilent from_text
unfolding everything
from_silent = λ schema base. refl

abbrev pub near : ℤ → ℤ → ℤ → List ℕ → ℤ → Row
near db idx reg start limit = Int db ∷ Int idx ∷ Int reg ∷ Text start ∷ Int limit ∷ []

from_whole : IsWhole from_text 5 (understood store_schema from_text)
unfolding understood everything
from_whole = (omega arith, refl)

from_fit : (db idx reg : ℤ) (start : List ℕ) (limit : ℤ) → IsFit (alone (reading 11 (keyed_from 1 0 3 ++ from_more) (shows dict_columns) (4 ∷ []) (col 0 4))) (near db idx reg start limit)
unfolding everything
from_fit db idx reg start limit trees mistyped = absurd (let t : true ≡ false = mistyped in cc)

pub from_refused : (db idx reg : ℤ) (start : List ℕ) (limit : ℤ) → IsReasonedQuery from_text (near db idx reg start limit)
from_refused db idx reg start limit old new e store told failed =
    why_refused from_text (near db idx reg start limit) 11 (keyed_from 1 0 3 ++ from_more) (shows dict_columns) (rising (4 ∷ [])) (col 0 4) dict_names from_is from_plain.0 from_plain.1 from_whole (from_fit db idx reg start limit) old new store e told failed

pub lists_from : (db idx reg : ℤ) (start : List ℕ) (limit : ℤ) (old new : State) (rows : List Row) → IsStore old → Shown from_text (near db idx reg start limit) old new rows
    → (all : List Row) × IsListOf (IsRestFrom dict_tree (register_of db idx reg) start old.now.trees) all × (rows ≡ limited (as_count (Int limit)) all)
lists_from db idx reg start limit old new rows store shown =
    let key = register_of db idx reg in
    let rest = Text start ∷ Int limit ∷ [] in
    let P = IsAfter (old.now.trees 11) key rest from_more in
    let got = lists_after store_schema 5 dict dict_static _ dict_keys from_text key rest from_more 2 (4 ∷ []) (col 0 4) dict_names from_is from_plain.0 from_plain.1 refl refl refl refl
    (λ r s lower. then_less (value_cmp (column r 4) (column s 4)) _ (alone_first (value_cmp (column r 4) (column s 4)) lower)) old new rows store shown in
    (got.0, list_so P (IsRestFrom 11 key start old.now.trees) got.0 (λ x. (λ h. ((h.0, h.1), h.2.0), λ h. (h.0.0, h.0.1, (h.1, tt)))) got.1, got.2)

abbrev pub before_text : List ℕ
before_text = codes "SELECT term, records FROM dict WHERE db = ?1 AND idx = ?2 AND reg = ?3 AND term < ?4 ORDER BY term DESC LIMIT ?5"

abbrev before_more : List Condition
before_more = less_than 4 3 ∷ []

before_is : command_of (understood store_schema before_text) ≡ Select (alone (reading_by 11 (keyed_from 1 0 3 ++ before_more) (shows dict_columns) (falling 4) (col 0 4))) dict_names
unfolding understood everything
before_is = refl

before_plain : IsPlain (understood store_schema before_text) × (reads_listing store_schema before_text ≡ false)
unfolding understood everything
before_plain = ((refl, refl), refl)

pub before_silent : IsSilent before_text
unfolding everything
before_silent = λ schema base. refl

before_whole : IsWhole before_text 5 (understood store_schema before_text)
unfolding understood everything
before_whole = (omega arith, refl)

before_fit : (db idx reg : ℤ) (start : List ℕ) (limit : ℤ) → IsFit (alone (reading_by 11 (keyed_from 1 0 3 ++ before_more) (shows dict_columns) (falling 4) (col 0 4))) (near db idx reg start limit)
unfolding everything
before_fit db idx reg start limit trees mistyped = absurd (let t : true ≡ false = mistyped in cc)

pub before_refused : (db idx reg : ℤ) (start : List ℕ) (limit : ℤ) → IsReasonedQuery before_text (near db idx reg start limit)
before_refused db idx reg start limit old new e store told failed =
    why_refused before_text (near db idx reg start limit) 11 (keyed_from 1 0 3 ++ before_more) (shows dict_columns) (falling 4) (col 0 4) dict_names before_is before_plain.0 before_plain.1 before_whole (before_fit db idx reg start limit) old new store e told failed

pub lists_before : (db idx reg : ℤ) (start : List ℕ) (limit : ℤ) (old new : State) (rows : List Row) → IsStore old → Shown before_text (near db idx reg start limit) old new rows
    → (all : List Row) × IsFallingListOf (IsRestBefore dict_tree (register_of db idx reg) start old.now.trees) all × (rows ≡ limited (as_count (Int limit)) all)
lists_before db idx reg start limit old new rows store shown =
    let key = register_of db idx reg in
    let rest = Text start ∷ Int limit ∷ [] in
    let got = falls_after store_schema 5 dict dict_static _ dict_keys before_text key rest before_more 2 4 (col 0 4) dict_names before_is before_plain.0 before_plain.1 refl refl refl refl
    (λ r s lower. then_less (value_cmp (column r 4) (column s 4)) _ lower) old new rows store shown in
    (got.0, record { each = λ x. (λ h. let p = (got.1.each x).0 h in ((p.0, p.1), p.2.0), λ h. (got.1.each x).1 (h.0.0, h.0.1, (h.1, tt))); falling = got.1.falling }, got.2)
