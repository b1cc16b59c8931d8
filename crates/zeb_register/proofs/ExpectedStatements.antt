-- The statements that list whole tables, or all rows of a database, each with what it is compiled to.
use Rattle.zeb_register.proofs.Cited.{Row, column, value_cmp, State, Int, Has, ◌≡◌, ◌∙◌, ℕ, ℤ, false, List, [], ◌∷◌, map, codes, refl, ap₂, true, arith, Ordering, Less, Equal, Greater, ordering_then, Table, ALL_TEXTS, Postings, Blocks, Dict, rests_text, HasRow, IsListOf, IsStore, IsRest, blocks_tree, dict_tree, meta_tree, postings_tree, store_schema, meta_table}
use Rattle.sqlite.specs.Listing.{understood}
use Rattle.sqlite.specs.State.{Shown}
use Rattle.sqlite_tied.specs.Compute.{everything}
use Rattle.zeb_register.proofs.PrefixSelects.{first_lower, lists_rest}
use Rattle.zeb_register.proofs.PostingStatements.{blocks, blocks_static, dict, dict_static, postings, postings_keys, postings_static, blocks_keys, dict_keys}
use Rattle.zeb_register.proofs.Refusals.{IsQuery}
use Rattle.zeb_register.proofs.RowLemmas.{int_of}
use Rattle.zeb_register.proofs.StatementForms.{keyed_from, no_limit, rising, shows}
use Rattle.zeb_register.proofs.TextStatements.{meta_keys, meta_static}
use Rattle.zeb_register.proofs.ValueKinds.{IsPlainTable, code, codes_of}
use Rattle.zeb_register.proofs.Writes.{codes_there}

-- ---- all texts

abbrev pub texts_text : List ℕ
texts_text = ALL_TEXTS.now

abbrev texts_names : List (List ℕ)
texts_names = codes "name" ∷ codes "value" ∷ []

pub texts_query : IsQuery texts_text [] 0 [] (shows (1 ∷ 2 ∷ [])) (rising (1 ∷ [])) no_limit texts_names
unfolding understood everything
texts_query = record { is = refl; plain = (refl, refl); unlisted = refl; silent = λ schema base. refl; whole = (omega arith, refl); fit = λ trees mistyped. absurd (let t : true ≡ false = mistyped in cc) }

pub lists_texts : (old new : State) (rows : List Row) → IsStore old → Shown texts_text [] old new rows → IsListOf (HasRow old.now.trees meta_tree) rows
lists_texts = lists_rest 0 meta_table meta_static _ meta_keys texts_text [] 2 (1 ∷ []) texts_names texts_query refl refl refl refl (λ r s lower. first_lower _ _ lower)

-- ---- all postings of a database

abbrev pub postings_text : List ℕ
postings_text = rests_text Postings

abbrev pub posting_columns : List ℕ
posting_columns = 2 ∷ 3 ∷ 4 ∷ 5 ∷ 6 ∷ 7 ∷ []

abbrev pub posting_names : List (List ℕ)
posting_names = codes "idx" ∷ codes "reg" ∷ codes "term" ∷ codes "sysno" ∷ codes "seq" ∷ codes "pos" ∷ []

pub postings_query : (db : ℤ) → IsQuery postings_text (Int db ∷ []) 7 (keyed_from 1 0 1) (shows posting_columns) (rising posting_columns) no_limit posting_names
unfolding understood everything
postings_query db = record { is = refl; plain = (refl, refl); unlisted = refl; silent = λ schema base. refl; whole = (omega arith, refl); fit = λ trees mistyped. absurd (let t : true ≡ false = mistyped in cc) }

pub lists_postings : (db : ℤ) (old new : State) (rows : List Row) → IsStore old → Shown postings_text (Int db ∷ []) old new rows → IsListOf (IsRest postings_tree (Int db ∷ []) old.now.trees) rows
lists_postings db = lists_rest 3 postings postings_static _ postings_keys postings_text (Int db ∷ []) 6 posting_columns posting_names (postings_query db) refl refl refl refl (λ r s lower. lower)

-- ---- all blocks of a database, and all its keys

abbrev pub blocks_text : List ℕ
blocks_text = rests_text Blocks

abbrev pub block_columns : List ℕ
block_columns = 2 ∷ 3 ∷ 4 ∷ 5 ∷ 6 ∷ []

abbrev pub block_names : List (List ℕ)
block_names = codes "idx" ∷ codes "reg" ∷ codes "term" ∷ codes "block" ∷ codes "data" ∷ []

pub blocks_query : (db : ℤ) → IsQuery blocks_text (Int db ∷ []) 9 (keyed_from 1 0 1) (shows block_columns) (rising (2 ∷ 3 ∷ 4 ∷ 5 ∷ [])) no_limit block_names
unfolding understood everything
blocks_query db = record { is = refl; plain = (refl, refl); unlisted = refl; silent = λ schema base. refl; whole = (omega arith, refl); fit = λ trees mistyped. absurd (let t : true ≡ false = mistyped in cc) }

-- what ends an order may be followed by more
then_less : (o p q : Ordering) → (p ≡ Less → q ≡ Less) → ordering_then o p ≡ Less → ordering_then o q ≡ Less
then_less Less p q so h = refl
then_less Equal p q so h = so h
then_less Greater p q so h = absurd (let e : Greater ≡ Less = h in cc)

pub lists_blocks : (db : ℤ) (old new : State) (rows : List Row) → IsStore old → Shown blocks_text (Int db ∷ []) old new rows → IsListOf (IsRest blocks_tree (Int db ∷ []) old.now.trees) rows
lists_blocks db = lists_rest 4 blocks blocks_static _ blocks_keys blocks_text (Int db ∷ []) 5 (2 ∷ 3 ∷ 4 ∷ 5 ∷ []) block_names (blocks_query db) refl refl refl refl
    (λ r s lower. then_less (value_cmp (column r 2) (column s 2)) _ _ (then_less (value_cmp (column r 3) (column s 3)) _ _ (then_less (value_cmp (column r 4) (column s 4)) _ _ (first_lower (value_cmp (column r 5) (column s 5)) _))) lower)

abbrev pub keys_text : List ℕ
keys_text = rests_text Dict

abbrev pub key_columns : List ℕ
key_columns = 2 ∷ 3 ∷ 4 ∷ 5 ∷ []

abbrev pub key_names : List (List ℕ)
key_names = codes "idx" ∷ codes "reg" ∷ codes "term" ∷ codes "records" ∷ []

pub keys_query : (db : ℤ) → IsQuery keys_text (Int db ∷ []) 11 (keyed_from 1 0 1) (shows key_columns) (rising (2 ∷ 3 ∷ 4 ∷ [])) no_limit key_names
unfolding understood everything
keys_query db = record { is = refl; plain = (refl, refl); unlisted = refl; silent = λ schema base. refl; whole = (omega arith, refl); fit = λ trees mistyped. absurd (let t : true ≡ false = mistyped in cc) }

pub lists_keys : (db : ℤ) (old new : State) (rows : List Row) → IsStore old → Shown keys_text (Int db ∷ []) old new rows → IsListOf (IsRest dict_tree (Int db ∷ []) old.now.trees) rows
lists_keys db = lists_rest 5 dict dict_static _ dict_keys keys_text (Int db ∷ []) 4 (2 ∷ 3 ∷ 4 ∷ []) key_names (keys_query db) refl refl refl refl
    (λ r s lower. then_less (value_cmp (column r 2) (column s 2)) _ _ (then_less (value_cmp (column r 3) (column s 3)) _ _ (first_lower (value_cmp (column r 4) (column s 4)) _)) lower)

-- ---- whose each row is

-- a row that begins with two integers
pub two_first : (r : Row) (codes : List ℕ) → map code r ≡ 1 ∷ 1 ∷ codes → (i : ℤ) × (id : ℤ) × (rest : Row) × (r ≡ Int i ∷ Int id ∷ rest)
two_first [] codes typed = absurd (cc)
two_first (v ∷ []) codes typed = absurd (let e : [] ≡ 1 ∷ codes = cc in cc)
two_first (v ∷ w ∷ rest) codes typed =
    let one = int_of v (let e : code v ≡ 1 = cc in e) in
    let two = int_of w (let e : code w ≡ 1 = cc in e) in
    (one.0, two.0, rest, ap₂ (λ a b. a ∷ b ∷ rest) one.1 two.1)

module _ (at : ℕ) (table : Table) (static : IsPlainTable store_schema at table) (more : List ℕ) (codes_are : codes_of table ≡ 1 ∷ 1 ∷ more) where
  -- a row of the table begins with the id of a database
  pub owner_row : (s : State) (r : Row) → IsStore s → Has (s.now.trees table.tree) r → (i : ℤ) × (id : ℤ) × (rest : Row) × (r ≡ Int i ∷ Int id ∷ rest)
  owner_row s r store here = two_first r more (codes_there store_schema at table static s r store here ∙ codes_are)

-- ---- why they are refused
