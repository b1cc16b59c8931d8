-- The statements on records, each with what it is compiled to.
use Rattle.zeb_register.proofs.Cited.{BY_IDENT, IDENT, ALL, IsPlain, command_of, Delete, InsertOr, Row, column, Values, State, Executes, Term, lit, col, Null, Int, Text, Blob, Has, Replace, ◌≡◌, ◌∙◌, arith, sym, ap, ap₂, subst, map, drop, ℕ, List, [], ◌∷◌, codes, refl, true, false, ℤ, Ok, inl, inr, store_schema, records_table, Loses, Replaces, HasRow, IsListOf, Table, IsStore, Changes, records_tree, record_row, HasNumber, SharesRecord, IsRest, IsElderRow, IsIdentRow}
use Rattle.zeb_register.specs.declared.kept.TheConstants.{PUT, TAKE}
use Rattle.sqlite.specs.Listing.{understood}
use Rattle.sqlite.specs.State.{Shown}
use Rattle.sqlite_tied.specs.Compute.{everything}
use Rattle.zeb_register.proofs.StatementForms.{Condition, equals, reading, alone, keyed_from, rising, shows, no_limit}
use Rattle.zeb_register.proofs.ValueKinds.{codes_of, IsPlainTable, HasKeys, code}
use Rattle.zeb_register.proofs.Writes.{deletes, replaces, loses, takes_place, codes_there}
use Rattle.zeb_register.proofs.RowLemmas.{spread, code_at, int_of, text_of, blob_of}
use Rattle.zeb_register.proofs.Selects.{IsSelected, selects, list_so}
use Rattle.zeb_register.proofs.PrefixSelects.{first_lower, lists_rest}
use Rattle.zeb_register.proofs.Refusals.{IsQuery}

abbrev pub records : Table
records = record records_table { tree = 4 }

pub records_static : IsPlainTable store_schema 2 records
records_static = record { there = refl; whole = refl; free = λ olds news. refl; uncounted = refl; unstamped = refl }

pub records_keys : HasKeys store_schema records ((1 ∷ 2 ∷ []) ∷ (1 ∷ 3 ∷ []) ∷ [])
records_keys = record { are = λ r new. refl; comparable = refl }

-- a row of the table, whose columns are known
pub row_of : (r : Row) → map code r ≡ codes_of records → (id : ℤ) × (db : ℤ) × (sysno : ℤ) × (ident : List ℕ) × (bytes : List ℕ) × (r ≡ Int id ∷ record_row db sysno ident bytes)
row_of r typed =
    let id = int_of (column r 0) (code_at r (codes_of records) 0 typed) in
    let db = int_of (column r 1) (code_at r (codes_of records) 1 typed) in
    let sysno = int_of (column r 2) (code_at r (codes_of records) 2 typed) in
    let ident = text_of (column r 3) (code_at r (codes_of records) 3 typed) in
    let bytes = blob_of (column r 4) (code_at r (codes_of records) 4 typed) in
    let all : r ≡ column r 0 ∷ column r 1 ∷ column r 2 ∷ column r 3 ∷ column r 4 ∷ [] = spread r (codes_of records) typed in
    (id.0, db.0, sysno.0, ident.0, bytes.0, all ∙ ap₂ (λ a b. a ∷ b ∷ column r 2 ∷ column r 3 ∷ column r 4 ∷ []) id.1 db.1 ∙ ap₂ (λ c d. Int id.0 ∷ Int db.0 ∷ c ∷ d ∷ column r 4 ∷ []) sysno.1 ident.1 ∙ ap (λ e. Int id.0 ∷ Int db.0 ∷ Int sysno.0 ∷ Text ident.0 ∷ e ∷ []) bytes.1)

-- ---- INSERT OR REPLACE

abbrev pub keep_text : List ℕ
keep_text = PUT.now

abbrev keep_terms : List Term
keep_terms = lit Null ∷ col 0 0 ∷ col 0 1 ∷ col 0 2 ∷ col 0 3 ∷ []

keep_is : command_of (understood store_schema keep_text) ≡ InsertOr 2 Replace (Values keep_terms 5) []
unfolding understood everything
keep_is = refl

keep_plain : IsPlain (understood store_schema keep_text)
unfolding understood everything
keep_plain = (refl, refl)

pub keeps_record : (db sysno : ℤ) (ident bytes : List ℕ) (old new : State) (count : ℕ) → IsStore old → Executes keep_text (record_row db sysno ident bytes) old new (Ok count)
    → Changes records_tree (Replaces (SharesRecord db sysno ident) (record_row db sysno ident bytes)) old new
keeps_record db sysno ident bytes old new count store ran =
    let row = record_row db sysno ident bytes in
    let keys = (1 ∷ 2 ∷ []) ∷ (1 ∷ 3 ∷ []) ∷ [] in
    takes_place store_schema 4 old new keys (SharesRecord db sysno ident) row (λ id other columns. (
      λ h. elim h [ inl m ↦ inl (m.0, m.1.0) | inr more ↦ elim more [ inl m ↦ inr (m.0, m.1.0) | inr none ↦ absurd none ] ],
      λ p. elim p [ inl m ↦ inl (m.0, (m.1, tt)) | inr m ↦ inr (inl (m.0, (m.1, tt))) ],
    )) (replaces store_schema 2 records records_static keep_text row keep_terms 5 row keys keep_is keep_plain refl refl (λ id. refl) records_keys old new count store ran).0

-- ---- DELETE

abbrev pub remove_text : List ℕ
remove_text = TAKE.now

abbrev number_wheres : List Condition
number_wheres = equals 1 0 ∷ equals 2 1 ∷ []

remove_is : command_of (understood store_schema remove_text) ≡ Delete 2 (alone (reading 4 number_wheres (shows (0 ∷ [])) [] no_limit))
unfolding understood everything
remove_is = refl

remove_plain : IsPlain (understood store_schema remove_text)
unfolding understood everything
remove_plain = (refl, refl)

pub removes : (db sysno : ℤ) (old new : State) (count : ℕ) → IsStore old → Executes remove_text (Int db ∷ Int sysno ∷ []) old new (Ok count) → Changes records_tree (Loses (HasNumber db sysno)) old new
removes db sysno old new count store ran =
    loses store_schema 4 old new (Int db ∷ Int sysno ∷ []) number_wheres (HasNumber db sysno) (λ id columns. (λ m. (m.0, m.1.0), λ p. (p.0, (p.1, tt))))
    (deletes store_schema 2 records records_static remove_text (Int db ∷ Int sysno ∷ []) number_wheres remove_is remove_plain refl old new count store ran)

-- ---- SELECT

abbrev pub elder_text : List ℕ
elder_text = BY_IDENT.now

abbrev elder_wheres : List Condition
elder_wheres = equals 1 0 ∷ equals 3 1 ∷ []

abbrev elder_shows : List ℕ
elder_shows = 2 ∷ 4 ∷ []

pub elder_query : (db : ℤ) (ident : List ℕ) → IsQuery elder_text (Int db ∷ Text ident ∷ []) 4 elder_wheres (shows elder_shows) [] no_limit (codes "sysno" ∷ codes "bytes" ∷ [])
unfolding understood everything
elder_query db ident = record { is = refl; plain = (refl, refl); unlisted = refl; silent = λ schema base. refl; whole = (omega arith, refl); fit = λ trees mistyped. absurd (let t : true ≡ false = mistyped in cc) }

pub lists_elder : (db : ℤ) (ident : List ℕ) (old new : State) (rows : List Row) → IsStore old → Shown elder_text (Int db ∷ Text ident ∷ []) old new rows → IsListOf (IsElderRow db ident old.now.trees) rows
lists_elder db ident old new rows store shown =
    let all = old.now.trees 4 in
    let params = Int db ∷ Text ident ∷ [] in
    let P = IsSelected all elder_wheres params elder_shows in
    let got = selects store_schema 2 records records_static _ records_keys elder_text params elder_wheres elder_shows [] no_limit _ (elder_query db ident).is (elder_query db ident).plain (elder_query db ident).unlisted refl refl refl (λ r s lower. absurd cc) old new rows store shown in
    list_so P (IsElderRow db ident old.now.trees) rows (λ x. (
      λ h.
          let was = row_of h.0 (codes_there store_schema 2 records records_static old h.0 store h.1) in
          let in_db : was.1 ≡ db = let e : Int was.1 ≡ Int db = ap (λ (r : Row). column r 1) (sym was.5) ∙ h.2.0 in cc in
          let same : was.3 ≡ ident = let e : Text was.3 ≡ Text ident = ap (λ (r : Row). column r 3) (sym was.5) ∙ h.2.1.0 in cc in
          (was.2, was.4, h.3 ∙ ap (λ (r : Row). column r 2 ∷ column r 4 ∷ []) was.5, (was.0, subst (Has all) (was.5 ∙ ap₂ (λ d i. Int was.0 ∷ record_row d was.2 i was.4) in_db same) h.1)),
      λ h. (Int h.3.0 ∷ record_row db h.0 ident h.1, h.3.1, (refl, (refl, tt)), h.2),
    )) (subst (IsListOf P) (sym got.2) got.1)

abbrev pub ident_text : List ℕ
ident_text = IDENT.now

pub ident_query : (db sysno : ℤ) → IsQuery ident_text (Int db ∷ Int sysno ∷ []) 4 number_wheres (shows (3 ∷ [])) [] no_limit (codes "ident" ∷ [])
unfolding understood everything
ident_query db sysno = record { is = refl; plain = (refl, refl); unlisted = refl; silent = λ schema base. refl; whole = (omega arith, refl); fit = λ trees mistyped. absurd (let t : true ≡ false = mistyped in cc) }

pub lists_ident : (db sysno : ℤ) (old new : State) (rows : List Row) → IsStore old → Shown ident_text (Int db ∷ Int sysno ∷ []) old new rows → IsListOf (IsIdentRow db sysno old.now.trees) rows
lists_ident db sysno old new rows store shown =
    let all = old.now.trees 4 in
    let params = Int db ∷ Int sysno ∷ [] in
    let P = IsSelected all number_wheres params (3 ∷ []) in
    let got = selects store_schema 2 records records_static _ records_keys ident_text params number_wheres (3 ∷ []) [] no_limit _ (ident_query db sysno).is (ident_query db sysno).plain (ident_query db sysno).unlisted refl refl refl (λ r s lower. absurd cc) old new rows store shown in
    list_so P (IsIdentRow db sysno old.now.trees) rows (λ x. (
      λ h.
          let was = row_of h.0 (codes_there store_schema 2 records records_static old h.0 store h.1) in
          let in_db : was.1 ≡ db = let e : Int was.1 ≡ Int db = ap (λ (r : Row). column r 1) (sym was.5) ∙ h.2.0 in cc in
          let same : was.2 ≡ sysno = let e : Int was.2 ≡ Int sysno = ap (λ (r : Row). column r 2) (sym was.5) ∙ h.2.1.0 in cc in
          (was.3, was.4, h.3 ∙ ap (λ (r : Row). column r 3 ∷ []) was.5, (was.0, subst (Has all) (was.5 ∙ ap₂ (λ d i. Int was.0 ∷ record_row d i was.3 was.4) in_db same) h.1)),
      λ h. (Int h.3.0 ∷ record_row db sysno h.0 h.1, h.3.1, (refl, (refl, tt)), h.2),
    )) (subst (IsListOf P) (sym got.2) got.1)

abbrev pub all_text : List ℕ
all_text = ALL.now

pub all_query : (db : ℤ) → IsQuery all_text (Int db ∷ []) 4 (keyed_from 1 0 1) (shows (2 ∷ 3 ∷ 4 ∷ [])) (rising (2 ∷ [])) no_limit (codes "sysno" ∷ codes "ident" ∷ codes "bytes" ∷ [])
unfolding understood everything
all_query db = record { is = refl; plain = (refl, refl); unlisted = refl; silent = λ schema base. refl; whole = (omega arith, refl); fit = λ trees mistyped. absurd (let t : true ≡ false = mistyped in cc) }

pub lists_all : (db : ℤ) (old new : State) (rows : List Row) → IsStore old → Shown all_text (Int db ∷ []) old new rows → IsListOf (IsRest records_tree (Int db ∷ []) old.now.trees) rows
lists_all db = lists_rest 2 records records_static _ records_keys all_text (Int db ∷ []) 3 (2 ∷ []) _ (all_query db) refl refl refl refl (λ r s lower. first_lower _ _ lower)

-- what the other columns of a record of the database are
pub record_rest : (s : State) (db : ℤ) (r : Row) → IsStore s → HasRow s.now.trees records_tree (Int db ∷ r) → (sysno : ℤ) × (ident : List ℕ) × (bytes : List ℕ) × (r ≡ Int sysno ∷ Text ident ∷ Blob bytes ∷ [])
record_rest s db r store h =
    let was = row_of (Int h.0 ∷ Int db ∷ r) (codes_there store_schema 2 records records_static s (Int h.0 ∷ Int db ∷ r) store h.1) in (was.2, was.3, was.4, ap (drop 2) was.5)
