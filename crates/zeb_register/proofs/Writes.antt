-- DELETE, INSERT and INSERT OR REPLACE on a table, as what they make of its rows.
use Rattle.zeb_register.proofs.Cited.{IsPlain, command_of, statement_of, runs_as, cast_row, Command, Delete, Update, Insert, InsertOr, Edit, edit_of, next_rowid, IsDatabase, value_rows, Row, value_cmp, Given, Chosen, Schema, Values, State, mode_of, Executes, Writes, Term, col, eval, eval_all, Trees, rowid, Null, Int, all_has, all_from, has_got, some_from, next_is_free, has_mapped, mapped_has, ids_of, conflicts, Has, agree, Replace, Enforced, value_cmp_total, drop, eqb, ◌&&◌, unwrap_or, is_eq, ◌≡◌, ◌⊎◌, ◌↔◌, ℕ, ℤ, ◌/◌, true, List, [], ◌∷◌, length, map, Ok, inl, inr, refl, sym, ap, subst, ◌∙◌, None, cases_Bool, both_ways, or_right, or_cases, and_parts, eqb-true, tied_itself, plain, Table, Loses, Replaces, KeepsOthers, IsKeyed, HasLayout, ChangesOneTable, Gains}
use Rattle.sqlite.specs.Listing.{understood}
use Rattle.zeb_register.proofs.StatementForms.{Condition, MeetsAll, passes, reading, alone, shows, no_limit}
use Rattle.zeb_register.proofs.ValueKinds.{is_plain_term, term_code, store_all, IsPlainTable, HasKeys, SharesKey, are_fit, is_stored, keeps_all, codes_of, code}
use Rattle.zeb_register.proofs.RowLemmas.{int_kept, term_is, stores, tied_rowid, row_codes, meets, shares_means}
use Rattle.zeb_register.proofs.Scans.{reads, shows_each}
use Rattle.zeb_register.proofs.EditedRows.{Lacks, edited_has, edited_keyed, keyed_after, picked}
use Rattle.zeb_register.proofs.WrittenRows.{updated, cast_row_same, deleted, inserted, replaced, IsCleared}

-- what a write says of the table's rows, with their rowids
abbrev pub LosesRows : List Condition → Row → ℕ → Trees → Trees → Type 0
LosesRows wheres params tree old new = (r : Row) → Has (new tree) r ↔ (Has (old tree) r × ¬ MeetsAll params r wheres)

-- the rows that meet the conditions are made anew from what they were
abbrev pub RemakesRows : List Condition → List Term → Row → ℕ → Trees → Trees → Type 0
RemakesRows wheres set params tree old new =
    (r : Row) → Has (new tree) r
    ↔ ((Has (old tree) r × ¬ MeetsAll params r wheres) ⊎ ((was : Row) × Has (old tree) was × MeetsAll params was wheres × (r ≡ eval_all set (params ∷ was ∷ []))))

abbrev pub GainsRow : Row → ℕ → Trees → Trees → Type 0
GainsRow columns tree old new = (r : Row) → Has (new tree) r ↔ (Has (old tree) r ⊎ (r ≡ Int (next_rowid (old tree)) ∷ columns))

abbrev pub ReplacesRow : List (List ℕ) → Row → ℕ → Trees → Trees → Type 0
ReplacesRow keys columns tree old new =
    let new_row = Int (next_rowid (old tree)) ∷ columns in (r : Row) → Has (new tree) r ↔ ((Has (old tree) r × ¬ SharesKey keys r new_row) ⊎ (r ≡ new_row))

pub changed_so : (schema : Schema) (tree : ℕ) (P Q : ℕ → Trees → Trees → Type 0) (old new : State) → (P tree old.now.trees new.now.trees → Q tree old.now.trees new.now.trees) → ChangesOneTable schema tree P old new → ChangesOneTable schema tree Q old new
changed_so schema tree P Q old new so h = record { layout = h.layout; mode = h.mode; rows = so h.rows; others = h.others }

module _ (schema : Schema) (at : ℕ) (table : Table) (static : IsPlainTable schema at table) where
  listed : Has schema.tables table
  listed = has_got schema.tables at table static.there

  pub keyed_there : (s : State) → HasLayout schema s → IsKeyed (s.now.trees table.tree)
  keyed_there s layout = all_has (λ t. IsKeyed (s.now.trees t.tree)) schema.tables table layout.keyed listed

  pub codes_there : (s : State) (r : Row) → HasLayout schema s → Has (s.now.trees table.tree) r → map code r ≡ codes_of table
  codes_there s r layout here =
      let sound = subst (λ t. IsDatabase (record { schema = t; trees = s.now.trees })) layout.is layout.sound in
      row_codes schema s.now.trees table r sound listed static.whole here (all_has _ _ r (keyed_there s layout).1 here)

  -- a row passes WHERE exactly where it meets each condition
  pub meets_there : (s : State) (params : Row) (wheres : List Condition) → HasLayout schema s → are_fit table params wheres ≡ true → (r : Row) → Has (s.now.trees table.tree) r
      → (passes wheres params r ≡ true) ↔ MeetsAll params r wheres
  meets_there s params wheres layout fit r here = meets (codes_of table) params r wheres (codes_there s r layout here) fit

  module _ (old new : State) (layout : HasLayout schema old) (text : List ℕ) (params : Row) (count : ℕ) (command : Command) (w : Writes old new None command text params count) (is : new.now.schema ≡ schema) where
    changed : (Rows : ℕ → Trees → Trees → Type 0) → Rows table.tree old.now.trees new.now.trees → KeepsOthers schema table.tree old.now.trees new.now.trees → IsKeyed (new.now.trees table.tree)
        → ChangesOneTable schema table.tree Rows old new
    changed Rows rows others keyed = record {
      layout = record { is = is; sound = w.sound; keyed = keyed_after schema.tables old.now.trees new.now.trees table.tree layout.keyed others keyed };
      mode = w.shown.mode;
      rows = rows;
      others = others;
    }

  pub deletes : (sql : List ℕ) (params : Row) (wheres : List Condition) → command_of (understood schema sql) ≡ Delete at (alone (reading table.tree wheres (shows (0 ∷ [])) [] no_limit)) → IsPlain (understood schema sql)
      → are_fit table params wheres ≡ true → (old new : State) (count : ℕ) → HasLayout schema old → Executes sql params old new (Ok count) → ChangesOneTable schema table.tree (LosesRows wheres params) old new
  deletes sql params wheres is bare fit old new count layout ran =
      let q = alone (reading table.tree wheres (shows (0 ∷ [])) [] no_limit) in
      let w = runs_as sql params old new schema layout.is (Delete at q) is bare count ran in
      let text = statement_of sql (understood schema sql) in
      let done = deleted old.step_limit (mode_of old) params old.now schema at table layout.is static.there static.free text (w.tally, new.now) q w.changed in
      let rows = old.now.trees table.tree in
      let answer = reads (record { schema = schema; trees = old.now.trees }) table.tree wheres (shows (0 ∷ [])) [] no_limit params done.0 done.1 in
      let each = λ (x : Row). subst (λ l. Has l x ↔ ((r : Row) × Has rows r × (passes wheres params r ≡ true) × (x ≡ rowid r ∷ []))) (sym answer.shown) (shows_each rows wheres (shows (0 ∷ [])) [] no_limit params done.0 answer x) in
      let edit = edit_of old.now.trees table (ids_of done.0) Given 0 [] in
      let has = edited_has schema _ old.now.trees new.now.trees edit done.2 in
      let gone = picked rows done.0 (passes wheres params) (keyed_there old layout) (λ x h. let r = (each x).0 h in (r.0, r.1, r.2, ap rowid r.3)) (λ r h is. (rowid r ∷ [], (each (rowid r ∷ [])).1 (r, h, is, refl), refl)) in
      let met = meets_there old params wheres layout fit in
      changed old new layout text params count (Delete at q) w done.3 (LosesRows wheres params) (λ r. (
        λ h. elim ((has r).0 h) [ inl left ↦ (left.0, λ m. both_ways _ ((gone r left.0).0 left.1) ((met r left.0).1 m)) | inr new ↦ absurd new ],
        λ h. (has r).1 (inl (h.0, (gone r h.0).1 (elim (cases_Bool (passes wheres params r)) [ inl is ↦ absurd (h.1 ((met r h.0).0 is)) | inr is_not ↦ is_not ]))),
      )) done.2.tables (edited_keyed schema _ old.now.trees new.now.trees edit done.2 (keyed_there old layout))

  -- the rowid that a new row gets is free
  pub next_free : (s : State) (columns : Row) → HasLayout schema s → ¬ Has (s.now.trees table.tree) (Int (next_rowid (s.now.trees table.tree)) ∷ columns)
  next_free s columns layout here =
      let rows = s.now.trees table.tree in
      let keyed = keyed_there s layout in
      let next = Int (next_rowid rows) in
      both_ways _ (next_is_free Chosen rows columns keyed.0 keyed.1) (some_from (λ x. is_eq (value_cmp (rowid x) next)) rows (next ∷ columns) here (ap is_eq (tied_itself value_cmp_total next)))

  -- UPDATE t SET .., where `id` and `set` give the new row
  pub updates : (sql : List ℕ) (params : Row) (wheres : List Condition) (id : Term) (set : List Term)
      → command_of (understood schema sql) ≡ Update at (alone (reading table.tree wheres (col 1 0 ∷ id ∷ set) [] no_limit)) → IsPlain (understood schema sql) → are_fit table params wheres ≡ true
      → (is_plain_term id && eqb (term_code (codes_of table) params id) 1) ≡ true → store_all (codes_of table) params table.columns set ≡ true
      → (old new : State) (count : ℕ) → HasLayout schema old → Executes sql params old new (Ok count) → ChangesOneTable schema table.tree (RemakesRows wheres (id ∷ set) params) old new
  updates sql params wheres id set is bare fit whole stored old new count layout ran =
      let project = col 1 0 ∷ id ∷ set in
      let q = alone (reading table.tree wheres project [] no_limit) in
      let w = runs_as sql params old new schema layout.is (Update at q) is bare count ran in
      let text = statement_of sql (understood schema sql) in
      let done = updated old.step_limit (mode_of old) params old.now schema at table layout.is static.there static.free text (w.tally, new.now) q w.changed in
      let rows = old.now.trees table.tree in
      let answer = reads (record { schema = schema; trees = old.now.trees }) table.tree wheres project [] no_limit params done.0 done.1 in
      let each = λ (x : Row). subst (λ l. Has l x ↔ ((r : Row) × Has rows r × (passes wheres params r ≡ true) × (x ≡ eval_all project (params ∷ r ∷ [])))) (sym answer.shown)
      (shows_each rows wheres project [] no_limit params done.0 answer x) in
      let again = λ (s : Row). cast_row table (drop 1 s) in
      let edit : Edit = record { table = table; gone = ids_of done.0; news = map again done.0 } in
      let has = edited_has schema Enforced old.now.trees new.now.trees edit done.2 in
      let gone = picked rows done.0 (passes wheres params) (keyed_there old layout) (λ x h. let r = (each x).0 h in (r.0, r.1, r.2, ap rowid r.3))
      (λ r h is. (eval_all project (params ∷ r ∷ []), (each (eval_all project (params ∷ r ∷ []))).1 (r, h, is, refl), refl)) in
      let met = meets_there old params wheres layout fit in
      let as_is = λ (r : Row) (h : Has rows r).
      let typed = codes_there old r layout h in
      let parts = and_parts (is_plain_term id) _ whole in
      let one : again (eval_all project (params ∷ r ∷ [])) ≡ eval_all (id ∷ set) (params ∷ r ∷ []) =
      cast_row_same table (eval id (params ∷ r ∷ [])) (eval_all set (params ∷ r ∷ [])) (int_kept (eval id (params ∷ r ∷ [])) (term_is (codes_of table) params r id typed parts.0 ∙ eqb-true _ _ parts.1))
      (stores (codes_of table) params r table.columns set typed stored) in one in
      changed old new layout text params count (Update at q) w done.3 (RemakesRows wheres (id ∷ set) params) (λ r. (
        λ h. elim ((has r).0 h) [
          | inl left ↦ inl (left.0, λ m. both_ways _ ((gone r left.0).0 left.1) ((met r left.0).1 m))
          | inr new ↦
              let x = has_mapped again done.0 r new in
              let was = (each x.0).0 x.1 in inr (was.0, was.1, (met was.0 was.1).0 was.2, x.2 ∙ ap again was.3 ∙ as_is was.0 was.1)
        ],
        λ h. (has r).1 (elim h [
          | inl kept ↦ inl (kept.0, (gone r kept.0).1 (elim (cases_Bool (passes wheres params r)) [ inl is ↦ absurd (kept.1 ((met r kept.0).0 is)) | inr is_not ↦ is_not ]))
          | inr was ↦
              let x = eval_all project (params ∷ was.0 ∷ []) in
              let there = (each x).1 (was.0, was.1, (met was.0 was.1).1 was.2, refl) in
              inr (subst (Has (map again done.0)) (as_is was.0 was.1 ∙ sym was.3) (mapped_has again done.0 x there))
        ]),
      )) done.2.tables (edited_keyed schema Enforced old.now.trees new.now.trees edit done.2 (keyed_there old layout))

  -- the rowid of the new row is one above the last, and the connection tells it
  pub inserts : (sql : List ℕ) (params : Row) (terms : List Term) (width : ℕ) (columns : Row) → command_of (understood schema sql) ≡ Insert at (Values terms width) → IsPlain (understood schema sql)
      → value_rows params width (length terms / width) terms ≡ (Null ∷ columns) ∷ [] → keeps_all table.columns columns ≡ true → (old new : State) (count : ℕ) → HasLayout schema old → Executes sql params old new (Ok count)
      → ChangesOneTable schema table.tree (GainsRow columns) old new × (new.last_rowid ≡ next_rowid (old.now.trees table.tree))
  inserts sql params terms width columns is bare source kept old new count layout ran =
      let command = Insert at (Values terms width) in
      let w = runs_as sql params old new schema layout.is command is bare count ran in
      let text = statement_of sql (understood schema sql) in
      let done = inserted old.step_limit (mode_of old) params old.now schema at table layout.is static.there static.free text (w.tally, new.now) static.uncounted static.unstamped terms width columns source kept w.changed in
      let id = next_rowid (old.now.trees table.tree) in
      let edit : Edit = record { table = table; gone = []; news = (Int id ∷ columns) ∷ [] } in
      let has = edited_has schema _ old.now.trees new.now.trees edit done.0 in (
        changed old new layout text params count command w done.1 (GainsRow columns) (λ r. (
          λ h. elim ((has r).0 h) [ inl left ↦ inl left.0 | inr new ↦ elim new [ inl same ↦ inr same | inr none ↦ absurd none ] ],
          λ h. (has r).1 (elim h [ inl left ↦ inl (left, λ id none. absurd none) | inr same ↦ inr (inl same) ]),
        )) done.0.tables (edited_keyed schema _ old.now.trees new.now.trees edit done.0 (keyed_there old layout)),
        w.last_rowid ∙ ap (λ l. unwrap_or l old.last_rowid) done.2,
      )

  -- the rows that conflict with a new row are those that share a key with it
  pub conflicts_mean : (s : State) (keys : List (List ℕ)) (columns : Row) → HasLayout schema s → HasKeys schema table keys → map code (Int (next_rowid (s.now.trees table.tree)) ∷ columns) ≡ codes_of table
      → (r : Row) → Has (s.now.trees table.tree) r → let new_row = Int (next_rowid (s.now.trees table.tree)) ∷ columns in (conflicts None schema.indexes table new_row r ≡ true) ↔ SharesKey keys r new_row
  conflicts_mean s keys columns layout has typed r here =
      let rows = s.now.trees table.tree in
      let new_row = Int (next_rowid rows) ∷ columns in
      let means = shares_means (codes_of table) keys r new_row (codes_there s r layout here) typed has.comparable in (
        λ h. elim (or_cases (agree plain (0 ∷ []) r (0 ∷ []) new_row) _ h) [
          | inl same ↦ absurd (
              let tie = tied_rowid (rowid r) (Int (next_rowid rows)) same in
              both_ways _ (next_is_free Chosen rows columns (keyed_there s layout).0 (keyed_there s layout).1) (some_from (λ x. is_eq (value_cmp (rowid x) (Int (next_rowid rows)))) rows r here tie))
          | inr other ↦ means.0 (sym (has.are r new_row) ∙ other)
        ],
        λ h. or_right (agree plain (0 ∷ []) r (0 ∷ []) new_row) _ (has.are r new_row ∙ means.1 h),
      )

  pub cleared_has : (old : State) (found : List Row) (mid : Trees) → IsCleared schema Enforced old.now.trees table found mid → (r : Row) → Has (mid table.tree) r ↔ (Has (old.now.trees table.tree) r × Lacks (ids_of found) r)
  cleared_has old found mid (inl none) r = rw (none.0, none.1) (λ h. (h, λ id no. absurd no), λ h. h.0)
  cleared_has old found mid (inr applies) r =
      let has = edited_has schema Enforced old.now.trees mid (record { table = table; gone = ids_of found; news = [] }) applies r in
      (λ h. elim (has.0 h) [ inl left ↦ left | inr new ↦ absurd new ], λ h. has.1 (inl h))

  pub cleared_keeps : (old : State) (found : List Row) (mid : Trees) → IsCleared schema Enforced old.now.trees table found mid → KeepsOthers schema table.tree old.now.trees mid × (IsKeyed (old.now.trees table.tree) → IsKeyed (mid table.tree))
  cleared_keeps old found mid (inl none) = rw none.1 (all_from _ schema.tables (λ t h other. refl), λ h. h)
  cleared_keeps old found mid (inr applies) = (applies.tables, edited_keyed schema Enforced old.now.trees mid (record { table = table; gone = ids_of found; news = [] }) applies)

  pub replaces : (sql : List ℕ) (params : Row) (terms : List Term) (width : ℕ) (columns : Row) (keys : List (List ℕ)) → command_of (understood schema sql) ≡ InsertOr at Replace (Values terms width) []
      → IsPlain (understood schema sql) → value_rows params width (length terms / width) terms ≡ (Null ∷ columns) ∷ [] → is_stored table columns ≡ true → ((id : ℤ) → map code (Int id ∷ columns) ≡ codes_of table)
      → HasKeys schema table keys → (old new : State) (count : ℕ) → HasLayout schema old → Executes sql params old new (Ok count)
      → ChangesOneTable schema table.tree (ReplacesRow keys columns) old new × (new.last_rowid ≡ next_rowid (old.now.trees table.tree))
  replaces sql params terms width columns keys is bare source stored typed unique old new count layout ran =
      let command = InsertOr at Replace (Values terms width) [] in
      let w = runs_as sql params old new schema layout.is command is bare count ran in
      let text = statement_of sql (understood schema sql) in
      let done = replaced old.step_limit (mode_of old) params old.now schema at table layout.is static.there static.free text (w.tally, new.now) static.uncounted static.unstamped terms width columns source stored w.changed in
      let rows = old.now.trees table.tree in
      let it = done.0 in
      let new_row = Int (next_rowid rows) ∷ columns in
      let edit : Edit = record { table = table; gone = []; news = new_row ∷ [] } in
      let has = edited_has schema Enforced it.mid new.now.trees edit it.put in
      let left = cleared_has old it.found it.mid it.cleared in
      let kept = cleared_keeps old it.found it.mid it.cleared in
      let gone = picked rows it.found (conflicts None schema.indexes table new_row) (keyed_there old layout) (λ x h. let r = it.conflicts.sound x h in (r.0, r.1, r.2, ap rowid r.3))
      (λ r h is. (rowid r ∷ [], it.conflicts.complete r h is, refl)) in
      let means = conflicts_mean old keys columns layout unique (typed (next_rowid rows)) in (
        changed old new layout text params count command w done.1 (ReplacesRow keys columns) (λ r. (
          λ h. elim ((has r).0 h) [
            | inl was ↦ let l = (left r).0 was.0 in inl (l.0, λ shares. both_ways _ ((gone r l.0).0 l.1) ((means r l.0).1 shares))
            | inr new ↦ elim new [ inl same ↦ inr same | inr none ↦ absurd none ]
          ],
          λ h. (has r).1 (elim h [
            | inl was ↦ inl ((left r).1 (was.0, (gone r was.0).1 (elim (cases_Bool (conflicts None schema.indexes table new_row r)) [ inl is ↦ absurd (was.1 ((means r was.0).0 is)) | inr is_not ↦ is_not ])), λ id none. absurd none)
            | inr same ↦ inr (inl same)
          ]),
        )) (all_from _ schema.tables (λ t h other. all_has _ schema.tables t it.put.tables h other ∙ all_has _ schema.tables t kept.0 h other))
            (edited_keyed schema Enforced it.mid new.now.trees edit it.put (kept.1 (keyed_there old layout))),
        w.last_rowid ∙ ap (λ l. unwrap_or l old.last_rowid) done.2,
      )

-- ---- the same of a table as a set of rows without their rowids

pub loses : (schema : Schema) (tree : ℕ) (old new : State) (params : Row) (wheres : List Condition) (P : Row → Type 0) → ((id : ℤ) (columns : Row) → MeetsAll params (Int id ∷ columns) wheres ↔ P columns)
    → ChangesOneTable schema tree (LosesRows wheres params) old new → ChangesOneTable schema tree (Loses P) old new
loses schema tree old new params wheres P means = changed_so schema tree (LosesRows wheres params) (Loses P) old new (λ each columns. (
  λ h. let was = (each (Int h.0 ∷ columns)).0 h.1 in ((h.0, was.0), λ p. was.1 ((means h.0 columns).1 p)),
  λ h. (h.0.0, (each (Int h.0.0 ∷ columns)).1 (h.0.1, λ m. h.1 ((means h.0.0 columns).0 m))),
))

pub gains : (schema : Schema) (tree : ℕ) (old new : State) (row : Row) → ChangesOneTable schema tree (GainsRow row) old new → ChangesOneTable schema tree (Gains row) old new
gains schema tree old new row = changed_so schema tree (GainsRow row) (Gains row) old new (λ each columns. (
  λ h. elim ((each (Int h.0 ∷ columns)).0 h.1) [ inl was ↦ inl (h.0, was) | inr same ↦ inr (let e : columns ≡ row = cc in e) ],
  λ h. elim h [ inl was ↦ (was.0, (each (Int was.0 ∷ columns)).1 (inl was.1)) | inr same ↦ (_, (each (Int (next_rowid (old.now.trees tree)) ∷ columns)).1 (inr (ap (λ c. Int (next_rowid (old.now.trees tree)) ∷ c) same))) ],
))

pub takes_place : (schema : Schema) (tree : ℕ) (old new : State) (keys : List (List ℕ)) (P : Row → Type 0) (row : Row) → ((id other : ℤ) (columns : Row) → SharesKey keys (Int id ∷ columns) (Int other ∷ row) ↔ P columns)
    → ChangesOneTable schema tree (ReplacesRow keys row) old new → ChangesOneTable schema tree (Replaces P row) old new
takes_place schema tree old new keys P row means = changed_so schema tree (ReplacesRow keys row) (Replaces P row) old new (λ each columns. (
  λ h. elim ((each (Int h.0 ∷ columns)).0 h.1) [ inl was ↦ inl ((h.0, was.0), λ p. was.1 ((means h.0 _ columns).1 p)) | inr same ↦ inr (let e : columns ≡ row = cc in e) ],
  λ h. elim h [
    | inl was ↦ (was.0.0, (each (Int was.0.0 ∷ columns)).1 (inl (was.0.1, λ shares. was.1 ((means was.0.0 _ columns).0 shares))))
    | inr same ↦ (_, (each (Int (next_rowid (old.now.trees tree)) ∷ columns)).1 (inr (ap (λ c. Int (next_rowid (old.now.trees tree)) ∷ c) same)))
  ],
))
