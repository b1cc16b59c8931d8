-- INSERT of many rows at once, as what it makes of a table's rows.
use Rattle.zeb_packed.proofs.Cited.{◌≡◌, ◌⊎◌, ◌↔◌, ◌∙◌, ◌/◌, ◌++◌, ◌+◌, ◌&&◌, ℕ, ℤ, zero, suc, true, false, List, [], ◌∷◌, length, map, drop, take, slice_get, Ok, Err, Result, IfOk, Some, None, inl, inr, refl, sym, ap, ap₂, subst, AllByRecursion, arith, length-append, length-map, Has, Row, column, rowid, Int, Null, Value, Schema, Table, State, Trees, Executes, ExecutesInside, Error, Database, Insert, Values, Term, lit, col, next_rowid, Chosen, command_of, IsPlain, some_from, is_eq, both_ways, HasLayout, GoesOn, IsPlainTable, keyed_there, one_step, runs_as, statement_of, Applies, Edit, numbered, taken_by, value_rows, value_cmp, mode_of, eval_all, put_row, Option, and_parts, not-true, append_assoc, AreValuesOf, GainsAll, joined, MANY, keeps_all, ChangesOneTable}
use Rattle.sqlite.specs.Cast.{cast_row}
use Rattle.sqlite.specs.Does.{Does, Tally}
use Rattle.sqlite.specs.Listing.{understood}
use Rattle.sqlite.specs.Rows.{count_of, last_id, rowids_for}
use Rattle.sqlite.specs.declared.run.Mode.{Mode}
use Rattle.sqlite_rules.proofs.TableLemmas.{put_all_keeps}
use Rattle.sqlite_rules.specs.Action.{works}
use Rattle.sqlite_rules.specs.Edit.{are_fresh}
use Rattle.std.proofs.Math.Seq.{drop-append_seam, take-append_seam}
use Rattle.zeb_register.proofs.EditedRows.{edited_has, edited_keyed, keyed_after}
use Rattle.zeb_register.proofs.WrittenRows.{cast_row_same, not_above, not_counted, not_stamped, same_value, went}

-- ---- rows with the rowids that they get

-- rows behind those of a table
abbrev pub new_rows : (table rows : List Row) → List Row
new_rows table rows = numbered Chosen table (map (λ (r : Row). Null ∷ r) rows)

shown_of : (rows table : List Row) (r : Row) → Has (new_rows table rows) r → (id : ℤ) × (columns : Row) × Has rows columns × (r ≡ Int id ∷ columns)
shown_of [] table r h = absurd h
shown_of (x ∷ rows) table r (inl same) = (next_rowid table, x, inl refl, same)
shown_of (x ∷ rows) table r (inr later) = let it = shown_of rows (put_row (Int (next_rowid table) ∷ x) table) r later in (it.0, it.1, inr it.2, it.3)

pub has_shown : (rows table : List Row) (columns : Row) → Has rows columns → (id : ℤ) × Has (new_rows table rows) (Int id ∷ columns)
has_shown [] table columns h = absurd h
has_shown (x ∷ rows) table columns (inl same) = (next_rowid table, inl (ap (λ (c : Row). Int (next_rowid table) ∷ c) same))
has_shown (x ∷ rows) table columns (inr later) = let it = has_shown rows (put_row (Int (next_rowid table) ∷ x) table) columns later in (it.0, inr it.1)

-- no row that there was has the rowid of a new one
pub fresh_apart : (news table : List Row) (x r : Row) → are_fresh table news ≡ true → Has news x → Has table r → is_eq (value_cmp (rowid r) (rowid x)) ≡ true → ⊥
fresh_apart [] table x r fresh h here tie = absurd h
fresh_apart (n ∷ news) table x r fresh (inl same) here tie =
    let parts = and_parts _ _ fresh in
    both_ways _ (not-true _ parts.0) (some_from (λ y. is_eq (value_cmp (rowid y) (rowid n))) table r here (subst (λ (y : Row). is_eq (value_cmp (rowid r) (rowid y)) ≡ true) same tie))
fresh_apart (n ∷ news) table x r fresh (inr later) here tie =
    let parts = and_parts _ _ fresh in
    fresh_apart news (put_row n table) x r parts.1 later (put_all_keeps (n ∷ []) table r (ap (λ b. b && true) parts.0) here) tie

-- the table has the rows beside those that it had, each with a rowid that was free
pub record GainsNumbered (rows : List Row) (tree : ℕ) (old new : Trees) : Type 0 where
  pub fresh : are_fresh (old tree) (new_rows (old tree) rows) ≡ true
  pub each : (r : Row) → Has (new tree) r ↔ (Has (old tree) r ⊎ Has (new_rows (old tree) rows) r)

pub gains_all : (rows : List Row) (tree : ℕ) (old new : Trees) → GainsNumbered rows tree old new → GainsAll rows tree old new
gains_all rows tree old new it row = (
  λ h. elim ((it.each (Int h.0 ∷ row)).0 h.1) [
    | inl was ↦ inl (h.0, was)
    | inr made ↦ let shown = shown_of rows (old tree) (Int h.0 ∷ row) made in inr (subst (Has rows) (sym (ap (drop 1) shown.3)) shown.2)
  ],
  λ h. elim h [
    | inl was ↦ (was.0, (it.each (Int was.0 ∷ row)).1 (inl was.1))
    | inr there ↦ let made = has_shown rows (old tree) row there in (made.0, (it.each (Int made.0 ∷ row)).1 (inr made.1))
  ],
)

-- ---- the statement

cast_same : (table : Table) (rows : List Row) → AllByRecursion (λ (r : Row). keeps_all table.columns r ≡ true) rows
    → map (λ (s : Row). cast_row table (drop 0 s)) (map (λ (r : Row). Null ∷ r) rows) ≡ map (λ (r : Row). Null ∷ r) rows
cast_same table [] kept = refl
cast_same table (x ∷ rows) kept = ap₂ (λ (r : Row) (l : List Row). r ∷ l) (cast_row_same table Null x refl kept.0) (cast_same table rows kept.1)

module _ (limit : Option ℕ) (mode : Mode) (params : Row) (db : Database) (schema : Schema) (at : ℕ) (table : Table) (has : db.schema ≡ schema) (there : slice_get schema.tables at ≡ Some table)
    (none : (olds news : List Row) → works schema mode.keys 0 table.tree olds news ≡ []) (text : List ℕ) (out : Tally × Database) where
  inserted : table.is_counted ≡ false → table.stamps.terms ≡ [] → (terms : List Term) (width : ℕ) (rows : List Row) → value_rows params width (length terms / width) terms ≡ map (λ (r : Row). Null ∷ r) rows
      → AllByRecursion (λ (r : Row). keeps_all table.columns r ≡ true) rows → Does limit mode params db text None (Insert at (Values terms width)) (Ok out)
      → let edit : Edit = record { table = table; gone = []; news = new_rows (db.trees table.tree) rows } in Applies schema mode.keys db.trees edit out.1.trees × (out.1.schema ≡ schema)
  inserted uncounted unstamped terms width rows source kept h =
      let begun = rw there at (subst (λ s. Does limit mode params (record db { schema = s }) text None (Insert at (Values terms width)) (Ok out)) has h) in
      let done = went begun in
      let same = same_value (went (went done.2).2).2 in
      let given = went done.1 in
      let counter = went given.2 in
      let written = went counter.2 in
      let counted = went written.2 in
      let own = db.trees table.tree in
      let cast = λ (rs : List Row). map (λ s. cast_row table (drop 0 s)) rs in
      let sources : given.0 ≡ map (λ (r : Row). Null ∷ r) rows = given.1.1 ∙ ap (λ ps. value_rows ps width (length terms / width) terms) (not_stamped table params unstamped) ∙ source in
      let chosen : rowids_for table (count_of counter.0) ≡ Chosen = not_above table (count_of counter.0) uncounted in
      let news : numbered (rowids_for table (count_of counter.0)) own (cast given.0) ≡ new_rows own rows =
      ap (λ o. numbered o own (cast given.0)) chosen ∙ ap (λ rs. numbered Chosen own (cast rs)) sources ∙ ap (λ rs. numbered Chosen own rs) (cast_same table rows kept) in
      let edit = λ (ns : List Row). let it : Edit = record { table = table; gone = []; news = ns } in it in
      let stop : counted.0 ≡ written.0 = same_value (not_counted (record { limit = limit; keys = mode.keys; schema = schema; table = table; params = params }) written.0 counter.0 _ (Ok counted.0) uncounted counted.1) in
      let one : done.0 ≡ record { trees = counted.0; rows = numbered (rowids_for table (count_of counter.0)) own (cast given.0); last = last_id (numbered (rowids_for table (count_of counter.0)) own (cast given.0)) } = same_value counted.2 in
      let trees : out.1.trees ≡ written.0 = ap (λ (p : Tally × Database). p.1.trees) same ∙ ap (λ it. it.trees) one ∙ stop in
      let applies = one_step schema mode.keys db.trees written.0 (edit (numbered (rowids_for table (count_of counter.0)) own (cast given.0))) (none (taken_by db.trees (edit [])) _) written.1 in (
        subst (λ t. Applies schema mode.keys db.trees (edit (new_rows own rows)) t) (sym trees) (subst (λ ns. Applies schema mode.keys db.trees (edit ns) written.0) news applies),
        ap (λ (p : Tally × Database). p.1.schema) same,
      )

module _ (schema : Schema) (at : ℕ) (table : Table) (static : IsPlainTable schema at table) where
  pub inserts_many : (sql : List ℕ) (params : Row) (terms : List Term) (width : ℕ) (rows : List Row) → command_of (understood schema sql) ≡ Insert at (Values terms width) → IsPlain (understood schema sql)
      → value_rows params width (length terms / width) terms ≡ map (λ (r : Row). Null ∷ r) rows → AllByRecursion (λ (r : Row). keeps_all table.columns r ≡ true) rows → (old new : State) (count : ℕ) → HasLayout schema old → Executes sql params old new (Ok count)
      → ChangesOneTable schema table.tree (GainsNumbered rows) old new
  inserts_many sql params terms width rows is bare source kept old new count layout ran =
      let w = runs_as sql params old new schema layout.is (Insert at (Values terms width)) is bare count ran in
      let text = statement_of sql (understood schema sql) in
      let done = inserted old.step_limit (mode_of old) params old.now schema at table layout.is static.there static.free text (w.tally, new.now) static.uncounted static.unstamped terms width rows source kept w.changed in
      let edit : Edit = record { table = table; gone = []; news = new_rows (old.now.trees table.tree) rows } in
      let has = edited_has schema _ old.now.trees new.now.trees edit done.0 in
      record {
        layout = record {
          is = done.1;
          sound = w.sound;
          keyed = keyed_after schema.tables old.now.trees new.now.trees table.tree layout.keyed done.0.tables (edited_keyed schema _ old.now.trees new.now.trees edit done.0 (keyed_there schema at table static old layout));
        };
        mode = w.shown.mode;
        rows = record {
          fresh = done.0.fresh;
          each = λ r. (
            λ h. elim ((has r).0 h) [ inl left ↦ inl left.0 | inr new ↦ inr new ],
            λ h. (has r).1 (elim h [ inl left ↦ inl (left, λ id none. absurd none) | inr new ↦ inr new ]),
          );
        };
        others = done.0.tables;
      }

-- ---- the terms of VALUES, row by row

abbrev pub row_terms : (width at : ℕ) → List Term
row_terms zero at = []
row_terms (suc width) at = col 0 at ∷ row_terms width (at + 1)

abbrev pub rows_terms : (width rows at : ℕ) → List Term
rows_terms width zero at = []
rows_terms width (suc rows) at = (lit Null ∷ row_terms width at) ++ rows_terms width rows (at + width)

column_at : (front : Row) (x : Value) (rest : Row) → column (front ++ (x ∷ rest)) (length front) ≡ x
column_at [] x rest = refl
column_at (a ∷ front) x rest = column_at front x rest

row_shown : (front row rest : Row) (at : ℕ) → at ≡ length front → eval_all (row_terms (length row) at) ((front ++ (row ++ rest)) ∷ []) ≡ row
row_shown front [] rest at is = refl
row_shown front (x ∷ row) rest at is =
    ap₂ (λ (v : Value) (l : Row). v ∷ l)
    (ap (column (front ++ (x ∷ (row ++ rest)))) is ∙ column_at front x (row ++ rest))
    (ap (λ (ps : Row). eval_all (row_terms (length row) (at + 1)) (ps ∷ [])) (sym (append_assoc front (x ∷ []) (row ++ rest))) ∙ row_shown (front ++ x ∷ []) row rest (at + 1) (omega (arith, is, length-append front (x ∷ []))))

terms_long : (width at : ℕ) → length (row_terms width at) ≡ width
terms_long zero at = refl
terms_long (suc width) at = ap suc (terms_long width (at + 1))

values_shown : (width : ℕ) (rows : List Row) → AllByRecursion (λ (r : Row). length r ≡ width) rows → (front : Row) (at : ℕ) → at ≡ length front
    → value_rows (front ++ joined rows) (suc width) (length rows) (rows_terms width (length rows) at) ≡ map (λ (r : Row). Null ∷ r) rows
values_shown width [] long front at is = refl
values_shown width (row ∷ rows) long front at is =
    let params : Row = front ++ (row ++ joined rows) in
    let head : List Term = lit Null ∷ row_terms width at in
    let more : List Term = rows_terms width (length rows) (at + width) in
    let head_long : length head ≡ suc width = ap suc (terms_long width at) in
    let first : eval_all (take (suc width) (head ++ more)) (params ∷ []) ≡ Null ∷ row = ap (λ n. eval_all (take n (head ++ more)) (params ∷ [])) (sym head_long) ∙ ap (λ ts. eval_all ts (params ∷ [])) (take-append_seam head more)
    ∙ ap (λ (l : Row). Null ∷ l) (subst (λ w. eval_all (row_terms w at) (params ∷ []) ≡ row) long.0 (row_shown front row (joined rows) at is)) in
    let later : value_rows params (suc width) (length rows) (drop (suc width) (head ++ more)) ≡ map (λ (r : Row). Null ∷ r) rows = ap (λ n. value_rows params (suc width) (length rows) (drop n (head ++ more))) (sym head_long)
    ∙ ap (value_rows params (suc width) (length rows)) (drop-append_seam head more)
    ∙ ap (λ ps. value_rows ps (suc width) (length rows) more) (sym (append_assoc front row (joined rows))) ∙ values_shown width rows long.1 (front ++ row) (at + width) (omega (arith, is, long.0, length-append front row)) in
    ap₂ (λ (r : Row) (l : List Row). r ∷ l) first later

-- the values of as many rows as a statement puts are what its terms show
pub rows_shown : {X : Type 0} (row_of : X → Row) (width : ℕ) (news : List X) (params : Row) → AreValuesOf row_of news params → AllByRecursion (λ (r : Row). length r ≡ width) (map row_of news)
    → value_rows params (suc width) MANY (rows_terms width MANY 0) ≡ map (λ (r : Row). Null ∷ r) (map row_of news)
rows_shown {X} row_of width news params are long =
    let rows = map row_of news in
    ap (λ ps. value_rows ps (suc width) MANY (rows_terms width MANY 0)) are.1
    ∙ subst (λ n. value_rows (joined rows) (suc width) n (rows_terms width n 0) ≡ map (λ (r : Row). Null ∷ r) rows) (length-map news row_of ∙ are.0) (values_shown width rows long [] 0 refl)

-- ---- what a statement inside a transaction did

pub ran_goes : (sql : List ℕ) (params : Row) (old new : State) (r : Result ℕ Error) → ExecutesInside 0 sql params old new r → IfOk r (λ count. GoesOn old new)
ran_goes sql params old new (Ok count) ran = ran.1
ran_goes sql params old new (Err e) ran = tt

pub ran_so : (sql : List ℕ) (params : Row) (old new : State) (r : Result ℕ Error) (Done : Type 0) → ((count : ℕ) → Executes sql params old new (Ok count) → Done) → ExecutesInside 0 sql params old new r → IfOk r (λ count. Done)
ran_so sql params old new (Ok count) Done so ran = so count ran.0
ran_so sql params old new (Err e) Done so ran = tt
