-- What a write that went through made of the database, part by part.
use Rattle.zeb_register.proofs.Cited.{one_step, cast, cast_all, cast_row, Delete, Update, Insert, InsertOr, Tally, Does, without_all, Edit, next_rowid, numbered, with_rowid, edit_of, taken_by, Applies, Database, Answers, value_rows, Kind, is_null, Row, Given, Chosen, Clears, Judged, Tries, TriesEach, Outcome, Task, Counts, stamped, mended_from, mended, rowids_for, count_of, last_id, Schema, Values, Term, Trees, Mode, Value, Null, Int, Text, works, ids_of, AreConflicts, Refusal, is_key, Replace, Program, Column, Keys, ◌≡◌, ◌⊎◌, inl, inr, ℕ, ℤ, ◌+◌, ◌/◌, Bool, true, false, cond, not, ◌&&◌, ◌||◌, ap₂, length, append-nil, map, drop, List, [], ◌∷◌, slice_get, Option, Some, None, Result, Ok, Err, refl, sym, ap, subst, ◌∙◌, and_parts, option_or, Table, nothing, all_given}
use Rattle.sqlite.specs.Ops.{unary}
use Rattle.sqlite.specs.Rows.{Written}
use Rattle.sqlite.specs.Kind.TheVariants as kind
use Rattle.zeb_register.proofs.ValueKinds.{keeps, keeps_all, fills, is_stored}
use Rattle.sqlite.specs.Rows.{Puts}

-- a part that gave a value did not stop on the way
pub went : {B E R : Type 0} {b : B} {Stops : E → Type 0} → ((stop : E) × Stops stop × (Ok b ≡ Err stop)) ⊎ R → R
went (inl stopped) = absurd (let e = stopped.2 in cc)
went (inr on) = on

pub same_value : {B E : Type 0} {a b : B} → ◌≡◌ {A = Result B E} (Ok a) (Ok b) → a ≡ b
same_value e = cc

-- ---- rows that are stored as they are given

either : {X : Type 0} (b : Bool) (x : X) → cond b x x ≡ x
either true x = refl
either false x = refl

cast_same : (k : Kind) (v : Value) → keeps k v ≡ true → cast k v ≡ v
unfolding unary
cast_same kind.Integer Null h = either _ Null
cast_same kind.Integer (Int n) h = either _ (Int n)
cast_same kind.Text Null h = refl
cast_same kind.Text (Text t) h = refl
cast_same kind.Blob v h = refl
cast_same kind.Any v h = refl
cast_same k v h = absurd cc

pub cast_all_same : (cs : List Column) (vs : Row) → keeps_all cs vs ≡ true → cast_all cs vs ≡ vs
cast_all_same [] vs h = refl
cast_all_same (c ∷ cs) [] h = refl
cast_all_same (c ∷ cs) (v ∷ vs) h = let parts = and_parts (keeps c.kind v) _ h in ap₂ (λ x xs. x ∷ xs) (cast_same c.kind v parts.0) (cast_all_same cs vs parts.1)

pub cast_row_same : (table : Table) (id : Value) (columns : Row) → keeps kind.Integer id ≡ true → keeps_all table.columns columns ≡ true → cast_row table (id ∷ columns) ≡ id ∷ columns
cast_row_same table id columns h k = ap₂ (λ x xs. x ∷ xs) (cast_same kind.Integer id h) (cast_all_same table.columns columns k)

mended_same : (key : Option ℕ) (at : ℕ) (cs : List Column) (vs : Row) → fills key at cs vs ≡ true → mended_from key at cs vs ≡ vs
mended_same key at [] vs h = refl
mended_same key at (c ∷ cs) [] h = refl
mended_same key at (c ∷ cs) (v ∷ vs) h =
    let parts = and_parts (is_key key at || not (is_null v)) _ h in ap₂ (λ x xs. x ∷ xs) (one c.not_null (is_null v) (is_key key at) parts.0) (mended_same key (at + 1) cs vs parts.1)
  where
    one : (required null here : Bool) → (here || not null) ≡ true → cond ((required && null) && not here) c.default v ≡ v
    one true true true h = refl
    one true true false h = absurd cc
    one true false here h = refl
    one false null here h = refl

pub mended_row_same : (table : Table) (columns : Row) → fills table.key 0 table.columns columns ≡ true → mended Replace table (Null ∷ columns) ≡ Null ∷ columns
mended_row_same table columns h = ap (λ vs. Null ∷ vs) (mended_same table.key 0 table.columns columns h)

-- INSERT OR REPLACE first removes the rows that have the row's rowid or one of its keys
abbrev pub IsCleared : Schema → Keys → Trees → Table → List Row → Trees → Type 0
IsCleared schema keys db table found mid =
    ((found ≡ []) × (mid ≡ db)) ⊎ Applies schema keys db (record { table = table; gone = ids_of found; news = [] }) mid

pub record IsReplaced (schema : Schema) (keys : Keys) (db next : Trees) (table : Table) (new : Row) : Type 0 where
  pub found : List Row
  pub conflicts : AreConflicts None schema.indexes table (db table.tree) new found
  pub mid : Trees
  pub cleared : IsCleared schema keys db table found mid
  pub put : Applies schema keys mid (record { table = table; gone = []; news = new ∷ [] }) next

pub not_stamped : (table : Table) (params : Row) → table.stamps.terms ≡ [] → stamped table params ≡ params
not_stamped table params unstamped = rw (unstamped, append-nil)

pub not_counted : (task : Task) (mid : Trees) (counter : Option Row) (top : ℤ) (out : Outcome Trees) → task.table.is_counted ≡ false → Counts task mid counter top out → out ≡ Ok mid
not_counted task mid counter top out uncounted h = rw uncounted at h

pub not_above : (table : Table) (top : ℤ) → table.is_counted ≡ false → rowids_for table top ≡ Chosen
not_above table top uncounted = rw uncounted

module _ (task : Task) (columns : Row) (id : ℤ) (none : (olds news : List Row) → works task.schema task.keys 0 task.table.tree olds news ≡ []) (kept : keeps_all task.table.columns columns ≡ true) where
  abbrev putting : List Row → Edit
  putting ns = record { table = task.table; gone = []; news = ns }

  puts_row : (db : Trees) (one : Written) → Puts task (Int id ∷ columns) db (Ok one)
      → Applies task.schema task.keys db (putting ((Int id ∷ columns) ∷ [])) one.trees × (one.last ≡ Some id)
  puts_row db one h =
      let done = went h in
      let is = same_value done.2 in
      let news : cast_row task.table (Int id ∷ columns) ∷ [] ≡ (Int id ∷ columns) ∷ [] = ap (λ r. r ∷ []) (cast_row_same task.table (Int id) columns refl kept) in
      let applies = one_step task.schema task.keys db done.0 (putting (cast_row task.table (Int id ∷ columns) ∷ [])) (none (taken_by db (putting [])) (cast_row task.table (Int id ∷ columns) ∷ [])) done.1 in (
        subst (λ t. Applies task.schema task.keys db (putting ((Int id ∷ columns) ∷ [])) t) (sym (ap (λ (it : Written). it.trees) is)) (subst (λ ns. Applies task.schema task.keys db (putting ns) done.0) news applies),
        ap (λ (it : Written). it.last) is ∙ ap last_id news,
      )

  clears : (db : Trees) (found : List Row) (one : Written) → Clears task Replace (Int id ∷ columns) db found (Ok one)
      → (mid : Trees) × IsCleared task.schema task.keys db task.table found mid × Applies task.schema task.keys mid (putting ((Int id ∷ columns) ∷ [])) one.trees × (one.last ≡ Some id)
  clears db [] one h = let put = puts_row db one h in (db, inl (refl, refl), put.0, put.1)
  clears db (x ∷ more) one h =
      let done = went h in
      let put = puts_row done.0 one done.2 in
      let edit : Edit = record { table = task.table; gone = ids_of (x ∷ more); news = [] } in
      (done.0, inr (one_step task.schema task.keys db done.0 edit (none (taken_by db edit) []) done.1), put.0, put.1)

  judged : (db : Trees) (verdict : Option Refusal) (one : Written) → Judged task Replace [] (Int id ∷ columns) db verdict (Ok one)
      → IsReplaced task.schema task.keys db one.trees task.table (Int id ∷ columns) × (one.last ≡ Some id)
  judged db (Some why) one h = absurd cc
  judged db None one h =
      let c = clears db h.0 one h.2 in
      (record { found = h.0; conflicts = h.1; mid = c.0; cleared = c.1; put = c.2 }, c.3)

  tries : (db : Trees) (one : Written) → Tries task Replace [] (Int id ∷ columns) db (Ok one) → IsReplaced task.schema task.keys db one.trees task.table (Int id ∷ columns) × (one.last ≡ Some id)
  tries db one (inl refused) = absurd (let e = refused.1 in cc)
  tries db one (inr h) = judged db h.0 one h.2

module _ (limit : Option ℕ) (mode : Mode) (params : Row) (db : Database) (schema : Schema) (at : ℕ) (table : Table) (has : db.schema ≡ schema) (there : slice_get schema.tables at ≡ Some table)
    (none : (olds news : List Row) → works schema mode.keys 0 table.tree olds news ≡ []) (text : List ℕ) (out : Tally × Database) where
  abbrev known : Database
  known = record { schema = schema; trees = db.trees }

  pub deleted : (q : Program) → Does limit mode params db text None (Delete at q) (Ok out)
      → (rows : List Row) × Answers known q params rows × Applies schema mode.keys db.trees (edit_of db.trees table (ids_of rows) Given 0 []) out.1.trees × (out.1.schema ≡ schema)
  deleted q h =
      let begun = rw there at (subst (λ s. Does limit mode params (record db { schema = s }) text None (Delete at q) (Ok out)) has h) in
      let done = went begun in
      let now = ap (λ (p : Tally × Database). p.1) (same_value (went (went done.2).2).2) in
      let given = went done.1 in
      let written = went given.2 in
      let trees : done.0.trees ≡ written.0 = ap (λ (it : Written). it.trees) (same_value written.2) in
      let edit = edit_of db.trees table (ids_of given.0) Given 0 [] in
      let applies = one_step schema mode.keys db.trees written.0 edit (none (taken_by db.trees edit) []) written.1 in
      (given.0, given.1, subst (Applies schema mode.keys db.trees edit) (sym (ap (λ (d : Database). d.trees) now ∙ trees)) applies, ap (λ (d : Database). d.schema) now)

  -- UPDATE puts each new row in place of the one that has its first column as rowid
  pub updated : (q : Program) → Does limit mode params db text None (Update at q) (Ok out)
      → (rows : List Row) × Answers known q params rows
      × Applies schema mode.keys db.trees (record { table = table; gone = ids_of rows; news = map (λ s. cast_row table (drop 1 s)) rows }) out.1.trees × (out.1.schema ≡ schema)
  updated q h =
      let begun = rw there at (subst (λ s. Does limit mode params (record db { schema = s }) text None (Update at q) (Ok out)) has h) in
      let done = went begun in
      let now = ap (λ (p : Tally × Database). p.1) (same_value (went (went done.2).2).2) in
      let given = went done.1 in
      let written = went given.2 in
      let trees : done.0.trees ≡ written.0 = ap (λ (it : Written). it.trees) (same_value written.2) in
      let news = map (λ s. cast_row table (drop 1 s)) given.0 in
      let edit = λ (ns : List Row). let it : Edit = record { table = table; gone = ids_of given.0; news = ns } in it in
      let first = edit_of db.trees table (ids_of given.0) Given 1 given.0 in
      let applies = one_step schema mode.keys db.trees written.0 first (none (taken_by db.trees first) first.news) written.1 in
      let same : first.news ≡ news = all_given (without_all (db.trees table.tree) (ids_of given.0)) news in (
        given.0,
        given.1,
        subst (Applies schema mode.keys db.trees (edit news)) (sym (ap (λ (d : Database). d.trees) now ∙ trees)) (subst (λ ns. Applies schema mode.keys db.trees (edit ns) written.0) same applies),
        ap (λ (d : Database). d.schema) now,
      )

  -- INSERT of one row, whose rowid is one above the last
  pub inserted : table.is_counted ≡ false → table.stamps.terms ≡ [] → (terms : List Term) (width : ℕ) (columns : Row) → value_rows params width (length terms / width) terms ≡ (Null ∷ columns) ∷ []
      → keeps_all table.columns columns ≡ true → Does limit mode params db text None (Insert at (Values terms width)) (Ok out)
      → let id = next_rowid (db.trees table.tree) in let edit : Edit = record { table = table; gone = []; news = (Int id ∷ columns) ∷ [] } in
      Applies schema mode.keys db.trees edit out.1.trees × (out.1.schema ≡ schema) × (out.0.last ≡ Some id)
  inserted uncounted unstamped terms width columns source kept h =
      let begun = rw there at (subst (λ s. Does limit mode params (record db { schema = s }) text None (Insert at (Values terms width)) (Ok out)) has h) in
      let done = went begun in
      let same = same_value (went (went done.2).2).2 in
      let given = went done.1 in
      let counter = went given.2 in
      let written = went counter.2 in
      let counted = went written.2 in
      let rows = db.trees table.tree in
      let cast = λ (rs : List Row). map (λ s. cast_row table (drop 0 s)) rs in
      let sources : given.0 ≡ (Null ∷ columns) ∷ [] = given.1.1 ∙ ap (λ ps. value_rows ps width (length terms / width) terms) (not_stamped table params unstamped) ∙ source in
      let chosen : rowids_for table (count_of counter.0) ≡ Chosen = not_above table (count_of counter.0) uncounted in
      let news : numbered (rowids_for table (count_of counter.0)) rows (cast given.0) ≡ (Int (next_rowid rows) ∷ columns) ∷ [] =
      ap (λ o. numbered o rows (cast given.0)) chosen ∙ ap (λ rs. numbered Chosen rows (cast rs)) sources ∙ ap (λ r. with_rowid Chosen rows r ∷ []) (cast_row_same table Null columns refl kept) in
      let edit = λ (ns : List Row). let it : Edit = record { table = table; gone = []; news = ns } in it in
      let stop : counted.0 ≡ written.0 = same_value (not_counted (record { limit = limit; keys = mode.keys; schema = schema; table = table; params = params }) written.0 counter.0 _ (Ok counted.0) uncounted counted.1) in
      let one : done.0 ≡ record { trees = counted.0; rows = numbered (rowids_for table (count_of counter.0)) rows (cast given.0); last = last_id (numbered (rowids_for table (count_of counter.0)) rows (cast given.0)) } = same_value counted.2 in
      let trees : out.1.trees ≡ written.0 = ap (λ (p : Tally × Database). p.1.trees) same ∙ ap (λ (it : Written). it.trees) one ∙ stop in
      let applies = one_step schema mode.keys db.trees written.0 (edit (numbered (rowids_for table (count_of counter.0)) rows (cast given.0))) (none (taken_by db.trees (edit [])) _) written.1 in (
        subst (λ t. Applies schema mode.keys db.trees (edit ((Int (next_rowid rows) ∷ columns) ∷ [])) t) (sym trees) (subst (λ ns. Applies schema mode.keys db.trees (edit ns) written.0) news applies),
        ap (λ (p : Tally × Database). p.1.schema) same,
        ap (λ (p : Tally × Database). p.0.last) same ∙ ap (λ (it : Written). it.last) one ∙ ap last_id news,
      )

  -- INSERT OR REPLACE of one row
  pub replaced : table.is_counted ≡ false → table.stamps.terms ≡ [] → (terms : List Term) (width : ℕ) (columns : Row) → value_rows params width (length terms / width) terms ≡ (Null ∷ columns) ∷ []
      → is_stored table columns ≡ true → Does limit mode params db text None (InsertOr at Replace (Values terms width) []) (Ok out)
      → let id = next_rowid (db.trees table.tree) in IsReplaced schema mode.keys db.trees out.1.trees table (Int id ∷ columns) × (out.1.schema ≡ schema) × (out.0.last ≡ Some id)
  replaced uncounted unstamped terms width columns source stored h =
      let task : Task = record { limit = limit; keys = mode.keys; schema = schema; table = table; params = params } in
      let begun = rw there at (subst (λ s. Does limit mode params (record db { schema = s }) text None (InsertOr at Replace (Values terms width) []) (Ok out)) has h) in
      let done = went begun in
      let same = same_value (went (went done.2).2).2 in
      let given = went done.1 in
      let counter = went given.2 in
      let written = went counter.2 in
      let counted = went written.2 in
      let id = next_rowid (db.trees table.tree) in
      let top = count_of counter.0 in
      let sources : given.0 ≡ (Null ∷ columns) ∷ [] = given.1.1 ∙ ap (λ ps. value_rows ps width (length terms / width) terms) (not_stamped table params unstamped) ∙ source in
      let both : (keeps_all table.columns columns ≡ true) × (fills table.key 0 table.columns columns ≡ true) = and_parts _ _ stored in
      let new : with_rowid (rowids_for table top) (db.trees table.tree) (cast_row table (mended Replace table (Null ∷ columns))) ≡ Int id ∷ columns =
      ap (λ o. with_rowid o (db.trees table.tree) (cast_row table (mended Replace table (Null ∷ columns)))) (not_above table top uncounted)
      ∙ ap (λ r. with_rowid Chosen (db.trees table.tree) r) (ap (cast_row table) (mended_row_same table columns both.1) ∙ cast_row_same table Null columns refl both.0) in
      let each : TriesEach task Replace [] ((Null ∷ columns) ∷ []) top (nothing db.trees) (Ok written.0) = subst (λ rs. TriesEach task Replace [] rs top (nothing db.trees) (Ok written.0)) sources written.1 in
      let tried = went each in
      let one = tries task columns id none both.0 db.trees tried.0 (subst (λ r. Tries task Replace [] r db.trees (Ok tried.0)) new tried.1) in
      let joint = same_value tried.2 in
      let stop : counted.0 ≡ written.0.0.trees = same_value (not_counted task written.0.0.trees counter.0 _ (Ok counted.0) uncounted counted.1) in
      let last = same_value counted.2 in
      let trees : out.1.trees ≡ tried.0.trees = ap (λ (p : Tally × Database). p.1.trees) same ∙ ap (λ (it : Written). it.trees) last ∙ stop ∙ ap (λ (p : Written × ℤ). p.0.trees) joint in (
        subst (λ t. IsReplaced schema mode.keys db.trees t table (Int id ∷ columns)) (sym trees) one.0,
        ap (λ (p : Tally × Database). p.1.schema) same,
        ap (λ (p : Tally × Database). p.0.last) same ∙ ap (λ (it : Written). it.last) last ∙ ap (λ (p : Written × ℤ). p.0.last) joint ∙ ap (λ l. option_or l None) one.1,
      )
