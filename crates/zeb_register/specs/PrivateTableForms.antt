-- What only the contracts of private functions speak of; no public clause reaches it.
-- The tables and indexes that forms stand for.
use Rattle.std.specs.Prelude.{◌≡◌, ℕ, List, [], map, Bool, false, true}
use Rattle.std.specs.Borrow.{Bor}
use Rattle.sqlite.specs.Table.{Table}
use Rattle.sqlite.specs.Kind.{Kind}
use Rattle.sqlite.specs.Kind.TheVariants.{Integer}
use Rattle.sqlite_schema.specs.declared.schema.Column.{Column}
use Rattle.sqlite_schema.specs.declared.schema.Index.{Index}
use Rattle.sqlite_value.specs.Keys.{plain}
use Rattle.zeb_register.specs.Tables.{column}
use Rattle.zeb_register.specs.declared.schema.ColumnForm.{ColumnForm}
use Rattle.zeb_register.specs.declared.schema.ColumnForm.TheVariants.{RowId, Full}
use Rattle.zeb_register.specs.declared.schema.TableForm.{TableForm}
use Rattle.zeb_register.specs.declared.schema.IndexForm.{IndexForm}

abbrev pub column_with : List ℕ → Kind → Bool → Column
column_with name kind not_null = record (column name kind) { not_null = not_null }

abbrev pub column_of : ColumnForm → Column
column_of (RowId name) = column_with name.now Integer false
column_of (Full name kind) = column_with name.now kind true

abbrev pub columns_of : List ColumnForm → List Column
columns_of = map column_of

abbrev pub places_of : List (Bor (List ℕ)) → List (List ℕ)
places_of = map (λ key. key.now)

abbrev pub table_of : TableForm → Table
table_of form = record {
  name = form.name.now;
  tree = form.tree;
  columns = columns_of form.columns.now;
  key = form.key;
  primary = form.primary.now;
  uniques = places_of form.keys.now;
  orders = map (λ _. plain) form.keys.now;
  checks = [];
  references = [];
  computed = [];
  stamps = record { places = []; terms = []; formats = [] };
  is_counted = false;
}

abbrev pub index_of : IndexForm → Index
index_of form = record { name = form.name.now; tree = form.tree; table = form.table; columns = form.places.now; order = plain; is_unique = true }

-- a table with no other rules than those of its columns and its keys
pub record HasNoMore (table : Table) : Type 0 where
  pub checks : table.checks ≡ []
  pub references : table.references ≡ []
  pub computed : table.computed ≡ []
  pub stamps : table.stamps ≡ record { places = []; terms = []; formats = [] }
  pub uncounted : table.is_counted ≡ false
