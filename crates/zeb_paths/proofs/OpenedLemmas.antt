-- The rowids of tables that are read from the files of a disk rise, since each table is a sound tree of its pages.
use Rattle.std.proofs.Common.{ap, filter, inl, inr, List, [], ◌∷◌, subst, sym}
use Rattle.std.proofs.Math.Logic.{∥∥₁_elim}
use Rattle.std.specs.List.{AllByRecursion, AllZip}
use Rattle.sqlite.specs.Effect.{Database}
use Rattle.sqlite.specs.Files.{AreFoundIn, IsOpened, file_state}
use Rattle.sqlite.specs.Held.{Held}
use Rattle.sqlite.specs.Start.{FindsIn}
use Rattle.sqlite_catalog.specs.Listing.{IsSound, IsTableRow, Lists, is_table_row}
use Rattle.sqlite_catalog.proofs.ReadLemmas.{shaped_of}
use Rattle.sqlite_pool.specs.File.{in_use, version_in}
use Rattle.sqlite_rules.proofs.ListLemmas.{all_from, all_has}
use Rattle.sqlite_schema.specs.declared.schema.Schema.{Schema}
use Rattle.sqlite_schema.specs.declared.schema.Table.{Table}
use Rattle.sqlite_store.proofs.ListingLemmas.{all_ordered}
use Rattle.sqlite_disk.specs.declared.Disk.{Ghosts}
use Rattle.sqlite_store.specs.declared.store.FileStore.{FileStore}
use Rattle.sqlite_store.specs.FileStore.{view}
use Rattle.sqlite_store.specs.Listed.{catalog_rows, is_listed}
use Rattle.sqlite_store.specs.Listing.{all_reals, all_shapes, file_trees}
use Rattle.sqlite_trees.specs.declared.store.Shape.TheVariants as shape
use Rattle.sqlite_trees.specs.Objects.{IsListed, catalog_tree}
use Rattle.sqlite_trees.specs.Props.{AllByRecursion-prop, IsShaped-prop}
use Rattle.sqlite_trees.specs.View.{IsOrdered, IsShaped, View}
use Rattle.sqlite_wal.specs.Recovery.{Image}
use Rattle.zeb_paths.specs.Opened.{IsWellOpened}

-- trees in order, of the shapes that they list: the rows of each table of their schema rise
rising_by : (v : View) (schema : Schema) → IsOrdered v.shape v.trees → IsListed (v.trees catalog_tree) v.shape v.reals
    → Lists (v.trees catalog_tree) schema → AllByRecursion (λ t. IsShaped shape.Table (v.trees t.tree)) schema.tables
rising_by v schema ordered listed lists =
    let itself = subst (λ s. IsShaped s (v.trees catalog_tree)) listed.itself.0 (ordered catalog_tree) in
    let shaped = shaped_of v schema listed itself lists in
    all_from _ schema.tables (λ t has. subst (λ s. IsShaped s (v.trees t.tree)) (all_has _ schema.tables t shaped.tables has).0 (ordered t.tree))

none_rise : (P : Table → Type 0) (tables : List Table) → AllZip IsTableRow [] tables → AllByRecursion P tables
none_rise P [] none = tt
none_rise P (t ∷ tables) none = absurd none

found_rise : (v : View) (schema : Schema) (image : Image) → AreFoundIn image v.trees → IsSound schema v.trees
    → AllByRecursion (λ t. IsShaped shape.Table (v.trees t.tree)) schema.tables
found_rise v schema image (inl found) sound =
    ∥∥₁_elim found.4 (AllByRecursion-prop (λ (t : Table). IsShaped shape.Table (v.trees t.tree)) (λ t. IsShaped-prop shape.Table (v.trees t.tree)) schema.tables) (λ ours.
    let read = subst (λ trees. IsSound schema trees) found.5 sound in
    subst (λ trees. AllByRecursion (λ t. IsShaped shape.Table (trees t.tree)) schema.tables) (sym found.5)
    (rising_by (record v { trees = file_trees found.0 found.2 found.1; shape = all_shapes found.2; reals = all_reals found.2 }) schema
    (all_ordered ours.file.db (version_in found.1))
    (subst (λ rows. IsListed rows (all_shapes found.2) (all_reals found.2)) (sym (catalog_rows found.0 found.2 (in_use found.0 found.1))) (is_listed found.2))
    read.lists))
found_rise v schema image (inr empty) sound =
    none_rise _ schema.tables (subst (λ rows. AllZip IsTableRow rows schema.tables) (ap (filter is_table_row) empty.1.1) sound.lists.listed.tables)

pub well_opened : {D : Type 0} {g : Ghosts D} {image : Image} (c : Held (FileStore D g)) → IsOpened c → FindsIn image (file_state c)
    → IsWellOpened (file_state c)
well_opened {image} c is finds = record {
  opened = is.0;
  live = is.1;
  rising = found_rise (view c.store) c.schema image (subst (λ (db : Database). AreFoundIn image db.trees) (sym is.0.clean) finds.reads) (is.1 is.0.is_open).0;
}
