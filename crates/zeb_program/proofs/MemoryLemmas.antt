-- Stores over files whose disk answers nothing that isn't so, and which hold nothing yet.
use Rattle.zeb_program.proofs.Cited.{◌≡◌, ◌∙◌, [], ap, arith, inl, inr, length, IsTrue, and_from, Trees, AreFound, Finds, IsNoTree, IsOpened, file_state, Held, HasCleanDisk, IsEmpty}
use Rattle.sqlite_catalog.proofs.ReadLemmas.{lists_once}
use Rattle.sqlite_disk.specs.declared.Disk.{Ghosts}
use Rattle.sqlite_disk.specs.declared.Files.{Files}
use Rattle.sqlite_pool.specs.Pool.{state as pool_state}
use Rattle.sqlite_store.specs.declared.store.FileStore.{FileStore}
use Rattle.sqlite_trees.proofs.Doubt.{no_doubt}
use Rattle.sqlite_trees.specs.Objects.{catalog_tree}
use Rattle.sqlite.proofs.ListingLemmas.{empty_is_sound}

-- a disk that is always clean leaves no doubt
pub always_clean : {D : Type 0} {g : Ghosts D} → ((disk : D) → IsTrue (g.is_clean disk)) → (c : Held (FileStore D g)) → HasCleanDisk (file_state c)
unfolding pool_state
always_clean clean c = no_doubt _ (and_from _ _ (clean _) (clean _))

-- an empty file holds no database
no_tree_found : {D : Type 0} (g : Ghosts D) (files : Files D) (db : Trees) → g.seen files.db ≡ [] → AreFound g files db → IsNoTree db
no_tree_found g files db none (inl adopted) = absurd (omega (arith, adopted.3.found.present, ap length none))
no_tree_found g files db none (inr found) = found.1

-- so what is opened over it shows no table
pub opened_is_empty : {D : Type 0} {g : Ghosts D} (files : Files D) (c : Held (FileStore D g)) → g.seen files.db ≡ [] → Finds files c → IsOpened c → IsEmpty (file_state c)
opened_is_empty {D} {g} files c none finds opened =
    let listed : (file_state c).now.trees catalog_tree ≡ [] = ap (λ d. d.trees catalog_tree) opened.0.clean ∙ (no_tree_found g files _ none finds.reads).1 in
    (opened.0, opened.1, lists_once _ _ _ ((opened.1 opened.0.is_open).0).lists (empty_is_sound (file_state c).now.trees listed).lists)
