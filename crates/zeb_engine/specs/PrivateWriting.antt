-- What only the contracts of private functions speak of; no public clause reaches it.
-- The commands that write without reading records: what each does, in rows, on any tables of a store.
use Rattle.std.specs.Prelude.{◌≡◌, ◌⊎◌, ℕ, ℤ, List, [], Some, None, Result, Ok, Err, codes}
use Rattle.std.specs.Option.{option_map}
use Rattle.sqlite.specs.Effect.{Database}
use Rattle.sqlite.specs.Tree.{Trees}
use Rattle.sqlite.specs.State.{State}
use Rattle.zeb_profile.specs.declared.directives.Directive.{Directive}
use Rattle.zeb_profile.specs.Indexes.{identifier_pattern}
use Rattle.zeb_profile.specs.Canonical.{canonical_text, pattern_text}
use Rattle.zeb_profile.specs.Laws.{IsProfile}
use Rattle.zeb_register.specs.declared.RegFault.{RegFault}
use Rattle.zeb_register.specs.declared.catalog.Database as catalog
use Rattle.zeb_register.specs.Answers.{Answers, IfDamaged}
use Rattle.zeb_register.specs.Catalog.{AreCountedDatabases, IsDatabaseOf}
use Rattle.zeb_register.specs.Content.{Content, IsWithout}
use Rattle.zeb_register.specs.Formats.{Format, holds_in, version_of}
use Rattle.zeb_register.specs.Sql.{Loses, Replaces}
use Rattle.zeb_register.specs.Store.{IsEntryOf, IsOfDatabase, IsStore, TakesDatabase, blocks_tree, databases_tree, dict_tree, entry, meta_tree, postings_tree, records_tree}
use Rattle.zeb_engine.specs.declared.writes.Write.{Write}
use Rattle.zeb_engine.specs.declared.writes.Write.TheVariants as write
use Rattle.zeb_change.specs.declared.refusals.Refusal.{Refusal}
use Rattle.zeb_change.specs.declared.refusals.Refusal.TheVariants.{Damaged, Exists}
use Rattle.zeb_engine.specs.declared.replies.Reply.{Reply}
use Rattle.zeb_engine.specs.declared.replies.Reply.TheVariants.{Done}
use Rattle.zeb_change.specs.RecordChanges.{AreStores}
use Rattle.zeb_change.specs.Refused.{IsFailing, why_of}
use Rattle.zeb_change.specs.Conditions.{Conditions}
use Rattle.zeb_image.specs.Holdings.{under}
use Rattle.zeb_change.specs.Base.{Base}
use Rattle.zeb_image.specs.Image.{AreBases, AreListsOf, HasTexts, IsImage, IsImageOf}
use Rattle.zeb_image.specs.NameOf.{name_bytes}
use Rattle.zeb_image.specs.Rebuilding.{AreReadableLists, AreSound}
use Rattle.zeb_engine.specs.PrivateLooking.{IsAskRefusal, MissesDatabase}
use Rattle.zeb_engine.specs.PrivateNumbers.{PutsRow}
use Rattle.zeb_engine.specs.Reindexing.{CanBeRemade, IsRemade}
use Rattle.zeb_engine.specs.Steps.{holding}

-- these conditions are those of a layout's version and of a profile, whose identifier rule has this pattern
pub record AreOf (version : List ℕ) (profile : List Directive) (pattern : List ℕ) (c : Conditions) : Type 0 where
  pub version_is : c.version ≡ version
  pub profile_is : c.profile ≡ profile
  pub pattern_is : option_map pattern_text (identifier_pattern profile) ≡ Some pattern
  pub sound : ∥ IsProfile profile ∥₁

-- each table but that of the texts is as it was
abbrev pub KeepsBesideTexts : Trees → Trees → Type 0
KeepsBesideTexts old new = (new 2 ≡ old 2) × (new 4 ≡ old 4) × (new 7 ≡ old 7) × (new 9 ≡ old 9) × (new 11 ≡ old 11)

-- the texts are these three, and nothing else is changed
pub record PutsTexts (version text pattern : List ℕ) (old new : State) : Type 0 where
  pub store : IsStore new
  pub texts : HasTexts new.now.trees version text pattern
  pub others : KeepsBesideTexts old.now.trees new.now.trees

-- ---- what an accepted write leaves

-- the image of no database, whatever rows there were
pub record LeavesNoDatabase (format : Format) (profile : List Directive) (pattern : List ℕ) (new : Database) : Type 0 where
  pub store : AreStores new
  pub image : (c : Conditions) → AreOf (version_of format) profile pattern c → IsImage new.trees (holding c [])

-- the row of the name is put, with a last number of 0
abbrev pub MakesRow : (name : List ℕ) → (old new : Database) → Type 0
MakesRow name old new = (id : ℤ) × PutsRow id name 0 old new

-- a database is taken with its records and its rows in the registers, and the postings of all others are held still
pub record TakesRows (format : Format) (db : ℤ) (old new : Database) : Type 0 where
  pub store : AreStores new
  pub databases : TakesDatabase db databases_tree old.trees new.trees
  pub records : Loses (IsOfDatabase db) records_tree old.trees new.trees
  pub postings : Loses (IsOfDatabase db) postings_tree old.trees new.trees
  pub blocks : Loses (IsOfDatabase db) blocks_tree old.trees new.trees
  pub dict : Loses (IsOfDatabase db) dict_tree old.trees new.trees
  pub texts : new.trees meta_tree ≡ old.trees meta_tree
  pub contents : (before after : Content) → holds_in format old.trees before → IsWithout db before after → holds_in format new.trees after

-- the registers are those of the kept records under the profile, and this text is kept under this name
pub record RemakesRows (format : Format) (profile : List Directive) (name text : List ℕ) (old new : Database) : Type 0 where
  pub store : AreStores new
  pub databases : new.trees databases_tree ≡ old.trees databases_tree
  pub records : new.trees records_tree ≡ old.trees records_tree
  pub texts : Replaces (IsEntryOf name) (entry name text) meta_tree old.trees new.trees
  pub image : (bases : List Base) → AreListsOf old.trees bases → AreBases profile bases → IsImageOf format profile new.trees bases

abbrev pub WriteLeaves : Format → Write → (old new : Database) → Type 0
WriteLeaves format (write.Init profile pattern) old new = LeavesNoDatabase format profile.now pattern.now new
WriteLeaves format (write.Create name) old new = MakesRow (name_bytes name.now) old new
WriteLeaves format (write.Drop name id) old new = TakesRows format id.0 old new
WriteLeaves format (write.Reindex alloc profile) old new =
    AreSound profile.now old.trees × RemakesRows format profile.now (codes "profile") (canonical_text profile.now) old new
WriteLeaves format (write.Upgrade alloc profile) old new = RemakesRows format profile.now (codes "version") (version_of format) old new

-- ---- what a write does

-- a row of the lists can't be read, or a record isn't sound under the profile
abbrev pub IsUnsound : List Directive → Trees → Type 0
IsUnsound profile trees = ¬ (AreReadableLists trees × AreSound profile trees)

-- over which tables it meets damage
abbrev pub DamagesWrite : Write → Trees → Type 0
DamagesWrite (write.Init profile pattern) trees = ⊥
DamagesWrite (write.Create name) trees = ⊥
DamagesWrite (write.Drop name id) trees = ⊥
DamagesWrite (write.Reindex alloc profile) trees = IsUnsound profile.now trees
DamagesWrite (write.Upgrade alloc profile) trees = IsUnsound profile.now trees

-- inside its transaction
abbrev pub WriteWorks : Format → Write → (old new : Database) → Result (Unit {0}) RegFault → Type 0
WriteWorks format write old new = Answers (IfDamaged (DamagesWrite write old.trees)) (λ _. WriteLeaves format write old new)

-- as a command
abbrev pub WriteDoes : Format → Write → (old new : Database) → Result Reply Refusal → Type 0
WriteDoes format write old new (Ok told) = (told ≡ Done) × WriteLeaves format write old new
WriteDoes format write old new (Err refusal) = IsFailing (why_of refusal) ⊎ ((refusal ≡ Damaged) × DamagesWrite write old.trees)

-- which refusals there are of a write, whatever the disk does: of an `init` only a failure
abbrev pub IsWriteRefusal : Write → Refusal → Type 0
IsWriteRefusal (write.Init profile pattern) refusal = IsFailing (why_of refusal)
IsWriteRefusal (write.Create name) refusal = IsAskRefusal refusal
IsWriteRefusal (write.Drop name id) refusal = IsAskRefusal refusal
IsWriteRefusal (write.Reindex alloc profile) refusal = IsAskRefusal refusal
IsWriteRefusal (write.Upgrade alloc profile) refusal = IsAskRefusal refusal

-- ---- a create and a drop, which go by the row of the name

-- what a create and a drop do on any tables of a store, by the row of the name
abbrev pub CreatesDatabase : (name : List ℕ) → (old new : Database) → Result Reply Refusal → Type 0
CreatesDatabase name old new (Ok told) = IsDatabaseOf old.trees name None × (told ≡ Done) × MakesRow name old new
CreatesDatabase name old new (Err refusal) =
    IsFailing (why_of refusal)
    ⊎ (((refusal ≡ Exists) × ((found : catalog.Database) × IsDatabaseOf old.trees name (Some found)))
    ⊎ ((refusal ≡ Damaged) × ¬ AreCountedDatabases old.trees name))

abbrev pub DropsNamed : Format → (name : List ℕ) → (old new : Database) → Result Reply Refusal → Type 0
DropsNamed format name old new (Ok told) = (found : catalog.Database) × IsDatabaseOf old.trees name (Some found) × (told ≡ Done) × TakesRows format found.id.0 old new
DropsNamed format name old new (Err refusal) = IsFailing (why_of refusal) ⊎ MissesDatabase old.trees name refusal

-- the register of the databases whose lists are there, once its registers are made anew
abbrev pub HoldsRemade : Format → List Directive → State → State → Type 0
HoldsRemade format profile old new = IsStore old →
    IsStore new × IsRemade format profile old.now.trees new.now.trees
    × ((bases : List Base) → CanBeRemade profile old.now.trees bases → IsImage new.now.trees (under (version_of format) (canonical_text profile) bases))
