-- What has to hold of the lists of a store for its registers to be made anew under a profile, and what comes of that.
use Rattle.std.specs.Prelude.{◌≡◌, ◌≤◌, ℕ, ℤ, pos, List, Result, Err, OnOk}
use Rattle.sqlite.specs.State.{State}
use Rattle.sqlite.specs.Tree.{Trees}
use Rattle.zeb_profile.specs.declared.directives.Directive.{Directive}
use Rattle.zeb_register.specs.Catalog.{AreReadableDatabases}
use Rattle.zeb_register.specs.Formats.{Format}
use Rattle.zeb_register.specs.Kept.{AreReadable}
use Rattle.zeb_register.specs.Store.{HasDatabase, HasRecord, IsStore, KeepsLists}
use Rattle.zeb_register.specs.declared.RegFault.{RegFault}
use Rattle.zeb_register.specs.declared.RegFault.TheVariants.{Damaged}
use Rattle.zeb_change.specs.Base.{Base, Kept}
use Rattle.zeb_change.specs.Stored.{IsKept}
use Rattle.zeb_image.specs.Image.{AreBases, AreListsOf, IsImageOf}

-- a record of ISO 2709, kept under the identifier that the profile finds in it and under a number that a register can give
pub record IsSound (profile : List Directive) (kept : Kept) : Type 0 where
  pub record_is : IsKept profile kept
  pub number : (1 ≤ kept.sysno) × (kept.sysno ≤ 999999999)

-- the records of the database are such, as far as their numbers aren't below 0
abbrev pub AreSoundIn : List Directive → Trees → ℤ → Type 0
AreSoundIn profile trees id = (n : ℕ) (ident bytes : List ℕ) → HasRecord trees id (pos n) ident bytes
    → IsSound profile (record { sysno = n; ident = ident; bytes = bytes })

-- the records of every listed database are such
abbrev pub AreSound : List Directive → Trees → Type 0
AreSound profile trees = (id : ℤ) (name : List ℕ) (last : ℤ) → HasDatabase trees id name last → AreSoundIn profile trees id

-- the lists of databases and of their records can be read: no number is below 0, and each text is UTF-8
pub record AreReadableLists (trees : Trees) : Type 0 where
  pub databases : AreReadableDatabases trees
  pub records : (id : ℤ) (name : List ℕ) (last : ℤ) → HasDatabase trees id name last → AreReadable trees id

-- Registers are made anew under a profile. Accepted, the lists are as they were, and each of their records is sound; where they are those of
-- databases that can be held under the profile, the tables are the image of these. Damage is told only where a record isn't sound or a row of
-- the lists can't be read, and so never of such databases.
pub record Rebuilds (format : Format) (profile : List Directive) (old new : State) (result : Result (Unit {0}) RegFault) : Type 0 where
  pub built : OnOk result (IsStore new × KeepsLists old.now.trees new.now.trees
      × ((bases : List Base) → AreListsOf old.now.trees bases → AreBases profile bases → IsImageOf format profile new.now.trees bases))
  pub checked : OnOk result (AreSound profile old.now.trees)
  pub damaged : result ≡ Err Damaged → AreReadableLists old.now.trees → ¬ AreSound profile old.now.trees
  pub honest : result ≡ Err Damaged → (bases : List Base) → AreListsOf old.now.trees bases → ¬ AreBases profile bases
