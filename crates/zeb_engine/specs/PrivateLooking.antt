-- What only the contracts of private functions speak of; no public clause reaches it.
-- Looks at the texts of a store, and for one of its databases: what each finds, and over which tables it is refused.
use Rattle.std.specs.Prelude.{◌≡◌, ◌⊎◌, ℕ, List, MatchResult, false, Option, Some, None, Result, Ok, Err, OnOk, IfErr, IsTrue, codes}
use Rattle.sqlite.specs.Tree.{Trees}
use Rattle.sqlite.specs.State.{State}
use Rattle.zeb_profile.specs.Canonical.{canonical_text}
use Rattle.zeb_profile.specs.declared.directives.Directive.{Directive}
use Rattle.zeb_register.specs.declared.catalog.Database.{Database}
use Rattle.zeb_register.specs.Calls.{ChangesNothing}
use Rattle.zeb_register.specs.Catalog.{AreCountedDatabases, IsDatabaseOf}
use Rattle.zeb_register.specs.Formats.{packed_blocks, plain_rows, version_of}
use Rattle.zeb_register.specs.Store.{IsStore, AreReadableTexts}
use Rattle.zeb_change.specs.declared.refusals.Refusal.{Refusal}
use Rattle.zeb_change.specs.declared.refusals.Refusal.TheVariants.{NotInitialised, OldFormat, ProfileChanged, Diagnostic, Exists, Damaged, Store, Memory}
use Rattle.zeb_change.specs.Refused.{IsFailing, why_of}
use Rattle.zeb_engine.specs.declared.looks.Earlier.{Earlier}
use Rattle.zeb_engine.specs.declared.looks.Earlier.TheVariants.{First, Second}
use Rattle.zeb_engine.specs.declared.looks.Standing.{Standing}
use Rattle.zeb_engine.specs.declared.looks.Standing.TheVariants.{Before, Upgraded}
use Rattle.zeb_engine.specs.Adopting.{StaysOpen}
use Rattle.zeb_engine.specs.Answers.{IsFailure, refused, no_database}
use Rattle.zeb_engine.specs.Causes.{HasStoreCause}
use Rattle.zeb_engine.specs.Readiness.{HidesText, IsReadyFor, KeepsText}
use Rattle.zeb_engine.specs.Versions.{is_earlier, is_taken}

-- what a look did to the connection, and what it found on the tables of a store
pub record IsLook {T : Type 0} (Finds : Trees → T → Type 0) (Refuses : Trees → Refusal → Type 0) (old new : State) (result : Result T Refusal) : Type 0 where
  pub same : ChangesNothing old new
  pub found : OnOk result (StaysOpen old new)
  pub seen : IfErr result (λ refusal. IsFailure (refused (why_of refusal)) ⊎ IsTrue old.is_open)
  pub caused : HasStoreCause old new result
  pub told : IsStore old → MatchResult result (Finds old.now.trees) (Refuses old.now.trees)

-- over which tables the version isn't told
abbrev pub RefusesVersion : Trees → Refusal → Type 0
RefusesVersion trees NotInitialised = (text : List ℕ) → ¬ KeepsText trees (codes "version") text
RefusesVersion trees Damaged = ¬ AreReadableTexts trees (codes "version")
RefusesVersion trees Store = Unit {0}
RefusesVersion trees Memory = Unit {0}
RefusesVersion trees other = ⊥

-- Over which texts a look whether the register is ready is refused so. Each case leaves no other, but a failure of the store or of memory.
abbrev pub RefusesTexts : List ℕ → List Directive → Trees → Refusal → Type 0
RefusesTexts version profile trees NotInitialised = (text : List ℕ) → ¬ KeepsText trees (codes "version") text
RefusesTexts version profile trees OldFormat =
    ((text : List ℕ) × KeepsText trees (codes "version") text) × (¬ KeepsText trees (codes "version") version)
    × AreReadableTexts trees (codes "version")
RefusesTexts version profile trees ProfileChanged =
    KeepsText trees (codes "version") version × (¬ KeepsText trees (codes "profile") (canonical_text profile))
    × AreReadableTexts trees (codes "profile")
RefusesTexts version profile trees Damaged = HidesText version (codes "profile") trees
RefusesTexts version profile trees Store = Unit {0}
RefusesTexts version profile trees Memory = Unit {0}
RefusesTexts version profile trees other = ⊥

-- the version of an earlier layout
abbrev pub earlier_version : Earlier → List ℕ
earlier_version First = version_of plain_rows
earlier_version Second = version_of packed_blocks

-- where a register of this version stands, or none
abbrev pub TellsStanding : List ℕ → List ℕ → Option Standing → Type 0
TellsStanding own version (Some Upgraded) = version ≡ own
TellsStanding own version (Some (Before earlier)) = (version ≡ earlier_version earlier) × IsTrue (is_earlier version own)
TellsStanding own version None = is_taken version own ≡ false

-- where a register stands that may be upgraded
abbrev pub FindsStanding : List ℕ → List Directive → Trees → Standing → Type 0
FindsStanding version profile trees Upgraded = IsReadyFor version profile trees
FindsStanding version profile trees (Before earlier) =
    IsReadyFor (earlier_version earlier) profile trees × IsTrue (is_earlier (earlier_version earlier) version)

-- a look whether a register is ready refuses nothing else
abbrev pub IsUnready : Refusal → Type 0
IsUnready NotInitialised = Unit {0}
IsUnready OldFormat = Unit {0}
IsUnready ProfileChanged = Unit {0}
IsUnready Damaged = Unit {0}
IsUnready Store = Unit {0}
IsUnready Memory = Unit {0}
IsUnready other = ⊥

-- what goes by the name of a database, on a register that is ready, refuses nothing else
abbrev pub IsAskRefusal : Refusal → Type 0
IsAskRefusal Exists = Unit {0}
IsAskRefusal (Diagnostic number place addinfo) = Unit {0}
IsAskRefusal Damaged = Unit {0}
IsAskRefusal Store = Unit {0}
IsAskRefusal Memory = Unit {0}
IsAskRefusal other = ⊥

-- over which tables the database of a name isn't found: none has the name, or its last number is below 0
abbrev pub MissesDatabase : Trees → List ℕ → Refusal → Type 0
MissesDatabase trees name refusal =
    (IsDatabaseOf trees name None × (why_of refusal ≡ no_database name)) ⊎ ((refusal ≡ Damaged) × (¬ AreCountedDatabases trees name))

-- the row of the database of this name, or why it isn't found
abbrev pub FindsNamed : (name : List ℕ) → Trees → Result Database Refusal → Type 0
FindsNamed name trees (Ok found) = IsDatabaseOf trees name (Some found)
FindsNamed name trees (Err refusal) = IsFailing (why_of refusal) ⊎ MissesDatabase trees name refusal
