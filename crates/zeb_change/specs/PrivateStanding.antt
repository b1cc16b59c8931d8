-- What only the contracts of private functions speak of; no public clause reaches it.
-- A change on its way, of which some keys are noted and not yet written.
use Rattle.std.specs.Prelude.{◌≡◌, ℕ, ℤ, List}
use Rattle.sqlite.specs.State.{State}
use Rattle.zeb_profile.specs.declared.directives.Directive.{Directive}
use Rattle.zeb_register.specs.Content.{Content}
use Rattle.zeb_register.specs.Formats.{Format}
use Rattle.zeb_register.specs.Store.{IsStore}
use Rattle.zeb_change.specs.declared.files.Fold.{Fold}
use Rattle.zeb_change.specs.declared.pending.Pending.{Pending}
use Rattle.zeb_change.specs.declared.tally.Fate.{Fate}
use Rattle.zeb_change.specs.Base.{Base, Kept}
use Rattle.zeb_change.specs.Folding.{Changed, Progress}
use Rattle.zeb_change.specs.Stored.{AreKept, ArePosted, IsBase}
use Rattle.zeb_change.specs.UnderWay.{HaveSystemNumbers, KeepsNames, StandsFor, with_records}
use Rattle.zeb_change.specs.Noted.{WillHold}

-- the tables, and the changes of keys that are noted beside them
pub record Standing : Type 1 where
  pub tables : State
  pub pending : Pending

abbrev pub standing : State → Pending → Standing
standing tables pending = record { tables = tables; pending = pending }

-- as `AreStored`, once the noted changes are written
pub record WillStore (format : Format) (profile : List Directive) (id : ℤ) (s : Standing) (records_of : ℤ → List Kept) : Type 0 where
  pub kept : AreKept s.tables.now.trees records_of
  pub content : Content
  pub held : WillHold format s.tables.now.trees id s.pending content
  pub posted : ArePosted profile records_of content

-- as `IsUnderWay`, once the noted changes are written
abbrev pub WillBe : (format : Format) → List Directive → ℤ → (ℤ → List Kept) → Standing → Base → Type 0
WillBe format profile id records_of s base =
    IsStore s.tables × WillStore format profile id s (with_records id base.records records_of) × IsBase profile base × HaveSystemNumbers records_of

-- as `IsTaken`, once the noted changes are written
pub record WillBeTaken (format : Format) (profile : List Directive) (id : ℤ) (records_of : ℤ → List Kept) (old new : Standing) (last : ℕ) (changed : Changed) (fate : Fate) : Type 0 where
  pub fate_is : fate ≡ changed.1
  pub last_is : last ≡ changed.0.last
  pub under_way : WillBe format profile id records_of new changed.0
  pub names : KeepsNames old.tables new.tables

-- as `IsFolded`, once the noted changes are written
pub record WillBeFolded (format : Format) (profile : List Directive) (id : ℤ) (records_of : ℤ → List Kept) (old new : Standing) (fold : Fold) (p : Progress) : Type 0 where
  pub stands : StandsFor fold p
  pub under_way : WillBe format profile id records_of new p.base
  pub names : KeepsNames old.tables new.tables
