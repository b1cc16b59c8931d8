-- A change on its way: what the tables hold when some of its records are taken.
use Rattle.std.specs.Prelude.{◌≡◌, ◌≤◌, ℕ, ℤ, List, if◌then◌else◌}
use Rattle.std.specs.List.{Contains}
use Rattle.std.specs.Ordering.{int_eq}
use Rattle.sqlite.specs.State.{State}
use Rattle.zeb_profile.specs.declared.directives.Directive.{Directive}
use Rattle.zeb_register.specs.Formats.{Format}
use Rattle.zeb_register.specs.Store.{IsStore, meta_tree, databases_tree}
use Rattle.zeb_change.specs.declared.files.Fold.{Fold}
use Rattle.zeb_change.specs.declared.settings.Setting.{Setting}
use Rattle.zeb_change.specs.declared.tally.Fate.{Fate}
use Rattle.zeb_change.specs.Base.{Base, Kept}
use Rattle.zeb_change.specs.Conditions.{Conditions, conditions}
use Rattle.zeb_change.specs.Folding.{Changed, Progress}
use Rattle.zeb_change.specs.Stored.{IsBase, AreStored}

-- what a change works under: this version, and the profile and the limits that it was given
abbrev pub conditions_of : List ℕ → Setting → Conditions
conditions_of version setting = conditions version setting.profile.now setting.limits

-- the records of one database in place of those that it had
abbrev pub with_records : ℤ → List Kept → (ℤ → List Kept) → ℤ → List Kept
with_records id records records_of other = if int_eq other id then records else records_of other

-- each record has a number that a register can give
abbrev pub HaveSystemNumbers : (ℤ → List Kept) → Type 0
HaveSystemNumbers records_of = (id : ℤ) (kept : Kept) → Contains (records_of id) kept → (1 ≤ kept.sysno) × (kept.sysno ≤ 999999999)

-- the database with this id is as given, and each other has the records that it had
abbrev pub IsUnderWay : (format : Format) → List Directive → ℤ → (ℤ → List Kept) → State → Base → Type 0
IsUnderWay format profile id records_of s base =
    IsStore s × AreStored format profile s.now.trees (with_records id base.records records_of) × IsBase profile base × HaveSystemNumbers records_of

-- the texts and the databases are as they were
abbrev pub KeepsNames : State → State → Type 0
KeepsNames old new = (new.now.trees meta_tree ≡ old.now.trees meta_tree) × (new.now.trees databases_tree ≡ old.now.trees databases_tree)

-- one record of a change is taken as the definition says
pub record IsTaken (format : Format) (profile : List Directive) (id : ℤ) (records_of : ℤ → List Kept) (old new : State) (last : ℕ) (changed : Changed) (fate : Fate) : Type 0 where
  pub fate_is : fate ≡ changed.1
  pub last_is : last ≡ changed.0.last
  pub under_way : IsUnderWay format profile id records_of new changed.0
  pub names : KeepsNames old new

-- how far the code has come is how far the definition has
pub record StandsFor (fold : Fold) (p : Progress) : Type 0 where
  pub last : fold.progress.last ≡ p.base.last
  pub taken : fold.tally.records ≡ p.taken
  pub inserted : fold.tally.inserted ≡ p.inserted
  pub updated : fold.tally.updated ≡ p.updated
  pub deleted : fold.tally.deleted ≡ p.deleted

-- some records of a change are folded in as the definition says
pub record IsFolded (format : Format) (profile : List Directive) (id : ℤ) (records_of : ℤ → List Kept) (old new : State) (fold : Fold) (p : Progress) : Type 0 where
  pub stands : StandsFor fold p
  pub under_way : IsUnderWay format profile id records_of new p.base
  pub names : KeepsNames old new
