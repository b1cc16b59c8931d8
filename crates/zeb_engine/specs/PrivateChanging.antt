-- What only the contracts of private functions speak of; no public clause reaches it.
-- A change of one database by the records of files: what was found out before it began, and what it comes to.
use Rattle.std.specs.Prelude.{◌≡◌, ◌≢◌, ◌⊎◌, ℕ, pos, List, Option, Some, None, Ok}
use Rattle.sqlite.specs.Tree.{Trees}
use Rattle.zeb_register.specs.declared.catalog.Database.{Database}
use Rattle.zeb_register.specs.Catalog.{AreCountedDatabases, IsDatabaseOf}
use Rattle.zeb_register.specs.Store.{HasDatabase}
use Rattle.zeb_change.specs.declared.refusals.Refusal.{Refusal}
use Rattle.zeb_change.specs.declared.refusals.Refusal.TheVariants.{Damaged}
use Rattle.zeb_change.specs.declared.settings.Kind.{Kind}
use Rattle.zeb_change.specs.declared.settings.Kind.TheVariants.{Update}
use Rattle.zeb_change.specs.declared.settings.Setting.{Setting}
use Rattle.zeb_change.specs.Conditions.{Conditions}
use Rattle.zeb_change.specs.Refused.{IsFailing, why_of}
use Rattle.zeb_change.specs.Folding.{splits_of}
use Rattle.zeb_change.specs.UnderWay.{conditions_of}
use Rattle.zeb_image.specs.Holdings.{Holdings, base_named}
use Rattle.zeb_change.specs.Base.{Base}
use Rattle.zeb_engine.specs.Steps.{Outcome, changed_by_files, ready, turned}
use Rattle.zeb_engine.specs.Answers.{no_database}

-- the register is ready, and this is what the tables know of the name: a database, or none, with which only an update begins
abbrev pub MayBeginUnder : Kind → List ℕ → Option Database → Conditions → Trees → Holdings → Type 0
MayBeginUnder kind name None c trees before = (bases : List Base) × (ready c before ≡ Ok bases) × (base_named name bases ≡ None) × (kind ≡ Update)
MayBeginUnder kind name (Some found) c trees before =
    (bases : List Base) × (base : Base) × (ready c before ≡ Ok bases) × (base_named name bases ≡ Some base) × HasDatabase trees found.id.0 base.name (pos base.last) × (found.last ≡ base.last)

-- what a change by these files makes of what is held, by what it works under
abbrev pub comes_to : List ℕ → Setting → List ℕ → List (List ℕ) → Holdings → Outcome
comes_to version setting name texts = turned (conditions_of version setting) (changed_by_files (conditions_of version setting) setting.kind name (splits_of texts))

-- the last number that a change begins with: 0 where there is no database
abbrev pub last_of : Option Database → ℕ
last_of None = 0
last_of (Some found) = found.last

-- no database has the name, and a change of another kind than an update needs it; or its last number is below 0; or the store or the memory
-- failed
abbrev pub IsMissedFor : Kind → Trees → List ℕ → Refusal → Type 0
IsMissedFor kind trees name refusal =
    ((kind ≢ Update) × IsDatabaseOf trees name None × (why_of refusal ≡ no_database name))
    ⊎ (((refusal ≡ Damaged) × ¬ AreCountedDatabases trees name) ⊎ IsFailing (why_of refusal))

-- this is what the tables know of the name: a database, or none, with which only an update begins
abbrev pub BeginsWith : Kind → Trees → List ℕ → Option Database → Type 0
BeginsWith kind trees name None = IsDatabaseOf trees name None × (kind ≡ Update)
BeginsWith kind trees name (Some found) = IsDatabaseOf trees name (Some found)
