-- One record more in a tally.
use Rattle.std.specs.Prelude.{◌≡◌, ◌+◌}
use Rattle.zeb_change.specs.declared.tally.Fate.{Fate}
use Rattle.zeb_change.specs.declared.tally.Fate.TheVariants.{Inserted, Updated, Deleted, PassedOver}
use Rattle.zeb_change.specs.declared.tally.Tally.{Tally}

-- one record more is counted, and what became of it
abbrev pub IsTallied : Fate → Tally → Tally → Type 0
IsTallied Inserted old new = (new.records ≡ old.records + 1) × (new.inserted ≡ old.inserted + 1) × (new.updated ≡ old.updated) × (new.deleted ≡ old.deleted)
IsTallied Updated old new = (new.records ≡ old.records + 1) × (new.inserted ≡ old.inserted) × (new.updated ≡ old.updated + 1) × (new.deleted ≡ old.deleted)
IsTallied Deleted old new = (new.records ≡ old.records + 1) × (new.inserted ≡ old.inserted) × (new.updated ≡ old.updated) × (new.deleted ≡ old.deleted + 1)
IsTallied PassedOver old new = (new.records ≡ old.records + 1) × (new.inserted ≡ old.inserted) × (new.updated ≡ old.updated) × (new.deleted ≡ old.deleted)
