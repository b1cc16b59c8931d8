-- What a session works under, told of the session.
use Rattle.std.specs.Prelude.{◌≡◌}
use Rattle.sqlite_trees.specs.declared.store.Store as store
use Rattle.zeb_change.specs.Conditions.{Conditions, conditions}
use Rattle.zeb_engine.specs.declared.registers.Session.{Session}
use Rattle.zeb_register.specs.Formats.{Format, version_of}
use Rattle.zeb_register.specs.declared.registers.Layout as layout

module _ {S L : Type 0} {s : store.Ghosts S} {l : layout.Ghosts L} where
  -- the conditions of a session whose registers are in this format
  abbrev pub conditions_in : Format → Session S L s l → Conditions
  conditions_in format session = conditions (version_of format) session.profile session.limits

  -- a session stays under its profile and its limits
  abbrev pub KeepsConditions : (old new : Session S L s l) → Type 0
  KeepsConditions old new = (new.profile ≡ old.profile) × (new.limits ≡ old.limits)
