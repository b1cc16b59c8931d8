-- What only the contracts of private functions speak of; no public clause reaches it.
-- Conditions that are those of a session.
use Rattle.std.specs.Prelude.{◌≡◌}
use Rattle.zeb_profile.specs.Laws.{IsProfile}
use Rattle.zeb_register.specs.Formats.{Format, version_of}
use Rattle.zeb_change.specs.Conditions.{Conditions}

-- these are the conditions of a session: the version is that of its format, and its profile is some text's
pub record AreSessions (format : Format) (c : Conditions) : Type 0 where
  pub version_is : c.version ≡ version_of format
  pub sound : ∥ IsProfile c.profile ∥₁
