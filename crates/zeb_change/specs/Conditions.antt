-- What a session works under.
use Rattle.std.specs.Prelude.{ℕ, List}
use Rattle.zeb_profile.specs.declared.directives.Directive.{Directive}
use Rattle.zeb_change.specs.declared.settings.Limits.{Limits}

-- the version of its layout of the registers, its profile's directives, and its limits
pub record Conditions : Type 0 where
  pub version : List ℕ
  pub profile : List Directive
  pub limits : Limits

-- a version, directives and limits as what a session works under
abbrev pub conditions : List ℕ → List Directive → Limits → Conditions
conditions version profile limits = record { version = version; profile = profile; limits = limits }
