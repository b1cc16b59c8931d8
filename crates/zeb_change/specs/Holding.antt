-- Tables that hold a database on its way, whichever it is: what a change needs to know to tell damage, where nothing is known of the
-- records that were read.
use Rattle.std.specs.Prelude.{◌≡◌, ℕ, ℤ, List}
use Rattle.sqlite.specs.State.{State}
use Rattle.zeb_profile.specs.declared.directives.Directive.{Directive}
use Rattle.zeb_register.specs.Formats.{Format}
use Rattle.zeb_change.specs.Base.{Base, Kept}
use Rattle.zeb_change.specs.UnderWay.{IsUnderWay}

-- the database with this id is some database, which has given this number last, and each other has the records that it had
abbrev pub HoldsSome : (format : Format) → List Directive → ℤ → (ℤ → List Kept) → State → ℕ → Type 0
HoldsSome format profile id records_of s last = (base : Base) × (last ≡ base.last) × IsUnderWay format profile id records_of s base
