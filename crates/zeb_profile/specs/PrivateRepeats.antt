-- What only the contracts of private functions speak of; no public clause reaches it.
-- What is noted of the lines read so far: of each kind of directive that may not stand twice, whether one was read, and
-- the numbers of the use attributes.
use Rattle.std.specs.Prelude.{◌≡◌, ℕ, List, Option, Some, None, Result, if◌then◌else◌}
use Rattle.zeb_profile.specs.Cited.{contains, Directive, Store, Identifier, Att, Melm, All, ProfileFaultKind}
use Rattle.zeb_profile.specs.declared.faults.ProfileFaultKind.TheVariants.{DuplicateUse, TwoIdentifiers, TwoAlls, TwoStores}
use Rattle.std.specs.Ordering.{nat_cmp}
use Rattle.zeb_profile.specs.declared.repeats.Repeats.{Repeats}
use Rattle.zeb_profile.specs.Directives.{directive_of}
use Rattle.zeb_profile.specs.Outcomes.{◌>>=◌}
use Rattle.zeb_profile.specs.Profiles.{clash, first_clash, first_of, unless}

-- the fault of a line that repeats what is noted
abbrev pub noted_clash : Repeats → Directive → Option ProfileFaultKind
noted_clash repeats (Store _) = if repeats.has_store then Some TwoStores else None
noted_clash repeats (Identifier _) = if repeats.has_identifier then Some TwoIdentifiers else None
noted_clash repeats (Att number _) = if contains nat_cmp repeats.uses number then Some DuplicateUse else None
noted_clash repeats (All _) = if repeats.has_all then Some TwoAlls else None
noted_clash repeats (Melm _ _) = None

-- what a line says behind those of which this is noted
abbrev pub directive_beside : Repeats → List ℕ → Result Directive ProfileFaultKind
directive_beside repeats line = directive_of line >>= λ directive. unless (noted_clash repeats directive) directive

-- just what these directives refuse is refused by what is noted
abbrev pub NotesClashes : Repeats → List Directive → Type 0
NotesClashes repeats directives = (directive : Directive) → noted_clash repeats directive ≡ first_clash directives directive

-- a directive is noted beside what was
abbrev pub NotesAlso : Directive → Repeats → Repeats → Type 0
NotesAlso directive old new = (later : Directive) → noted_clash new later ≡ first_of (noted_clash old later) (clash directive later)
