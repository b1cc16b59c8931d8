-- Zebra manual, "The Abstract Syntax (.abs) Files" and "The Attribute Set (.att) Files": a whole profile. Its directives, or the fault of its first faulty line.
-- Own rules of this project: all that is refused here, its faults and their order. A line's own fault comes before what it repeats, and
-- both before what all lines together lack; a use attribute is tied once, to an index that some line fills; `identifier` and `store`
-- stand just once, and `all` at most once; indexes are at most as many as 32 bits count.
use Rattle.std.specs.Prelude.{ℕ, Bool, true, false, not, List, [], ◌∷◌, ◌++◌, ◌==◌, ◌-◌, ◌^◌, nat_le, length, map, filter, Option, Some, None, Result, Ok, Err, if◌then◌else◌, find, flat_map}
use Rattle.zeb_profile.specs.Cited.{list_any, enumerate_from, Directive, Store, Identifier, Att, Melm, All, Target, ProfileFault, ProfileFaultKind}
use Rattle.zeb_profile.specs.declared.faults.ProfileFaultKind.TheVariants.{DuplicateUse, UnknownIndex, NoIdentifier, TwoIdentifiers, TwoAlls, TwoStores, NoStore, TooManyIndexes}
use Rattle.std.specs.Str.Lines.{lines}
use Rattle.zeb_profile.specs.declared.directives.Placed.{Placed}
use Rattle.zeb_profile.specs.Directives.{directive_of}
use Rattle.zeb_profile.specs.Lines.{trimmed, says_something}
use Rattle.zeb_profile.specs.Outcomes.{◌>>=◌}
use Rattle.zeb_profile.specs.Words.{same_name, target_names}

-- the lines that say something, each with its number, without the blanks at its ends
abbrev pub telling_lines : List ℕ → List (ℕ × List ℕ)
telling_lines text = filter (λ line. says_something line.1) (enumerate_from 1 (map trimmed (lines text)))

-- the fault of a line that may not stand behind an earlier one
abbrev pub clash : Directive → Directive → Option ProfileFaultKind
clash (Store _) (Store _) = Some TwoStores
clash (Identifier _) (Identifier _) = Some TwoIdentifiers
clash (Att one _) (Att other _) = if one == other then Some DuplicateUse else None
clash (All _) (All _) = Some TwoAlls
clash _ _ = None

abbrev pub first_of : Option ProfileFaultKind → Option ProfileFaultKind → Option ProfileFaultKind
first_of (Some kind) later = Some kind
first_of None later = later

-- the fault of a line that repeats what may stand once
abbrev pub first_clash : List Directive → Directive → Option ProfileFaultKind
first_clash [] directive = None
first_clash (earlier ∷ others) directive = first_of (clash earlier directive) (first_clash others directive)

-- the value, or the fault where there is one
abbrev pub unless : {A E : Type 0} → Option E → A → Result A E
unless None value = Ok value
unless (Some fault) value = Err fault

-- what a line says behind those before it: its own fault comes first, and then what it repeats
abbrev pub directive_after : List Directive → List ℕ → Result Directive ProfileFaultKind
directive_after earlier line = directive_of line >>= λ directive. unless (first_clash earlier directive) directive

abbrev pub at_line : {A : Type 0} → ℕ → Result A ProfileFaultKind → Result A ProfileFault
at_line number (Ok value) = Ok value
at_line number (Err kind) = Err (record { line = number; kind = kind })

abbrev pub directives_in : List Placed → List Directive
directives_in placed = map (λ line. line.directive) placed

-- the lines behind `earlier`, one after another up to the first that is faulty
abbrev pub placed_after : List Placed → List (ℕ × List ℕ) → Result (List Placed) ProfileFault
placed_after earlier [] = Ok earlier
placed_after earlier (line ∷ lines) =
    at_line line.0 (directive_after (directives_in earlier) line.1)
    >>= λ directive. placed_after (earlier ++ record { line = line.0; directive = directive } ∷ []) lines

abbrev pub placed_lines : List ℕ → Result (List Placed) ProfileFault
placed_lines text = placed_after [] (telling_lines text)

-- the targets that a line names
abbrev pub targets_in : Directive → List Target
targets_in (Melm pattern targets) = targets
targets_in (All targets) = targets
targets_in _ = []

abbrev pub all_targets : List Directive → List Target
all_targets directives = flat_map targets_in directives

abbrev pub ties_unknown : List Directive → Directive → Bool
ties_unknown directives (Att number name) = not (list_any (λ target. same_name name target.name) (all_targets directives))
ties_unknown directives _ = false

abbrev pub is_identifier : Directive → Bool
is_identifier (Identifier _) = true
is_identifier _ = false

abbrev pub is_store : Directive → Bool
is_store (Store _) = true
is_store _ = false

-- the most indexes that a profile has, since they are counted with 32 bits
abbrev pub most_indexes : ℕ
most_indexes = 2 ^ 32 - 1

-- whether directives have at most 2^32 - 1 indexes
abbrev pub has_room : List Directive → Bool
has_room directives = nat_le (length (target_names (all_targets directives))) most_indexes

-- what all lines together lack, and last room for all of their indexes
abbrev pub first_lack : Option Placed → Bool → Bool → Bool → Option ProfileFault
first_lack (Some line) identified stored roomy = Some (record { line = line.line; kind = UnknownIndex })
first_lack None false stored roomy = Some (record { line = 0; kind = NoIdentifier })
first_lack None true false roomy = Some (record { line = 0; kind = NoStore })
first_lack None true true false = Some (record { line = 0; kind = TooManyIndexes })
first_lack None true true true = None

-- the first thing that all lines together lack: an index that an `att` line ties, the identifier, the store, and last
-- room for their indexes
abbrev pub lack_of : List Placed → Option ProfileFault
lack_of placed = let directives = directives_in placed in
    first_lack (find (λ line. ties_unknown directives line.directive) placed) (list_any (λ line. is_identifier line.directive) placed) (list_any (λ line. is_store line.directive) placed)
    (has_room directives)

-- the directives of a text, or the fault of its first faulty line, or what all lines together lack
abbrev pub profile_of : List ℕ → Result (List Directive) ProfileFault
profile_of text = do
  placed ← placed_lines text
  unless (lack_of placed) (directives_in placed)
