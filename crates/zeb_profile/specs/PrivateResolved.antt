-- What only the contracts of private functions speak of; no public clause reaches it.
-- The lines of a profile with their targets as pairs of an index's number and a register.
use Rattle.std.specs.Prelude.{ℕ, Bool, true, false, List, [], ◌∷◌, ◌++◌, map, Option, if◌then◌else◌}
use Rattle.zeb_profile.specs.Cited.{list_any, Directive, All, Melm, is_control}
use Rattle.zeb_keys.specs.declared.registers.Register.{Register}
use Rattle.zeb_profile.specs.declared.resolved.Line.{Line}
use Rattle.zeb_profile.specs.Indexes.{fits, further_pairs, pair_of, same_pair}
use Rattle.zeb_profile.specs.Profiles.{targets_in}

abbrev pub line_value : Line → Directive × List (ℕ × Register)
line_value line = (line.directive, line.pairs.items)

-- a directive with its targets by their numbers among these names
abbrev pub resolved : List (List ℕ) → Directive → Directive × List (ℕ × Register)
resolved names directive = (directive, map (pair_of names) (targets_in directive))

abbrev pub directives_on : List Line → List Directive
directives_on lines = map (λ line. line.directive) lines

-- a `melm` line that fits the unit
abbrev pub is_melm_for : List ℕ → Option ℕ → Directive → Bool
is_melm_for tag code (Melm pattern targets) = fits pattern tag code
is_melm_for tag code _ = false

abbrev pub is_all : Directive → Bool
is_all (All targets) = true
is_all _ = false

-- the pairs of the first line whose directive passes
abbrev pub first_pairs : (Directive → Bool) → List Line → List (ℕ × Register)
first_pairs passes [] = []
first_pairs passes (line ∷ lines) = if passes line.directive then line.pairs.items else first_pairs passes lines

-- the pairs of a unit: those of the first `melm` line that fits, and for a data field those of `all` that are not among them
abbrev pub unit_pairs : List ℕ → Option ℕ → List Line → List (ℕ × Register)
unit_pairs tag code lines =
    let first = first_pairs (is_melm_for tag code) lines in
    first ++ further_pairs first (if is_control tag then [] else first_pairs is_all lines)

abbrev pub any_pair : ℕ × Register → List Line → Bool
any_pair pair lines = list_any (λ line. list_any (same_pair pair) line.pairs.items) lines
