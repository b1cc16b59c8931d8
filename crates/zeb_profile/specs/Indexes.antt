-- Zebra manual, "The Abstract Syntax (.abs) Files" and "The Attribute Set (.att) Files": what the directives `att` and `melm` say of indexes and of units.
-- Own rules of this project, which the manual leaves open or has otherwise: which indexes there are, their order and their spelling; that
-- `all` adds to every unit of a data field what its `melm` line lacks, so that a unit has each target once; and what `store` and
-- `identifier` say.
use Rattle.std.specs.Prelude.{ℕ, Bool, true, false, not, ◌&&◌, List, [], ◌∷◌, ◌++◌, ◌==◌, map, filter, Option, Some, None, unwrap_or, if◌then◌else◌, find, flat_map, position, option_and_then, bytes_eq}
use Rattle.zeb_profile.specs.Cited.{list_any, position_or_len, option_or, is_control, Directive, Store, Identifier, Att, Melm, All, Target, UnitPattern}
use Rattle.zeb_keys.specs.declared.registers.Register.{Register}
use Rattle.zeb_profile.specs.Profiles.{targets_in, all_targets}
use Rattle.zeb_profile.specs.Words.{same_name, same_register, target_names}

abbrev pub names_in : Directive → List (List ℕ)
names_in (Att number name) = name ∷ []
names_in directive = map (λ target. target.name) (targets_in directive)

-- a name as the first line that has it spells it
abbrev pub first_spelling : List Directive → List ℕ → List ℕ
first_spelling directives name = unwrap_or (find (same_name name) (flat_map names_in directives)) name

-- the indexes are the names of targets, numbered from 0 in the order in which they first come
abbrev pub index_names : List Directive → List (List ℕ)
index_names directives = map (first_spelling directives) (target_names (all_targets directives))

-- the number of the index of this name, without regard to the case of ASCII letters, if there is one
abbrev pub index_by_name : List Directive → List ℕ → Option ℕ
index_by_name directives name = position (same_name name) (index_names directives)

-- what the first directive tells of those that tell anything
abbrev pub first_told : {A : Type 0} → (Directive → Option A) → List Directive → Option A
first_told told [] = None
first_told told (directive ∷ others) = option_or (told directive) (first_told told others)

-- the name that a use attribute is tied to
abbrev pub name_told : ℕ → Directive → Option (List ℕ)
name_told number (Att tied name) = if tied == number then Some name else None
name_told number _ = None

abbrev pub use_name : ℕ → List Directive → Option (List ℕ)
use_name number directives = first_told (name_told number) directives

-- the number of the index which an `att` line ties to a use attribute
abbrev pub index_by_use : List Directive → ℕ → Option ℕ
index_by_use directives number = option_and_then (index_by_name directives) (use_name number directives)

-- a target as the number of its index among names, and its register
abbrev pub pair_of : List (List ℕ) → Target → ℕ × Register
pair_of names target = (position_or_len (same_name target.name) names, target.register)

abbrev pub same_pair : ℕ × Register → ℕ × Register → Bool
same_pair one other = (one.0 == other.0) && same_register one.1 other.1

abbrev pub all_pairs : List Directive → List (ℕ × Register)
all_pairs directives = map (pair_of (index_names directives)) (all_targets directives)

-- some line has this index and register as a target
abbrev pub has_pair : List Directive → ℕ × Register → Bool
has_pair directives pair = list_any (same_pair pair) (all_pairs directives)

-- a pattern without a code fits each unit, another one a unit that has its code
abbrev pub code_fits : Option ℕ → Option ℕ → Bool
code_fits None code = true
code_fits (Some wanted) None = false
code_fits (Some wanted) (Some found) = wanted == found

-- a pattern fits a unit that has its tag and, where the pattern has a code, that code
abbrev pub fits : UnitPattern → List ℕ → Option ℕ → Bool
fits pattern tag code = bytes_eq pattern.tag tag && code_fits pattern.code code

-- the targets of the first `melm` line that fits
abbrev pub melm_told : List ℕ → Option ℕ → Directive → Option (List Target)
melm_told tag code (Melm pattern targets) = if fits pattern tag code then Some targets else None
melm_told tag code _ = None

abbrev pub melm_targets : List ℕ → Option ℕ → List Directive → List Target
melm_targets tag code directives = unwrap_or (first_told (melm_told tag code) directives) []

-- the targets of the `all` line
abbrev pub all_told : Directive → Option (List Target)
all_told (All targets) = Some targets
all_told _ = None

abbrev pub all_line_targets : List Directive → List Target
all_line_targets directives = unwrap_or (first_told all_told directives) []

-- the pairs of the second list that the first lacks
abbrev pub further_pairs : List (ℕ × Register) → List (ℕ × Register) → List (ℕ × Register)
further_pairs first second = filter (λ pair. not (list_any (same_pair pair) first)) second

-- the targets of a unit: those of the first `melm` line that fits, and for a data field those of `all` that are not among them
abbrev pub unit_targets : List Directive → List ℕ → Option ℕ → List (ℕ × Register)
unit_targets directives tag code =
    let pair = pair_of (index_names directives) in
    let first = map pair (melm_targets tag code directives) in
    let further = map pair (if is_control tag then [] else all_line_targets directives) in
    first ++ further_pairs first further

-- the pattern that one directive tells: that of an `identifier` line
abbrev pub identifier_told : Directive → Option UnitPattern
identifier_told (Identifier pattern) = Some pattern
identifier_told _ = None

-- the pattern of the `identifier` line
abbrev pub identifier_pattern : List Directive → Option UnitPattern
identifier_pattern directives = first_told identifier_told directives

-- the path that one directive tells: that of a `store` line
abbrev pub path_told : Directive → Option (List ℕ)
path_told (Store path) = Some path
path_told _ = None

-- the path of the `store` line
abbrev pub store_path : List Directive → Option (List ℕ)
store_path directives = first_told path_told directives
