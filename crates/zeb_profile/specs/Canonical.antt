-- The canonical text of a profile: each directive but `store`, in order, on a line of its own, with one space between
-- words, registers written, names as their line spells them and numbers without leading zeros (this project's own).
use Rattle.std.specs.Prelude.{ℕ, List, [], ◌∷◌, ◌++◌, codes, map, Option, Some, None, encode_utf8_all, flat_map, decimal}
use Rattle.zeb_profile.specs.Cited.{join_with_byte, Directive, Store, Identifier, Att, Melm, All, Target, UnitPattern, register_text}

abbrev pub code_text : Option ℕ → List ℕ
code_text None = []
code_text (Some code) = codes "$" ++ encode_utf8_all (code ∷ [])

-- a pattern of units, a tag with or without a code, as a profile spells it
abbrev pub pattern_text : UnitPattern → List ℕ
pattern_text pattern = encode_utf8_all pattern.tag ++ code_text pattern.code

abbrev pub target_text : Target → List ℕ
target_text target = target.name ++ codes ":" ++ register_text target.register

-- the targets with commas (44) between
abbrev pub targets_text : List Target → List ℕ
targets_text targets = join_with_byte 44 (map target_text targets)

abbrev pub canonical_line : Directive → List ℕ
canonical_line (Store path) = []
canonical_line (Identifier pattern) = codes "identifier " ++ pattern_text pattern ++ codes "\n"
canonical_line (Att number name) = codes "att " ++ decimal number ++ codes " " ++ name ++ codes "\n"
canonical_line (Melm pattern targets) = codes "melm " ++ pattern_text pattern ++ codes " " ++ targets_text targets ++ codes "\n"
canonical_line (All targets) = codes "all " ++ targets_text targets ++ codes "\n"

-- each directive but `store` on a line, one space between words, registers written, numbers without leading zeros
abbrev pub canonical_text : List Directive → List ℕ
canonical_text directives = flat_map canonical_line directives
