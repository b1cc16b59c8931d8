-- The identifier of a record, by the Zebra manual ("recordId"): the text of the unit that the profile's identifier rule
-- names. Of the units that the rule fits the first counts. Its bytes are read as UTF-8, with U+FFFD where they are not
-- (The Unicode Standard, section 3.9), and U+0020 is taken off both ends; what is left has to be 1 to 255 bytes, without
-- a control character (General_Category Cc, section 4.5).
-- This project's own rules: that the first unit counts, also where nothing is left of its text; that the bytes are read as
-- UTF-8, whatever the leader says of them; what is taken off the ends, what is refused as bad, and the two faults.
use Rattle.std.specs.Prelude.{ℕ, Bool, ◌||◌, List, [], ◌∷◌, length, reverse, Option, None, Some, Result, Ok, Err, ◌==◌, nat_lt, if◌then◌else◌, chars, find, option_and_then}
use Rattle.zeb_extract.specs.Cited.{list_any, utf8_lossy, UnitText, IdentFault, NoIdentifier, BadIdentifier}
use Rattle.std.specs.Char.{is_control}
use Rattle.zeb_profile.specs.declared.directives.Directive.{Directive}
use Rattle.zeb_profile.specs.declared.patterns.UnitPattern.{UnitPattern}
use Rattle.zeb_profile.specs.Indexes.{fits, identifier_pattern}

abbrev pub without_leading_spaces : List ℕ → List ℕ
without_leading_spaces [] = []
without_leading_spaces (byte ∷ bytes) = if byte == 32 then without_leading_spaces bytes else byte ∷ bytes

abbrev pub without_trailing_spaces : List ℕ → List ℕ
without_trailing_spaces bytes = reverse (without_leading_spaces (reverse bytes))

-- a text without the spaces (U+0020) at its ends
abbrev pub without_spaces : List ℕ → List ℕ
without_spaces bytes = without_trailing_spaces (without_leading_spaces bytes)

abbrev pub has_control : List ℕ → Bool
has_control bytes = list_any is_control (chars bytes)

-- more than 255 bytes, or a control character
abbrev pub is_bad : List ℕ → Bool
is_bad bytes = nat_lt 255 (length bytes) || has_control bytes

-- the identifier that a text without spaces at its ends is, or why it is none
abbrev pub checked : List ℕ → Result (List ℕ) IdentFault
checked bytes = if length bytes == 0 then Err NoIdentifier else (if is_bad bytes then Err BadIdentifier else Ok bytes)

-- the identifier that a unit's bytes hold
abbrev pub identifier_in : List ℕ → Result (List ℕ) IdentFault
identifier_in bytes = checked (without_spaces (utf8_lossy bytes))

-- the identifier that this unit holds, if there is one
abbrev pub held_in : Option UnitText → Result (List ℕ) IdentFault
held_in None = Err NoIdentifier
held_in (Some unit) = identifier_in unit.text

-- the first unit that a pattern fits
abbrev pub first_fitting : UnitPattern → List UnitText → Option UnitText
first_fitting pattern units = find (λ unit. fits pattern unit.tag unit.code) units

-- the text of the first unit that the identifier's rule fits, read as UTF-8 and without spaces at its ends, or why
-- there is no identifier
abbrev pub identifier_of : List Directive → List UnitText → Result (List ℕ) IdentFault
identifier_of directives units = held_in (option_and_then (λ pattern. first_fitting pattern units) (identifier_pattern directives))
