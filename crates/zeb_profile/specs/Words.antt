-- Zebra manual, "The Abstract Syntax (.abs) Files", `melm` and `all`, and "The Attribute Set (.att) Files", `att`: what the words of a directive mean.
-- Own rules of this project, which the manual leaves open or has otherwise: which bytes a tag, a code and a name have; that a name has at
-- most 64 bytes, and a use number at most nine digits and isn't 0; that names are compared without regard to the case of ASCII letters;
-- that the registers are these three; that a line has each target once; and which fault a word has.
use Rattle.std.specs.Prelude.{ℕ, Bool, true, false, ◌&&◌, ◌||◌, not, List, [], ◌∷◌, ◌++◌, length, map, filter, ◌==◌, nat_lt, nat_le, codes, Some, None, Result, Ok, Err, if◌then◌else◌, bytes_eq}
use Rattle.zeb_profile.specs.Cited.{list_all, list_any, slice_split, before_first, after_first, position_or_len, str_eq_ignore_ascii_case, Target, ProfileFaultKind, UnitPattern}
use Rattle.zeb_profile.specs.declared.faults.ProfileFaultKind.TheVariants.{Directive as FaultyDirective, Name, Register as FaultyRegister, Pattern, DuplicateTarget}
use Rattle.std.specs.Char.{is_ascii_alphabetic, is_ascii_alphanumeric, is_ascii_digit, is_ascii_graphic}
use Rattle.std.specs.Str.Parse.{digits_value}
use Rattle.zeb_marc.specs.Directory.{has_tag_bytes}
use Rattle.zeb_keys.specs.declared.registers.Register.{Register}
use Rattle.zeb_keys.specs.declared.registers.Register.TheVariants.{Word, Phrase, Number}
use Rattle.zeb_profile.specs.Outcomes.{◌>>=◌}

-- PATTERN: a tag of three ASCII letters or digits, or a tag, the dollar sign (36) and a code, which is a printable
-- ASCII character but the space
abbrev pub pattern_of : List ℕ → Result UnitPattern ProfileFaultKind
pattern_of (a ∷ b ∷ c ∷ []) =
    if has_tag_bytes (a ∷ b ∷ c ∷ []) then Ok (record { tag = a ∷ b ∷ c ∷ []; code = None }) else Err Pattern
pattern_of (a ∷ b ∷ c ∷ sign ∷ code ∷ []) =
    if has_tag_bytes (a ∷ b ∷ c ∷ []) && ((sign == 36) && is_ascii_graphic code)
    then Ok (record { tag = a ∷ b ∷ c ∷ []; code = Some code }) else Err Pattern
pattern_of _ = Err Pattern

-- NUMBER: one to nine ASCII digits that do not stand for 0
abbrev pub is_use_number : List ℕ → Bool
is_use_number word = ((list_all is_ascii_digit word && nat_lt 0 (length word)) && nat_le (length word) 9) && nat_lt 0 (digits_value 10 word)

abbrev pub number_of : List ℕ → Result ℕ ProfileFaultKind
number_of word = if is_use_number word then Ok (digits_value 10 word) else Err FaultyDirective

-- NAME: an ASCII letter, then letters, digits, hyphens (45) and underscores (95); at most 64 bytes
abbrev pub is_name_byte : ℕ → Bool
is_name_byte byte = is_ascii_alphanumeric byte || ((byte == 45) || (byte == 95))

abbrev pub is_name : List ℕ → Bool
is_name [] = false
is_name (first ∷ others) = (is_ascii_alphabetic first && list_all is_name_byte others) && nat_lt (length others) 64

abbrev pub name_of : List ℕ → Result (List ℕ) ProfileFaultKind
name_of word = if is_name word then Ok word else Err Name

-- names are compared without regard to the case of ASCII letters
abbrev pub same_name : List ℕ → List ℕ → Bool
same_name = str_eq_ignore_ascii_case

-- each name once, where it first comes
abbrev pub distinct_names : List (List ℕ) → List (List ℕ)
distinct_names [] = []
distinct_names (name ∷ names) = name ∷ filter (λ other. not (same_name name other)) (distinct_names names)

abbrev pub target_names : List Target → List (List ℕ)
target_names targets = distinct_names (map (λ target. target.name) targets)

-- REGISTER
abbrev pub register_of : List ℕ → Result Register ProfileFaultKind
register_of word =
    if bytes_eq word (codes "w") then Ok Word
    else (if bytes_eq word (codes "p") then Ok Phrase
    else (if bytes_eq word (codes "n") then Ok Number
    else Err FaultyRegister))

abbrev pub same_register : Register → Register → Bool
same_register Word Word = true
same_register Phrase Phrase = true
same_register Number Number = true
same_register _ _ = false

-- the byte between the name and the register of a target: a colon (58)
abbrev pub is_colon : ℕ → Bool
is_colon byte = byte == 58

abbrev pub register_after_colon : List ℕ → Result Register ProfileFaultKind
register_after_colon part =
    if nat_lt (position_or_len is_colon part) (length part) then register_of (after_first is_colon part) else Ok Word

-- a target: a name, or a name, a colon (58) and a register; without one the register is that of words
abbrev pub target_of : List ℕ → Result Target ProfileFaultKind
target_of part = do
  name ← name_of (before_first is_colon part)
  register ← register_after_colon part
  Ok (record { name = name; register = register })

abbrev pub same_target : Target → Target → Bool
same_target one other = same_name one.name other.name && same_register one.register other.register

-- the byte between targets: a comma (44)
abbrev pub is_comma : ℕ → Bool
is_comma byte = byte == 44

-- TARGETS: targets with commas (44) between, each read, and then compared with those to its left (what comes of that,
-- without the walk, is the law `targets_are_read`)
abbrev pub targets_after : List Target → List (List ℕ) → Result (List Target) ProfileFaultKind
targets_after left [] = Ok left
targets_after left (part ∷ parts) =
    target_of part >>= λ target. if list_any (same_target target) left then Err DuplicateTarget else targets_after (left ++ target ∷ []) parts

abbrev pub targets_of : List ℕ → Result (List Target) ProfileFaultKind
targets_of word = targets_after [] (slice_split is_comma word)
