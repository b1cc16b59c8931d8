-- How words name a command. Before the command stand settings, behind it its options and arguments. A text is a list of bytes:
-- 45 is the hyphen, 61 is `=`.
use Rattle.std.specs.Prelude.{ℕ, ◌≡◌, ◌≢◌, ◌≤◌, Bool, true, List, [], ◌∷◌, ◌++◌, map, codes, ⊤, ◌⊎◌, pos, if◌then◌else◌}
use Rattle.std.specs.Str.{bytes_eq}
use Rattle.std.specs.Str.Parse.{IsNumeral, signed_digits_value, without_leading_sign}

abbrev pub Text : Type 0
Text = List ℕ

-- the word doesn't begin with a hyphen, or is a hyphen and no more: so it may be a value, an argument or a command
abbrev pub IsPlain : Text → Type 0
IsPlain [] = ⊤
IsPlain (b ∷ []) = ⊤
IsPlain (b ∷ c ∷ rest) = b ≢ 45

-- ---- settings

-- what is set before the command: by `-c` the profile's file, by `-d` the database
pub data Key : Type 0 where
  Config : Key
  Database : Key

abbrev pub letter : Key → ℕ
letter Config = 99
letter Database = 100

-- a value that is set, or `-s`
pub data Setting : Type 0 where
  Given : Key → Text → Setting
  Shows : Setting

-- The words spell the settings, in this order. A value stands in the next word, or joined to its letter, with `=` or without.
-- Behind `-s` the letters of more settings may stand in the same word.
pub data Spells : List Text → List Setting → Type 0 where
  none : Spells [] []
  apart : (key : Key) (value : Text) (words : List Text) (settings : List Setting) → IsPlain value → Spells words settings
      → Spells ((45 ∷ letter key ∷ []) ∷ value ∷ words) (Given key value ∷ settings)
  by_equals : (key : Key) (value : Text) (words : List Text) (settings : List Setting) → Spells words settings
      → Spells ((45 ∷ letter key ∷ 61 ∷ value) ∷ words) (Given key value ∷ settings)
  joined : (key : Key) (b : ℕ) (value : Text) (words : List Text) (settings : List Setting) → b ≢ 61 → Spells words settings
      → Spells ((45 ∷ letter key ∷ b ∷ value) ∷ words) (Given key (b ∷ value) ∷ settings)
  shows : (words : List Text) (settings : List Setting) → Spells words settings
      → Spells ((45 ∷ 115 ∷ []) ∷ words) (Shows ∷ settings)
  shows_and : (b : ℕ) (letters : Text) (words : List Text) (settings : List Setting) → Spells ((45 ∷ b ∷ letters) ∷ words) settings
      → Spells ((45 ∷ 115 ∷ b ∷ letters) ∷ words) (Shows ∷ settings)

-- what the settings give: files, databases, and whether `-s` stands, once for each time
abbrev pub files : List Setting → List Text
files [] = []
files (Given Config value ∷ settings) = value ∷ files settings
files (Given Database value ∷ settings) = files settings
files (Shows ∷ settings) = files settings

abbrev pub databases : List Setting → List Text
databases [] = []
databases (Given Config value ∷ settings) = databases settings
databases (Given Database value ∷ settings) = value ∷ databases settings
databases (Shows ∷ settings) = databases settings

abbrev pub shown : List Setting → List Bool
shown [] = []
shown (Given key value ∷ settings) = shown settings
shown (Shows ∷ settings) = true ∷ shown settings

-- what is given at most once is this, or the default where it isn't given
abbrev pub IsOneOr : {A : Type 0} → A → List A → A → Type 0
IsOneOr default [] x = x ≡ default
IsOneOr default (y ∷ []) x = x ≡ y
IsOneOr default (y ∷ z ∷ more) x = ⊥

-- ---- options and arguments

-- an option with its value, a flag, or an argument
pub data Part : Type 0 where
  Option : Text → Text → Part
  Flag : Text → Part
  Argument : Text → Part

-- The words behind a command say these options, flags and arguments. An option is `--name VALUE` or `--name=VALUE`, a flag `--name`;
-- behind the word `--` each word is an argument.
pub data Says : List Text → List Part → Type 0 where
  nothing : Says [] []
  ended : (arguments : List Text) → Says (codes "--" ∷ arguments) (map Argument arguments)
  argument : (word : Text) (words : List Text) (parts : List Part) → IsPlain word → Says words parts
      → Says (word ∷ words) (Argument word ∷ parts)
  option : (name value : Text) (words : List Text) (parts : List Part) → IsPlain value → Says words parts
      → Says ((codes "--" ++ name) ∷ value ∷ words) (Option name value ∷ parts)
  option_by_equals : (name value : Text) (words : List Text) (parts : List Part) → Says words parts
      → Says ((codes "--" ++ (name ++ 61 ∷ value)) ∷ words) (Option name value ∷ parts)
  flag : (name : Text) (words : List Text) (parts : List Part) → Says words parts
      → Says ((codes "--" ++ name) ∷ words) (Flag name ∷ parts)

-- the values of the option of this name, and the arguments
abbrev pub values_of : Text → List Part → List Text
values_of name [] = []
values_of name (Option n value ∷ parts) = if bytes_eq n name then value ∷ values_of name parts else values_of name parts
values_of name (Flag n ∷ parts) = values_of name parts
values_of name (Argument word ∷ parts) = values_of name parts

abbrev pub arguments : List Part → List Text
arguments [] = []
arguments (Option n value ∷ parts) = arguments parts
arguments (Flag n ∷ parts) = arguments parts
arguments (Argument word ∷ parts) = word ∷ arguments parts

-- no flags, and no options but those of these two names
abbrev pub HasOnly : Text → Text → List Part → Type 0
HasOnly a b [] = ⊤
HasOnly a b (Option n value ∷ parts) = ((n ≡ a) ⊎ (n ≡ b)) × HasOnly a b parts
HasOnly a b (Flag n ∷ parts) = ⊥
HasOnly a b (Argument word ∷ parts) = HasOnly a b parts

-- the text says a whole number of this range in decimal digits, behind a sign where there is one
pub record SaysNumber (least most : ℕ) (text : Text) (n : ℕ) : Type 0 where
  pub digits : IsNumeral 10 (without_leading_sign text)
  pub value : signed_digits_value 10 text ≡ pos n
  pub at_least : least ≤ n
  pub at_most : n ≤ most

-- an option that is given at most once says this number, or the default stands for it
abbrev pub IsNumberOr : ℕ → ℕ → ℕ → List Text → ℕ → Type 0
IsNumberOr default least most [] n = n ≡ default
IsNumberOr default least most (text ∷ []) n = SaysNumber least most text n
IsNumberOr default least most (text ∷ other ∷ more) n = ⊥
