-- Words that spell settings, and words that say options and arguments, by the grammar; and words that ask for help or the version.
use Rattle.zeb_words.proofs.Cited.{◌≡◌, refl, [], ◌∷◌, codes, true, eqb-false, Argument, Config, Database, Given, IsPlain, Says, Shows, Spells, apart, argument, by_equals, files, joined, none, nothing, option_by_equals, shown, shows_and, values_of, Named, named, Flag, alone, program_app, fault_of, DisplayHelp, DisplayVersion, UnknownArgument, ended}
use Rattle.clap.proofs.OnLiterals.{clap_on_literals}
use Rattle.clap.specs.declared.error.kind.ErrorKind.TheVariants.{ArgumentConflict, TooManyValues}

-- `-c x.cfg`, `-c=x.cfg`, `-cx.cfg`, and an empty value
file_apart : Spells (codes "-c" ∷ codes "x.cfg" ∷ []) (Given Config (codes "x.cfg") ∷ [])
file_apart = apart Config (codes "x.cfg") [] [] (eqb-false 120 45 refl) none

file_by_equals : Spells (codes "-c=x.cfg" ∷ []) (Given Config (codes "x.cfg") ∷ [])
file_by_equals = by_equals Config (codes "x.cfg") [] [] none

file_joined : Spells (codes "-cx.cfg" ∷ []) (Given Config (codes "x.cfg") ∷ [])
file_joined = joined Config 120 (codes ".cfg") [] [] (eqb-false 120 61 refl) none

file_empty : Spells (codes "-c=" ∷ []) (Given Config [] ∷ [])
file_empty = by_equals Config [] [] [] none

-- a command's name may be a value, and so may a hyphen
file_named_stat : Spells (codes "-c" ∷ codes "stat" ∷ []) (Given Config (codes "stat") ∷ [])
file_named_stat = apart Config (codes "stat") [] [] (eqb-false 115 45 refl) none

file_hyphen : Spells (codes "-c" ∷ codes "-" ∷ []) (Given Config (codes "-") ∷ [])
file_hyphen = apart Config (codes "-") [] [] tt none

-- letters share a word behind `-s`
letters_shared : Spells (codes "-sdBooks" ∷ codes "-c=x" ∷ []) (Shows ∷ Given Database (codes "Books") ∷ Given Config (codes "x") ∷ [])
letters_shared = shows_and 100 (codes "Books") _ _ (joined Database 66 (codes "ooks") _ _ (eqb-false 66 61 refl) (by_equals Config (codes "x") [] [] none))

letters_then_value : Spells (codes "-sc" ∷ codes "x" ∷ []) (Shows ∷ Given Config (codes "x") ∷ [])
letters_then_value = shows_and 99 [] _ _ (apart Config (codes "x") [] [] tt none)

-- what stands twice is counted twice
shown_twice : shown (Shows ∷ Shows ∷ []) ≡ true ∷ true ∷ []
shown_twice = refl

files_twice : files (Given Config (codes "a") ∷ Given Database (codes "b") ∷ Given Config (codes "c") ∷ []) ≡ codes "a" ∷ codes "c" ∷ []
files_twice = refl

-- behind a command: `x --first=2`, `--first 2 x`, `-- -x`, `--` alone
option_last : Says (codes "x" ∷ codes "--first=2" ∷ []) (Argument (codes "x") ∷ Named (codes "first") (codes "2") ∷ [])
option_last = argument (codes "x") _ _ tt (option_by_equals (codes "first") (codes "2") [] [] nothing)

option_first : Says (codes "--first" ∷ codes "2" ∷ codes "x" ∷ []) (Named (codes "first") (codes "2") ∷ Argument (codes "x") ∷ [])
option_first = named (codes "first") (codes "2") _ _ tt (argument (codes "x") [] [] tt nothing)

hyphen_behind : Says (codes "--" ∷ codes "-x" ∷ []) (Argument (codes "-x") ∷ [])
hyphen_behind = ended (codes "-x" ∷ [])

second_end : Says (codes "--" ∷ codes "--" ∷ []) (Argument (codes "--") ∷ [])
second_end = ended (codes "--" ∷ [])

end_alone : Says (codes "--" ∷ []) []
end_alone = ended []

flag_stands : Says (codes "--leaves" ∷ []) (Flag (codes "leaves") ∷ [])
flag_stands = alone (codes "leaves") [] [] nothing

flag_then_end : Says (codes "--leaves" ∷ codes "--" ∷ []) (Flag (codes "leaves") ∷ [])
flag_then_end = alone (codes "leaves") _ _ (ended [])

value_hyphen : Says (codes "--first" ∷ codes "-" ∷ []) (Named (codes "first") (codes "-") ∷ [])
value_hyphen = named (codes "first") (codes "-") [] [] tt nothing

first_twice : values_of (codes "first") (Named (codes "first") (codes "1") ∷ Argument (codes "x") ∷ Named (codes "first") (codes "2") ∷ []) ≡ codes "1" ∷ codes "2" ∷ []
first_twice = refl

-- a word that begins with a hyphen is no argument
no_argument : IsPlain (codes "-x") → ⊥
no_argument plain = plain refl

no_value : IsPlain (codes "--") → ⊥
no_value plain = plain refl

empty_word : IsPlain []
empty_word = tt

-- ---- what is asked for in place of a command: the version before one, and help also behind one

version_asked : fault_of program_app (codes "--version" ∷ []) ≡ DisplayVersion ∷ []
unfolding clap_on_literals
version_asked = refl

version_before : fault_of program_app (codes "-d" ∷ codes "Books" ∷ codes "--version" ∷ codes "find" ∷ []) ≡ DisplayVersion ∷ []
unfolding clap_on_literals
version_before = refl

version_behind : fault_of program_app (codes "find" ∷ codes "--version" ∷ []) ≡ UnknownArgument ∷ []
unfolding clap_on_literals
version_behind = refl

version_by_letter : fault_of program_app (codes "-V" ∷ []) ≡ UnknownArgument ∷ []
unfolding clap_on_literals
version_by_letter = refl

help_behind : fault_of program_app (codes "find" ∷ codes "--help" ∷ []) ≡ DisplayHelp ∷ []
unfolding clap_on_literals
help_behind = refl

-- ---- a flag stands once, without a value, and with its commands alone

leaves_taken : fault_of program_app (codes "init" ∷ codes "--leaves" ∷ []) ≡ []
unfolding clap_on_literals
leaves_taken = refl

leaves_twice : fault_of program_app (codes "init" ∷ codes "--leaves" ∷ codes "--leaves" ∷ []) ≡ ArgumentConflict ∷ []
unfolding clap_on_literals
leaves_twice = refl

leaves_by_value : fault_of program_app (codes "upgrade" ∷ codes "--leaves=true" ∷ []) ≡ TooManyValues ∷ []
unfolding clap_on_literals
leaves_by_value = refl

leaves_elsewhere : fault_of program_app (codes "reindex" ∷ codes "--leaves" ∷ []) ≡ UnknownArgument ∷ []
unfolding clap_on_literals
leaves_elsewhere = refl
