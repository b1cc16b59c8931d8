-- Profiles read by the definitions alone.
use Rattle.std.specs.Prelude.{◌≡◌, ℕ, List, [], ◌∷◌, codes, Some, None, Ok, Err}
use Rattle.zeb_profile.specs.declared.directives.Directive.{Directive}
use Rattle.zeb_profile.specs.declared.directives.Directive.TheVariants.{Store, Identifier, Att, Melm, All}
use Rattle.zeb_profile.specs.declared.faults.ProfileFaultKind.{ProfileFaultKind}
use Rattle.zeb_keys.specs.declared.registers.Register.TheVariants.{Word, Phrase, Number}
use Rattle.zeb_profile.specs.Profiles.{profile_of}

-- a line of each kind, a comment and an empty line, patterns with a code (97 is `a`) and without, and each register
abbrev pub EachLineIsRead : Type 0
EachLineIsRead = profile_of (codes "# a comment\n\nstore my file\n identifier 001\natt 04 Title\nmelm 245$a Title,title:p,Date:n\nmelm 24X T:w\nall Any ")
    ≡ Ok (Store (codes "my file")
    ∷ Identifier (record { tag = codes "001"; code = None })
    ∷ Att 4 (codes "Title")
    ∷ Melm (record { tag = codes "245"; code = Some 97 })
    (record { name = codes "Title"; register = Word } ∷ record { name = codes "title"; register = Phrase } ∷ record { name = codes "Date"; register = Number } ∷ [])
    ∷ Melm (record { tag = codes "24X"; code = None }) (record { name = codes "T"; register = Word } ∷ [])
    ∷ All (record { name = codes "Any"; register = Word } ∷ [])
    ∷ [])

-- the text has this fault on this line
abbrev pub IsRefused : List ℕ → ℕ → ProfileFaultKind → Type 0
IsRefused text line kind = profile_of text ≡ Err (record { line = line; kind = kind })

-- three names, of which the first comes again behind the second, in another case and in the line `all`
abbrev pub repeated_names : List Directive
repeated_names =
    Store (codes "x")
    ∷ Identifier (record { tag = codes "001"; code = None })
    ∷ Melm (record { tag = codes "245"; code = None }) (record { name = codes "A"; register = Word } ∷ [])
    ∷ Melm (record { tag = codes "246"; code = None }) (record { name = codes "B"; register = Word } ∷ record { name = codes "a"; register = Phrase } ∷ [])
    ∷ All (record { name = codes "A"; register = Number } ∷ record { name = codes "C"; register = Word } ∷ [])
    ∷ []
