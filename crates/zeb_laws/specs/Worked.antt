-- Worked commands: "Moby Dick" is kept in a database, and again, and found by a word of its title; behind it in a file stands a
-- record of five letters.
use Rattle.std.specs.Prelude.{◌≡◌, ◌↔◌, ℕ, false, List, [], ◌∷◌, ◌++◌, map, codes, chars, string_bytes}
use Rattle.zeb_keys.specs.declared.registers.Register.TheVariants.{Word}
use Rattle.zeb_profile.specs.Canonical.{canonical_text}
use Rattle.zeb_lower_laws.specs.WorkedRecord.{worked_record}
use Rattle.zeb_text.specs.Symbols.{literal}
use Rattle.zeb_query.specs.Plans.{PlanValue, TermOf, PhraseOf}
use Rattle.zeb_keys.specs.declared.keys.Key.{Key}
use Rattle.zeb_lower_laws.specs.Sample.{title_profile}
use Rattle.zeb_engine.specs.declared.commands.Command.{Command}
use Rattle.zeb_engine.specs.declared.commands.Command.TheVariants.{Init, Create, Drop, Change, Find, Check, Reindex, Upgrade, Stat, Dump, Scan, Analyse}
use Rattle.zeb_change.specs.declared.settings.Kind.TheVariants.{Adelete, Delete, Update}
use Rattle.zeb_change.specs.declared.settings.Limits.{Limits}
use Rattle.zeb_engine.specs.Answers.{Answer}
use Rattle.zeb_image.specs.NameOf.{name_bytes}
use Rattle.zeb_change.specs.Conditions.{Conditions, conditions}
use Rattle.zeb_image.specs.Holdings.{Holdings, under}
use Rattle.zeb_change.specs.Base.{Base, Kept}
use Rattle.zeb_change.specs.Occurs.{occurs}
use Rattle.zeb_search.specs.Holds.{TreeHolds}
use Rattle.zeb_engine.specs.Finding.{IsNamed, has_name}

-- a session under the profile of titles, dates and any words
abbrev pub book_conditions : List ℕ → Limits → Conditions
book_conditions version limits = conditions version title_profile limits

-- *Moby Dick* as a kept record with the system number 1
abbrev pub book : Kept
book = record { sysno = 1; ident = codes "a1"; bytes = worked_record }

-- the database `Default`, which keeps just *Moby Dick*
abbrev pub book_base : Base
book_base = record { name = codes "Default"; last = 1; records = book ∷ [] }

-- what is held under this version and the profile of titles without a database
abbrev pub no_books : List ℕ → Holdings
no_books version = under version (canonical_text title_profile) []

-- what is held under this version and the profile of titles with one database, which keeps just *Moby Dick*
abbrev pub one_book : List ℕ → Holdings
one_book version = under version (canonical_text title_profile) (book_base ∷ [])

-- the record, and then five bytes that are no length
abbrev pub faulty_file : List ℕ
faulty_file = worked_record ++ codes "xxxxx"

-- a word in the index of titles
abbrev pub title_word : List ℕ → Key
title_word word = record { index = 0; register = Word; term = word }

-- the plan of a word in an index, without stars
abbrev pub word_plan : ℕ → List ℕ → PlanValue
word_plan index word = TermOf (PhraseOf index (literal (chars word) ∷ []) false)

-- the plan of a word there
abbrev pub title_plan : List ℕ → PlanValue
title_plan = word_plan 0

-- the plan of `whale` in the index of titles, a word of *Moby Dick*'s title
abbrev pub whale : PlanValue
whale = title_plan (codes "whale")

-- the plan of `ahab` in the index of titles, a word that *Moby Dick*'s title lacks
abbrev pub ahab : PlanValue
ahab = title_plan (codes "ahab")

-- a plan holds on the record of a number, where just *Moby Dick* is kept
abbrev pub BookHolds : PlanValue → ℕ → Type 0
BookHolds = TreeHolds (occurs title_profile book_base.records) (IsNamed (occurs title_profile book_base.records) (has_name book_base.records))

-- the command updates the database `Default` by files of these bytes
abbrev pub IsUpdateBy : List (List ℕ) → Command → Type 0
IsUpdateBy texts Init = ⊥
IsUpdateBy texts (Create name) = ⊥
IsUpdateBy texts (Drop name) = ⊥
IsUpdateBy texts (Change Update name files) = (name_bytes name ≡ codes "Default") × (map (λ file. file.items) files.items ≡ texts)
IsUpdateBy texts (Change Delete name files) = ⊥
IsUpdateBy texts (Change Adelete name files) = ⊥
IsUpdateBy texts (Find name query first count) = ⊥
IsUpdateBy texts Check = ⊥
IsUpdateBy texts Reindex = ⊥
IsUpdateBy texts Upgrade = ⊥
IsUpdateBy texts (Stat name) = ⊥
IsUpdateBy texts (Dump name) = ⊥
IsUpdateBy texts (Scan name query number position) = ⊥
IsUpdateBy texts (Analyse files) = ⊥

-- the command asks for the first 20 records of the database `Default` that a query of this text finds
abbrev pub IsFindBy : List ℕ → Command → Type 0
IsFindBy text Init = ⊥
IsFindBy text (Create name) = ⊥
IsFindBy text (Drop name) = ⊥
IsFindBy text (Change kind name files) = ⊥
IsFindBy text (Find name query first count) = (name_bytes name ≡ codes "Default") × (string_bytes query ≡ text) × (first ≡ 1) × (count ≡ 20)
IsFindBy text Check = ⊥
IsFindBy text Reindex = ⊥
IsFindBy text Upgrade = ⊥
IsFindBy text (Stat name) = ⊥
IsFindBy text (Dump name) = ⊥
IsFindBy text (Scan name query number position) = ⊥
IsFindBy text (Analyse files) = ⊥

-- a command may give this answer, with this held then, and nothing else
abbrev pub IsJust : (Told : Answer → Holdings → Type 0) → Answer → Holdings → Type 0
IsJust Told answer later = (other : Answer) (held : Holdings) → Told other held ↔ ((other ≡ answer) × (held ≡ later))
