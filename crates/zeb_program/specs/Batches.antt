-- The lines of a batch (Zebra manual, zebraidx, whose commands they are; the batch itself is this program's own).
-- Words are separated by blanks.
use Rattle.std.specs.Prelude.{◌≡◌, ◌≢◌, ◌⊎◌, ◌≤◌, ℕ, Some, List, [], ◌∷◌, Ok, IsOk, map, take, drop, codes, string_bytes}
use Rattle.hex.specs.Hex.{decode_of}
use Rattle.zeb_image.specs.Names.{IsDatabaseName}
use Rattle.zeb_image.specs.NameOf.{name_bytes}
use Rattle.zeb_image.specs.declared.names.DbName.{DbName}
use Rattle.zeb_engine.specs.declared.commands.Command.{Command}
use Rattle.zeb_engine.specs.declared.commands.Command.TheVariants.{Init, Check, Reindex, Upgrade, Create, Drop, Stat, Dump, Change, Find, Scan, Analyse}
use Rattle.zeb_change.specs.declared.settings.Kind.{Kind}
use Rattle.zeb_change.specs.declared.settings.Kind.TheVariants.{Update, Delete, Adelete}
use Rattle.zeb_program.specs.Numbers.{number_of}
use Rattle.zeb_program.specs.Words.{first_word, after_first_word}

abbrev pub IsName : List ℕ → DbName → Type 0
IsName text name = IsDatabaseName text × (name_bytes name ≡ text)

abbrev pub kind_word : Kind → List ℕ
kind_word Update = codes "update"
kind_word Delete = codes "delete"
kind_word Adelete = codes "adelete"

-- a database's name, and `hex:` with the digits of one file's bytes
pub record NamesChange (text : List ℕ) (database : DbName) (files : List (List ℕ)) : Type 0 where
  pub name : IsName (first_word text) database
  pub mark : take 4 (after_first_word text) ≡ codes "hex:"
  pub bytes : decode_of (drop 4 (after_first_word text)) ∷ [] ≡ map Ok files

-- a database's name, and a query that isn't empty
pub record NamesFind (text : List ℕ) (database : DbName) (query : List ℕ) : Type 0 where
  pub name : IsName (first_word text) database
  pub rest : query ≡ after_first_word text
  pub some : query ≢ []

-- the words of a page or a scan behind the database's name: two numbers, and the rest
abbrev pub second_word : List ℕ → List ℕ
second_word text = first_word (after_first_word text)

abbrev pub third_word : List ℕ → List ℕ
third_word text = first_word (after_first_word (after_first_word text))

abbrev pub after_third_word : List ℕ → List ℕ
after_third_word text = after_first_word (after_first_word (after_first_word text))

-- from which of its hits a find shows records, and how many, 0 to 1,000,000
abbrev pub IsShown : ℕ → ℕ → Type 0
IsShown first count = (1 ≤ first) × (count ≤ 1000000)

-- a database's name, the place of the first hit, how many hits, and a query that isn't empty
pub record NamesPage (text : List ℕ) (database : DbName) (query : List ℕ) (first count : ℕ) : Type 0 where
  pub name : IsName (first_word text) database
  pub from : number_of (second_word text) ≡ Some first
  pub many : number_of (third_word text) ≡ Some count
  pub within : IsShown first count
  pub rest : query ≡ after_third_word text
  pub some : query ≢ []

-- how many terms a scan shows, 1 to 1,000, and at which of their places its start stands
abbrev pub IsRange : ℕ → ℕ → Type 0
IsRange number position = (number ≤ 1000) × (1 ≤ position) × (position ≤ number)

-- a database's name, how many terms, the start's place, and a query that isn't empty
pub record NamesScan (text : List ℕ) (database : DbName) (query : List ℕ) (number position : ℕ) : Type 0 where
  pub name : IsName (first_word text) database
  pub many : number_of (second_word text) ≡ Some number
  pub place : number_of (third_word text) ≡ Some position
  pub within : IsRange number position
  pub rest : query ≡ after_third_word text
  pub some : query ≢ []

-- the text, which begins and ends with no blank, names the command; no text names an analysis
abbrev pub Names : List ℕ → Command → Type 0
Names text Init = (first_word text ≡ codes "init") × (after_first_word text ≡ [])
Names text Check = (first_word text ≡ codes "check") × (after_first_word text ≡ [])
Names text Reindex = (first_word text ≡ codes "reindex") × (after_first_word text ≡ [])
Names text Upgrade = (first_word text ≡ codes "upgrade") × (after_first_word text ≡ [])
Names text (Create name) = (first_word text ≡ codes "create") × IsName (after_first_word text) name
Names text (Drop name) = (first_word text ≡ codes "drop") × IsName (after_first_word text) name
Names text (Stat name) = (first_word text ≡ codes "stat") × IsName (after_first_word text) name
Names text (Dump name) = (first_word text ≡ codes "dump") × IsName (after_first_word text) name
Names text (Change kind database files) = (first_word text ≡ kind_word kind) × NamesChange (after_first_word text) database (map (λ file. file.items) files.items)
Names text (Find database query first count) =
    ((first_word text ≡ codes "find") × NamesFind (after_first_word text) database (string_bytes query) × (first ≡ 1) × (count ≡ 20))
    ⊎ ((first_word text ≡ codes "page") × NamesPage (after_first_word text) database (string_bytes query) first count)
Names text (Scan database query number position) = (first_word text ≡ codes "scan") × NamesScan (after_first_word text) database (string_bytes query) number position
Names text (Analyse files) = ⊥

-- P is so of what a change names, or Q of what a find does, or R of what a scan does; every other command is none of these
abbrev pub OfParts : (P : Kind → DbName → List (List ℕ) → Type 0) → (Q R : DbName → List ℕ → ℕ → ℕ → Type 0) → Command → Type 0
OfParts P Q R Init = ⊥
OfParts P Q R Check = ⊥
OfParts P Q R Reindex = ⊥
OfParts P Q R Upgrade = ⊥
OfParts P Q R (Create name) = ⊥
OfParts P Q R (Drop name) = ⊥
OfParts P Q R (Stat name) = ⊥
OfParts P Q R (Dump name) = ⊥
OfParts P Q R (Change kind database files) = P kind database (map (λ file. file.items) files.items)
OfParts P Q R (Find database query first count) = Q database (string_bytes query) first count
OfParts P Q R (Scan database query number position) = R database (string_bytes query) number position
OfParts P Q R (Analyse files) = ⊥

-- the command is a change, and P is so of what it names: its kind, its database and its files
abbrev pub IsChangeOf : (Kind → DbName → List (List ℕ) → Type 0) → Command → Type 0
IsChangeOf P = OfParts P (λ database query first count. ⊥) (λ database query number position. ⊥)

-- a change is named, whatever its kind
pub record HasChange (text : List ℕ) : Type 0 where
  pub name : IsDatabaseName (first_word text)
  pub mark : take 4 (after_first_word text) ≡ codes "hex:"
  pub bytes : IsOk (decode_of (drop 4 (after_first_word text)))

-- a find is named
pub record HasFind (text : List ℕ) : Type 0 where
  pub name : IsDatabaseName (first_word text)
  pub some : after_first_word text ≢ []

-- a page is named
pub record HasPage (text : List ℕ) : Type 0 where
  pub name : IsDatabaseName (first_word text)
  pub first : ℕ
  pub count : ℕ
  pub from : number_of (second_word text) ≡ Some first
  pub many : number_of (third_word text) ≡ Some count
  pub within : IsShown first count
  pub some : after_third_word text ≢ []

-- a scan is named
pub record HasScan (text : List ℕ) : Type 0 where
  pub name : IsDatabaseName (first_word text)
  pub number : ℕ
  pub position : ℕ
  pub many : number_of (second_word text) ≡ Some number
  pub place : number_of (third_word text) ≡ Some position
  pub within : IsRange number position
  pub some : after_third_word text ≢ []

-- the text, which begins and ends with no blank, asks that this text be written
abbrev pub NamesMark : List ℕ → List ℕ → Type 0
NamesMark text mark = (first_word text ≡ codes "mark") × (mark ≡ after_first_word text) × (mark ≢ [])

-- so it does of some text
abbrev pub HasMark : List ℕ → Type 0
HasMark text = (first_word text ≡ codes "mark") × (after_first_word text ≢ [])
