-- The command that words name, by this program's own grammar.
use Rattle.std.specs.Prelude.{ℕ, ◌≡◌, ◌≢◌, ◌≤◌, Bool, false, List, [], ◌∷◌, ◌++◌, map, codes, string_bytes, ⊤}
use Rattle.zeb_image.specs.NameOf.{name_bytes}
use Rattle.zeb_words.specs.Parses.{path_texts}
use Rattle.zeb_words.specs.Grammar.{Argument, Flag, HasOnly, IsNumberOr, IsOneOr, Part, Says, Setting, Spells, Text, arguments, databases, files, shown, values_of}
use Rattle.zeb_words.specs.declared.words.LayoutChoice.{LayoutChoice}
use Rattle.zeb_words.specs.declared.words.LayoutChoice.TheVariants.{Leaves, Unsaid}
use Rattle.zeb_words.specs.declared.words.Words.{Words}
use Rattle.zeb_words.specs.declared.words.Usage.{Usage}
use Rattle.zeb_words.specs.declared.words.Usage.TheVariants.{BadUsage, Refused, Help, Memory}
use Rattle.zeb_words.specs.declared.words.Act.{Act}
use Rattle.zeb_words.specs.declared.words.Act.TheVariants.{Init, Create, Drop, Update, Delete, Adelete, Stat, Dump, Check, Reindex, Upgrade, Find, Scan, Batch, Shell}

-- an option with a number: its name, the number where it isn't given, and its range
pub record NumberOption : Type 0 where
  pub name : Text
  pub default : ℕ
  pub least : ℕ
  pub most : ℕ

abbrev pub first : NumberOption
first = record { name = codes "first"; default = 1; least = 1; most = 999999999 }

abbrev pub count : NumberOption
count = record { name = codes "count"; default = 20; least = 0; most = 1000000 }

abbrev pub number : NumberOption
number = record { name = codes "number"; default = 20; least = 1; most = 1000 }

abbrev pub position : NumberOption
position = record { name = codes "position"; default = 1; least = 1; most = 1000 }

-- what says at most once that option's number
abbrev pub Numbers : NumberOption → List Part → ℕ → Type 0
Numbers option parts n = IsNumberOr option.default option.least option.most (values_of option.name parts) n

-- the words ask one query, with these two options and no others
pub record Asks (words : List Text) (query : Text) (a : NumberOption) (m : ℕ) (b : NumberOption) (n : ℕ) : Type 0 where
  pub parts : List Part
  pub says : Says words parts
  pub only : HasOnly a.name b.name parts
  pub one : arguments parts ≡ query ∷ []
  pub a_number : Numbers a parts m
  pub b_number : Numbers b parts n

-- the words say arguments, and no options and no flags
abbrev pub SaysAll : List Text → List Text → Type 0
SaysAll words arguments = Says words (map Argument arguments)

-- what asks for a layout
abbrev pub choice_parts : LayoutChoice → List Part
choice_parts Leaves = Flag (codes "leaves") ∷ []
choice_parts Unsaid = []

-- A command's word, the words behind it and whether `-s` stands before it name this act.
abbrev pub NamesAct : Text → List Text → Bool → Act → Type 0
NamesAct command words shows (Init choice) = (command ≡ codes "init") × (shows ≡ false) × Says words (choice_parts choice)
NamesAct command words shows (Create name) = (command ≡ codes "create") × (shows ≡ false) × SaysAll words (name_bytes name ∷ [])
NamesAct command words shows (Drop name) = (command ≡ codes "drop") × (shows ≡ false) × SaysAll words (name_bytes name ∷ [])
NamesAct command words shows (Update paths only) =
    (command ≡ codes "update") × (only ≡ shows) × SaysAll words (path_texts paths.items) × (path_texts paths.items ≢ [])
NamesAct command words shows (Delete paths) =
    (command ≡ codes "delete") × (shows ≡ false) × SaysAll words (path_texts paths.items) × (path_texts paths.items ≢ [])
NamesAct command words shows (Adelete paths) =
    (command ≡ codes "adelete") × (shows ≡ false) × SaysAll words (path_texts paths.items) × (path_texts paths.items ≢ [])
NamesAct command words shows Stat = (command ≡ codes "stat") × (shows ≡ false) × SaysAll words []
NamesAct command words shows Dump = (command ≡ codes "dump") × (shows ≡ false) × SaysAll words []
NamesAct command words shows Check = (command ≡ codes "check") × (shows ≡ false) × SaysAll words []
NamesAct command words shows Reindex = (command ≡ codes "reindex") × (shows ≡ false) × SaysAll words []
NamesAct command words shows (Upgrade choice) = (command ≡ codes "upgrade") × (shows ≡ false) × Says words (choice_parts choice)
NamesAct command words shows (Find query m n) = (command ≡ codes "find") × (shows ≡ false) × Asks words (string_bytes query) first m count n
NamesAct command words shows (Scan query m n) =
    (command ≡ codes "scan") × (shows ≡ false) × Asks words (string_bytes query) number m position n × (n ≤ m)
NamesAct command words shows Batch = (command ≡ codes "batch") × (shows ≡ false) × SaysAll words []
NamesAct command words shows Shell = (command ≡ codes "shell") × (shows ≡ false) × SaysAll words []

-- The words are those of settings, the word of a command and the words behind it, and name this file, database and act.
pub record NamesWords (words : List Text) (named : Words) : Type 0 where
  pub front : List Text
  pub settings : List Setting
  pub command : Text
  pub behind : List Text
  pub are : words ≡ front ++ command ∷ behind
  pub spells : Spells front settings
  pub config : IsOneOr (codes "zebra.cfg") (files settings) (string_bytes named.config)
  pub database : IsOneOr (codes "Default") (databases settings) (name_bytes named.database)
  pub shows : Bool
  pub flag : IsOneOr false (shown settings) shows
  pub act : NamesAct command behind shows named.act

-- words that are refused name no command; where memory ran out nothing is said
abbrev pub NamesNone : List Text → Usage → Type 0
NamesNone words (BadUsage misuse) = (named : Words) → NamesWords words named → ⊥
NamesNone words (Refused text) = (named : Words) → NamesWords words named → ⊥
NamesNone words (Help text) = (named : Words) → NamesWords words named → ⊥
NamesNone words Memory = ⊤

-- an act by its texts and numbers alone
pub data Meaning : Type 0 where
  ToInit : LayoutChoice → Meaning
  ToCreate : Text → Meaning
  ToDrop : Text → Meaning
  ToUpdate : List Text → Bool → Meaning
  ToDelete : List Text → Meaning
  ToAdelete : List Text → Meaning
  ToStat : Meaning
  ToDump : Meaning
  ToCheck : Meaning
  ToReindex : Meaning
  ToUpgrade : LayoutChoice → Meaning
  ToFind : Text → ℕ → ℕ → Meaning
  ToScan : Text → ℕ → ℕ → Meaning
  ToBatch : Meaning
  ToShell : Meaning

abbrev pub meaning : Act → Meaning
meaning (Init choice) = ToInit choice
meaning (Create name) = ToCreate (name_bytes name)
meaning (Drop name) = ToDrop (name_bytes name)
meaning (Update paths only) = ToUpdate (path_texts paths.items) only
meaning (Delete paths) = ToDelete (path_texts paths.items)
meaning (Adelete paths) = ToAdelete (path_texts paths.items)
meaning Stat = ToStat
meaning Dump = ToDump
meaning Check = ToCheck
meaning Reindex = ToReindex
meaning (Upgrade choice) = ToUpgrade choice
meaning (Find query m n) = ToFind (string_bytes query) m n
meaning (Scan query m n) = ToScan (string_bytes query) m n
meaning Batch = ToBatch
meaning Shell = ToShell

-- the same file, the same database and the same act
abbrev pub AreSame : Words → Words → Type 0
AreSame a b = (string_bytes a.config ≡ string_bytes b.config) × (name_bytes a.database ≡ name_bytes b.database) × (meaning a.act ≡ meaning b.act)

-- words name one command at most
abbrev pub WordsNameOneCommand : Type 0
WordsNameOneCommand = (words : List Text) (a b : Words) → NamesWords words a → NamesWords words b → AreSame a b
