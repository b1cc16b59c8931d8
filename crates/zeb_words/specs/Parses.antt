-- The command that words name, by the definition of a parse that stands with the parser, `clap`: which options, arguments and
-- commands the parser is told of, that it finds no fault in the words, and what its matches come to.
use Rattle.std.specs.Prelude.{ℕ, ◌≡◌, ◌≤◌, ◌<◌, ◌^◌, pos, Bool, true, false, List, [], ◌∷◌, map, Option, Some, None, codes, String, string_bytes, unwrap_or, ◌⊎◌}
use Rattle.std.specs.Str.Parse.{IsNumeral, digits_value, without_leading_plus}
use Rattle.zeb_image.specs.NameOf.{name_bytes}
use Rattle.clap.specs.Walk.{Row, Rule, Text, first_of, one_of, all_of}
use Rattle.clap.specs.Simple.{App, matches_of, new_app, new_rule, subcommand_of, with_rule, with_subcommand}
use Rattle.clap.specs.Faults.{fault_of}
use Rattle.clap.specs.Kinds.{IsAmong, Kinds}
use Rattle.clap.specs.declared.error.kind.ErrorKind.{ErrorKind}
use Rattle.clap.specs.declared.error.kind.ErrorKind.TheVariants.{DisplayHelp, DisplayVersion}
use Rattle.clap.specs.declared.builder.action.ArgAction.TheVariants.{Append, SetTrue, Version}
use Rattle.clap.specs.declared.builder.value_parser.ValueParser.TheVariants as parser
use Rattle.zeb_words.specs.declared.words.LayoutChoice.{LayoutChoice}
use Rattle.zeb_words.specs.declared.words.LayoutChoice.TheVariants.{Leaves, Unsaid}
use Rattle.zeb_words.specs.declared.words.Words.{Words}
use Rattle.zeb_words.specs.declared.words.Act.{Act}
use Rattle.zeb_words.specs.declared.words.Act.TheVariants.{Init, Create, Drop, Update, Delete, Adelete, Stat, Dump, Check, Reindex, Upgrade, Find, Scan, Batch, Shell}

-- ---- what the parser is told

abbrev pub config_rule : Rule
config_rule = record (new_rule (codes "config")) { short = Some 99; value_names = 1 }

abbrev pub database_rule : Rule
database_rule = record (new_rule (codes "database")) { short = Some 100; value_names = 1 }

abbrev pub shows_rule : Rule
shows_rule = record (new_rule (codes "shows")) { short = Some 115; action = Some SetTrue }

abbrev pub version_rule : Rule
version_rule = record (new_rule (codes "version")) { long = Some (codes "version"); action = Some Version }

abbrev pub number_rule : Text → ℕ → ℕ → Rule
number_rule name least most =
    record (new_rule name) { long = Some name; value_names = 1; parser = Some (parser.Signed (pos least) (pos most)) }

abbrev pub query_rule : Rule
query_rule = record (new_rule (codes "query")) { value_names = 1; required = true }

abbrev pub name_rule : Rule
name_rule = record (new_rule (codes "name")) { value_names = 1; required = true }

abbrev pub path_rule : Rule
path_rule = record (new_rule (codes "path")) { value_names = 1; action = Some Append; required = true }

abbrev pub leaves_rule : Rule
leaves_rule = record (new_rule (codes "leaves")) { long = Some (codes "leaves"); action = Some SetTrue }

abbrev pub top_app : App
top_app =
    let plain = new_app (codes "zebraidx") in
    let set = record plain {
      top = record plain.top {
        no_binary_name = true;
        subcommand_required = true;
        disable_help_subcommand = true;
        disable_version_flag = true;
        has_version = true;
      };
    } in
    with_rule (with_rule (with_rule (with_rule set config_rule) database_rule) shows_rule) version_rule

abbrev pub founding_app : Text → App
founding_app name = with_rule (new_app name) leaves_rule

abbrev pub naming_app : Text → App
naming_app name = with_rule (new_app name) name_rule

abbrev pub changing_app : Text → App
changing_app name = with_rule (new_app name) path_rule

abbrev pub find_app : App
find_app = with_rule (with_rule (with_rule (new_app (codes "find"))
    (number_rule (codes "first") 1 999999999)) (number_rule (codes "count") 0 1000000)) query_rule

abbrev pub scan_app : App
scan_app = with_rule (with_rule (with_rule (new_app (codes "scan"))
    (number_rule (codes "number") 1 1000)) (number_rule (codes "position") 1 1000)) query_rule

abbrev pub and_sub : App → App → App
and_sub app sub = with_subcommand app sub.top

abbrev pub changes_app : App
changes_app =
    and_sub (and_sub (and_sub (and_sub (and_sub (and_sub top_app
    (founding_app (codes "init"))) (naming_app (codes "create"))) (naming_app (codes "drop")))
    (changing_app (codes "update"))) (changing_app (codes "delete"))) (changing_app (codes "adelete"))

abbrev pub upkeep_app : App
upkeep_app =
    and_sub (and_sub (and_sub changes_app
    (new_app (codes "check"))) (new_app (codes "reindex"))) (founding_app (codes "upgrade"))

-- what the parser is told: the options `-c`, `-d`, `-s` and `--version`, its commands, and the arguments and ranges
-- of each
abbrev pub program_app : App
program_app =
    and_sub (and_sub (and_sub (and_sub (and_sub (and_sub upkeep_app
    (new_app (codes "stat"))) (new_app (codes "dump")))
    find_app) scan_app) (new_app (codes "batch"))) (new_app (codes "shell"))

-- ---- what the matches come to

abbrev pub path_texts : {A : Type 0} → List (String A) → List Text
path_texts paths = map (λ path. string_bytes path) paths

-- the text that is given, or another where none is
abbrev pub text_or : Text → Text → List Row → Text
text_or name other rows = unwrap_or (first_of name rows) other

-- a flag as it is read
pub record IsFlagRead (read : Option Text) (flag : Bool) : Type 0 where
  pub absent : read ≡ None → flag ≡ false
  pub yes : read ≡ Some (codes "true") → flag ≡ true
  pub no : read ≡ Some (codes "false") → flag ≡ false

-- the flag of a layout as it is read
abbrev pub IsChoiceRead : Option Text → LayoutChoice → Type 0
IsChoiceRead read Leaves = IsFlagRead read true
IsChoiceRead read Unsaid = IsFlagRead read false

-- the number that the text says, where it says one that fits, or another where there is no text
pub record IsNumberRead (read : Option Text) (other n : ℕ) : Type 0 where
  pub absent : read ≡ None → n ≡ other
  pub value : (text : Text) → read ≡ Some text → IsNumeral 10 (without_leading_plus text)
      → digits_value 10 (without_leading_plus text) < 2 ^ 32 → n ≡ digits_value 10 (without_leading_plus text)

-- the act is the command of this name, with what its matches say: a database's name, paths, the flag of a layout, or a query and two numbers, which
-- have defaults, where a scan's position is at most its number of terms; the flag `-s` stands with `update` alone
abbrev pub IsActRead : Text → Bool → List Row → Act → Type 0
IsActRead name shows rows (Init choice) = (name ≡ codes "init") × (shows ≡ false) × IsChoiceRead (one_of (codes "leaves") rows) choice
IsActRead name shows rows (Create database) =
    (name ≡ codes "create") × (shows ≡ false) × (name_bytes database ≡ text_or (codes "name") [] rows)
IsActRead name shows rows (Drop database) =
    (name ≡ codes "drop") × (shows ≡ false) × (name_bytes database ≡ text_or (codes "name") [] rows)
IsActRead name shows rows (Update paths flag) =
    (name ≡ codes "update") × (flag ≡ shows) × (path_texts paths.items ≡ unwrap_or (all_of (codes "path") rows) [])
IsActRead name shows rows (Delete paths) =
    (name ≡ codes "delete") × (shows ≡ false) × (path_texts paths.items ≡ unwrap_or (all_of (codes "path") rows) [])
IsActRead name shows rows (Adelete paths) =
    (name ≡ codes "adelete") × (shows ≡ false) × (path_texts paths.items ≡ unwrap_or (all_of (codes "path") rows) [])
IsActRead name shows rows Stat = (name ≡ codes "stat") × (shows ≡ false)
IsActRead name shows rows Dump = (name ≡ codes "dump") × (shows ≡ false)
IsActRead name shows rows Check = (name ≡ codes "check") × (shows ≡ false)
IsActRead name shows rows Reindex = (name ≡ codes "reindex") × (shows ≡ false)
IsActRead name shows rows (Upgrade choice) = (name ≡ codes "upgrade") × (shows ≡ false) × IsChoiceRead (one_of (codes "leaves") rows) choice
IsActRead name shows rows (Find query first count) =
    (name ≡ codes "find") × (shows ≡ false) × (string_bytes query ≡ text_or (codes "query") [] rows)
    × IsNumberRead (one_of (codes "first") rows) 1 first × IsNumberRead (one_of (codes "count") rows) 20 count
IsActRead name shows rows (Scan query number position) =
    (name ≡ codes "scan") × (shows ≡ false) × (string_bytes query ≡ text_or (codes "query") [] rows)
    × IsNumberRead (one_of (codes "number") rows) 20 number
    × IsNumberRead (one_of (codes "position") rows) 1 position × (position ≤ number)
IsActRead name shows rows Batch = (name ≡ codes "batch") × (shows ≡ false)
IsActRead name shows rows Shell = (name ≡ codes "shell") × (shows ≡ false)

-- the profile's file, the database, the flag and the command, by the matches of the options and of the command, each but the command by its default
-- where it isn't given
pub record IsReadFrom (rows : List Row) (sub : Option (Text × List Row)) (named : Words) : Type 0 where
  pub config : string_bytes named.config ≡ text_or (codes "config") (codes "zebra.cfg") rows
  pub database : name_bytes named.database ≡ text_or (codes "database") (codes "Default") rows
  pub shows : Bool
  pub flagged : IsFlagRead (one_of (codes "shows") rows) shows
  pub name : Text
  pub given : List Row
  pub is : sub ≡ Some (name, given)
  pub act : IsActRead name shows given named.act

-- the parser finds no fault in the words, and the command is what its matches come to
pub record IsParsedAs (words : List Text) (named : Words) : Type 0 where
  pub sound : fault_of program_app words ≡ []
  pub read : IsReadFrom (matches_of program_app words) (subcommand_of program_app words) named

-- the matches of `scan` say a position past the number of terms
pub record IsPast (rows : List Row) : Type 0 where
  pub number : ℕ
  pub position : ℕ
  pub number_read : IsNumberRead (one_of (codes "number") rows) 20 number
  pub position_read : IsNumberRead (one_of (codes "position") rows) 1 position
  pub past : number < position

-- what the parser finds is no fault, but that help or the version is asked for
abbrev pub IsRequest : ErrorKind → Type 0
IsRequest kind = (kind ≡ DisplayHelp) ⊎ (kind ≡ DisplayVersion)

-- among the kinds of what the parser finds is one of a request for help or the version
abbrev pub HasRequest : Kinds → Type 0
HasRequest kinds = (kind : ErrorKind) × IsAmong kind kinds × IsRequest kind

-- among the kinds of what the parser finds is one of a mistake, which is no request for help or the version
abbrev pub HasMistake : Kinds → Type 0
HasMistake kinds = (kind : ErrorKind) × IsAmong kind kinds × (IsRequest kind → ⊥)

-- the word that asks for help, alone
abbrev pub help_word : List Text
help_word = codes "help" ∷ []
