-- What this crate's proofs cite of std, of the kit, of the crates below and of its own specs, passed on from one place. Declares nothing.
pub use Rattle.clap.proofs.CutLemmas.{Lacks}
pub use Rattle.clap.proofs.FaultLemmas.{stopped_fault}
pub use Rattle.clap.proofs.LexerLemmas.{name_and_value-at, name_and_value-without}
pub use Rattle.clap.proofs.ValueTestLemmas.{Accepts-accepts, accepts-Accepts}
pub use Rattle.clap.proofs.WalkLemmas.{one_text-rows, raw_values-rows, first_value-rows}
pub use Rattle.clap.specs.Faults.{check_fault, use_fault, values_fault, fault_of, settle_fault, short_fault, long_fault, turn_fault, default_fault, level_fault, entered_fault, step_fault, is_simple_and_free, flags_fault, walk_fault}
pub use Rattle.clap.specs.Kinds.{Kinds, or_else, HasKind, IsAmong}
pub use Rattle.clap.specs.Lexer.{name_and_value, without_minus, long_of, short_of}
pub use Rattle.clap.specs.Matches.{ReadsOne, found_of}
pub use Rattle.clap.specs.Simple.{Shape, App, built_leaf, inherited, new_app, built, new_rule, entered, matches_of, subcommand_of, names_of, with_rule, app_of_fields, on_top, subcommand_rows_of, is_simple}
pub use Rattle.clap.specs.Takes.{is_given}
pub use Rattle.clap.specs.ValueTests.{accepts}
pub use Rattle.clap.specs.Values.{read_as, IsSignedIn, kind_of, signed_between}
pub use Rattle.clap.specs.Walk.{Row, Text, rows_after, has_row, one_of, used, with_values, without, first_of, more_values, with_default, Rule, Held, arg_by_short, takes_values, attached_value, at_row, Names, Walk, Waiting, idle, positional, settled_rows, arg_by_index, arg_by_long, is_pending, takes_several, option as wait_option, all_of, nothing_held, arg_by_id, Outcome, done, waits, plain, refused, after_step, after_flag, subcommand_met, answers_to, rule_of, rows_of, walked}
pub use Rattle.clap.specs.declared.builder.value_parser.Reading.{Reading}
pub use Rattle.clap.specs.declared.builder.value_parser.Reading.TheVariants.{AsWritten, WithoutMinus}
pub use Rattle.clap.specs.declared.builder.value_parser.ValueParser.{ValueParser}
pub use Rattle.clap.specs.declared.error.Error.{Error}
pub use Rattle.clap.specs.declared.error.kind.ErrorKind.TheVariants.{DisplayHelp, DisplayVersion, UnknownArgument, OutOfMemory}
pub use Rattle.clap.specs.declared.parser.matches.ArgMatches.TheViews.{out-ArgMatches, out-SubCommand}
pub use Rattle.clap.specs.declared.parser.matches.ValueSource.TheVariants.{CommandLine, DefaultValue}
pub use Rattle.std.proofs.Common.{◌≡◌, ◌∙◌, ◌⊎◌, ◌<◌, ◌^◌, inl, inr, ℕ, Bool, refl, sym, ap, subst, List, [], ◌∷◌, Some, None, codes, true, false, map, cond, arith, ◌||◌, ◌++◌, eqb-true, drop, ◌==◌, Option, length, ap₂, ◌&&◌, ◌≢◌, ◌≤◌, String, string_bytes, Result, Ok, Err, rules, take}
pub use Rattle.std.proofs.lemmas.Bool.{eqb-false, and_right, ne_eqb}
pub use Rattle.std.proofs.lemmas.Int.{ints}
pub use Rattle.std.proofs.lemmas.List.{append_assoc, append-nil}
pub use Rattle.std.proofs.lemmas.Result.{IfOk-weaker, IfErr-weaker}
pub use Rattle.std.proofs.lemmas.Slice.Eq.{bytes_eq-Decides}
pub use Rattle.std.proofs.lemmas.Str.{IsUtf8-past_char, chars_past_char, IsUtf8-string_bytes}
pub use Rattle.std.proofs.lemmas.Str.Parse.{digit_from_value}
pub use Rattle.std.specs.Borrow.{Bor}
pub use Rattle.std.specs.Box.{box_value}
pub use Rattle.std.specs.Int.{int_max, int_min}
pub use Rattle.std.specs.Prelude.{⊤, if◌then◌else◌, unwrap_or, slice_get, option_map, is_some, pos, fold, suc, zero, find}
pub use Rattle.std.specs.Range.{range_inclusive_end, range_inclusive_start}
pub use Rattle.std.specs.Str.{bytes_eq, IsUtf8, encode_utf8_all, chars}
pub use Rattle.std.specs.Str.Parse.{IsNumeral, digits_value, starts_with_minus, without_leading_plus, ParsesUnsigned, ExplainsUnsignedError, HasUnsignedDigitsIfOk}
pub use Rattle.zeb_image.specs.NameOf.{name_bytes}
pub use Rattle.zeb_words.specs.Grammar.{Argument, HasOnly, IsNumberOr, Part, arguments, values_of, Flag, flag as alone, Option as Named, Setting, Config, Database, Given, IsOneOr, Shows, databases, files, shown, IsPlain, Says, Spells, apart, argument, by_equals, joined, none, nothing, option_by_equals, shows_and, option as named, SaysNumber, Key, letter, shows, ended}
pub use Rattle.zeb_words.specs.Names.{Asks, NumberOption, choice_parts, NamesAct, NamesWords, Meaning, ToAdelete, ToBatch, ToCheck, ToCreate, ToDelete, ToDrop, ToDump, ToFind, ToInit, ToReindex, ToScan, ToShell, ToStat, ToUpdate, ToUpgrade, WordsNameOneCommand, meaning, NamesNone}
pub use Rattle.zeb_words.specs.Parses.{IsNumberRead, text_or, IsChoiceRead, IsFlagRead, founding_app, program_app, changing_app, find_app, naming_app, scan_app, IsActRead, IsParsedAs, path_texts, IsPast, help_word, IsReadFrom, path_rule, number_rule, name_rule, and_sub}
pub use Rattle.zeb_words.specs.Misuses.{IsMisuseOf, IsRefusedAs, TakesNoName}
pub use Rattle.zeb_words.specs.PrivateParses.{IsHelp, IsMisusedAct, IsMisusedName, IsUsageOf, Misuses}
pub use Rattle.zeb_words.specs.declared.misuses.Misuse.{Misuse}
pub use Rattle.zeb_words.specs.declared.misuses.Misuse.TheVariants.{Name, PastNumber, ShowsElsewhere, NoCommand}
pub use Rattle.zeb_words.specs.declared.words.Act.{Act}
pub use Rattle.zeb_words.specs.declared.words.Act.TheVariants.{Init, Create, Drop, Update, Delete, Adelete, Stat, Dump, Check, Reindex, Upgrade, Find, Scan, Batch, Shell}
pub use Rattle.zeb_words.specs.declared.words.LayoutChoice.{LayoutChoice}
pub use Rattle.zeb_words.specs.declared.words.LayoutChoice.TheVariants.{Leaves, Unsaid}
pub use Rattle.zeb_words.specs.declared.words.Usage.{Usage}
pub use Rattle.zeb_words.specs.declared.words.Usage.TheVariants.{BadUsage, Refused, Help, Memory}
pub use Rattle.zeb_words.specs.declared.words.Words.{Words}
