-- What this crate's proofs cite of std, of the kit, of the crates below and of its own specs, passed on from one place. Declares nothing.
pub use Rattle.std.proofs.Common.{◌≡◌, ℕ, List, [], ◌∷◌, ◌++◌, ap, sym, true, false, Bool, cond, Option, Some, None, refl, ◌∙◌, if◌then◌else◌, map, Ok, subst, ◌+◌, ◌-◌, ◌<◌, ◌≤◌, length, take, drop, get_or, not, nat_lt, nat_eq, arith, suc, inl, inr, codes, Result, Err, append_assoc, add-one, drop-cons, unwrap_or, ◌||◌, ◌&&◌, String, string_bytes, ◌≢◌, option_map, ◌^◌, ◌==◌, zero, Bor, length-append, nat_le, reverse, rules, lit<, IfSome}
pub use Rattle.std.proofs.Math.Logic.{∥∥₁_elim}
pub use Rattle.std.proofs.Math.Path.{fun_ext}
pub use Rattle.std.proofs.Math.Seq.{drop-length, take-suc}
pub use Rattle.std.proofs.lemmas.Bool.{cases_eq, lt-ltb, cases_Bool, eqb-true, or_cases, not-false, not-true, cases_lt, le-ltb, false_from_ne_true, le-leb, lt-leb, ne_eqb, and_parts, leb-true, or_from, not_from_false, both_ways, and_from, eq-eqb, eqb-false, or_parts, ltb-true}
pub use Rattle.std.proofs.lemmas.Fmt.{decimal_nonempty, digits_decimal, digits_value-decimal, length-decimal-le}
pub use Rattle.std.proofs.lemmas.Iterator.Adapters.{position_from-zero}
pub use Rattle.std.proofs.lemmas.Iterator.Consumers.{map_from_collect}
pub use Rattle.std.proofs.lemmas.Iterator.Splits.{YieldsList-from_str_split, YieldsList-from_lines}
pub use Rattle.std.proofs.lemmas.List.{append-nil, map-append, length-map, drop_all, get_or-append_right, take_all, append_cancel_right, get_or-reverse, get_or-take, length-reverse, length-take-le, drop_at, get_or_append_left, get_or_at, take_at, take-append-drop, take-append-le}
pub use Rattle.std.proofs.lemmas.List.Concat.{flat_map-append}
pub use Rattle.std.proofs.lemmas.List.Elements.{All-cons, All-drop, All-head, All-nil, All-tail, All-take, All-get_or, All-weaker, All-filter, filter-append, All-append}
pub use Rattle.std.proofs.lemmas.List.Folds.{list_any-append, find-append, list_all-append}
pub use Rattle.std.proofs.lemmas.List.Splits.{slice_split_at, slice_split_none, slice_split-cons_no, slice_split-cons_yes, length-slice_split}
pub use Rattle.std.proofs.lemmas.List.Sums.{passes_at_first, prefix_len-le-length, position_or_len_is, AllPass-from_list_all, suffix_len_is, prefix_len_passes, prefix_len_stops, list_all-from_AllPass}
pub use Rattle.std.proofs.lemmas.Map.Text.{btree_set_updates_text, btree_map_updates_text}
pub use Rattle.std.proofs.lemmas.Map.Views.{any-filter_same}
pub use Rattle.std.proofs.lemmas.Slice.Eq.{bytes_eq-Decides}
pub use Rattle.std.proofs.lemmas.Str.Pattern.{drop_at_char}
pub use Rattle.std.proofs.lemmas.Str.{encode_ascii}
pub use Rattle.std.proofs.lemmas.Str.Parse.{IsNumeralModel, numerals_by_value, parse_gives, digits_value_short}
pub use Rattle.std.specs.BTreeMap.{BTreeMap, get_by_text}
pub use Rattle.std.specs.BTreeSet.{BTreeSet, Updates, UpdatesBy, contains, contains_text, IsUnchanged}
pub use Rattle.std.specs.Char.{is_ascii_graphic, is_ascii_digit, is_ascii_alphabetic, is_ascii_alphanumeric, char_set_contains, IsScalar}
pub use Rattle.std.specs.Cmp.Lexicographic.{slice_cmp}
pub use Rattle.std.specs.Fmt.{decimal}
pub use Rattle.std.specs.Int.{is_in_range}
pub use Rattle.std.specs.List.{flat_map, find, list_any, position_or_len, prefix_len, slice_split, filter, position, All, suffix_len, onto_first, AllByRecursion, position_from, fold, list_all, enumerate_from, after_first, before_first}
pub use Rattle.std.specs.Option.{ok_or, is_some, option_or, option_copied, option_and_then}
pub use Rattle.std.specs.Ordering.{nat_cmp}
pub use Rattle.std.specs.Result.{IsErr, IsErrAnd}
pub use Rattle.std.specs.Str.Pattern.{FindsPrefixBy, FindsSuffixBy, CutsPrefixes, CutsSuffixes, IsFullyTrimmed, IsTrimStartMatches, IsTrimEndMatches}
pub use Rattle.std.specs.Str.{IsUtf8, IsCharBoundary, bytes_eq, str_to_ascii_lowercase, encode_utf8_all}
pub use Rattle.std.specs.Str.Lines.{lines, lines_of_parts, strip_carriage_return, lines as lines_of}
pub use Rattle.std.specs.Str.Parse.{digits_value, ParsesUnsigned}
pub use Rattle.std.specs.String.{string_cmp}
pub use Rattle.std.specs.Vec.Iter.{into_iter_items}
pub use Rattle.zeb_keys.specs.Registers.{register_text}
pub use Rattle.zeb_keys.specs.declared.registers.Register.{Register}
pub use Rattle.zeb_keys.specs.declared.registers.Register.TheVariants.{Word, Phrase, Number}
pub use Rattle.zeb_marc.specs.Contents.{is_control}
pub use Rattle.zeb_marc.specs.Directory.{has_tag_bytes}
pub use Rattle.zeb_profile.specs.Canonical.{target_text, targets_text, pattern_text, canonical_text, canonical_line}
pub use Rattle.zeb_profile.specs.Directives.{directive_of, all_of, att_of, directive_from, identifier_of, melm_of, one_word, store_of, two_words}
pub use Rattle.zeb_profile.specs.Indexes.{names_in, first_spelling, first_told, identifier_pattern, identifier_told, index_names, path_told, store_path, pair_of, all_pairs, index_by_use, unit_targets, all_line_targets, all_told, further_pairs, has_pair, melm_targets, melm_told, same_pair, index_by_name, name_told, use_name, fits}
pub use Rattle.zeb_profile.specs.Laws.{IsProfile, SaysTheSame, without_store}
pub use Rattle.zeb_profile.specs.Lines.{is_blank, is_no_blank, without_leading_blanks, words_of, after_word, trimmed, without_trailing_blanks, says_something}
pub use Rattle.zeb_profile.specs.Outcomes.{◌>>=◌, FailsPlaced, GivesPlaced}
pub use Rattle.zeb_profile.specs.PrivateKeys.{AreIndexes, name_key, target_key, NumbersNames, NotesSpelling, spelled_at, spelled, numbered}
pub use Rattle.zeb_profile.specs.PrivateOutcomes.{Fails}
pub use Rattle.zeb_profile.specs.PrivateRepeats.{NotesAlso, NotesClashes, directive_beside, noted_clash}
pub use Rattle.zeb_profile.specs.PrivateResolved.{any_pair, directives_on, first_pairs, is_all, is_melm_for, line_value, resolved, unit_pairs}
pub use Rattle.zeb_profile.specs.PrivateSettled.{Settles}
pub use Rattle.zeb_profile.specs.Profiles.{clash, directive_after, directives_in, first_clash, first_of, unless, at_line, has_room, is_identifier, is_store, lack_of, placed_after, placed_lines, telling_lines, ties_unknown, all_targets, first_lack, most_indexes, profile_of, targets_in}
pub use Rattle.zeb_profile.specs.Words.{is_name, name_of, number_of, pattern_of, targets_of, same_name, same_register, same_target, target_names, distinct_names, is_colon, is_comma, is_name_byte, register_after_colon, register_of, target_of, targets_after, is_use_number}
pub use Rattle.zeb_profile.specs.declared.directives.Directive.{Directive}
pub use Rattle.zeb_profile.specs.declared.directives.Directive.TheVariants.{Store, Identifier, Att, Melm, All as AllUnits}
pub use Rattle.zeb_profile.specs.declared.directives.Placed.{Placed}
pub use Rattle.zeb_profile.specs.declared.directives.Target.{Target}
pub use Rattle.zeb_profile.specs.declared.faults.ProfileFault.{ProfileFault}
pub use Rattle.zeb_profile.specs.declared.faults.ProfileFaultKind.{ProfileFaultKind}
pub use Rattle.zeb_profile.specs.declared.faults.ProfileFaultKind.TheVariants.{Directive as FaultyDirective, NoIdentifier, NoStore, TooManyIndexes, UnknownIndex, DuplicateTarget, Memory}
pub use Rattle.zeb_profile.specs.declared.patterns.UnitPattern.{UnitPattern}
pub use Rattle.zeb_profile.specs.declared.repeats.Repeats.{Repeats}
pub use Rattle.zeb_profile.specs.declared.resolved.Line.{Line}
pub use base.Stored.{Coded-set}
pub use denote.Struct.Props.{props}
