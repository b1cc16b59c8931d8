-- What clauses of this crate's functions cite beside std's plain words, passed on from one place. Declares nothing.
pub use Rattle.std.specs.BTreeMap.{get_by_text}
pub use Rattle.std.specs.Char.{is_ascii_digit}
pub use Rattle.std.specs.List.{list_all, list_any, position_or_len, slice_split}
pub use Rattle.std.specs.Str.Lines.{lines}
pub use Rattle.zeb_profile.specs.Canonical.{canonical_line, canonical_text, pattern_text, target_text, targets_text}
pub use Rattle.zeb_profile.specs.Directives.{all_of, att_of, directive_of, identifier_of, melm_of, one_word, store_of, two_words}
pub use Rattle.zeb_profile.specs.Indexes.{first_spelling, fits, further_pairs, identifier_pattern, identifier_told, index_names, name_told, names_in, pair_of, path_told, same_pair, store_path, use_name}
pub use Rattle.zeb_profile.specs.Laws.{IsProfile}
pub use Rattle.zeb_profile.specs.Lines.{after_word, is_blank, says_something, trimmed, without_leading_blanks, without_trailing_blanks, words_of}
pub use Rattle.zeb_profile.specs.Outcomes.{FailsPlaced, GivesPlaced}
pub use Rattle.zeb_profile.specs.PrivateKeys.{AreIndexes, NotesSpelling, NumbersNames, name_key, spelled, target_key, numbered}
pub use Rattle.zeb_profile.specs.PrivateOutcomes.{Gives}
pub use Rattle.zeb_profile.specs.PrivateRepeats.{NotesAlso, directive_beside}
pub use Rattle.zeb_profile.specs.PrivateResolved.{any_pair, directives_on, first_pairs, is_all, is_melm_for, line_value, resolved, unit_pairs}
pub use Rattle.zeb_profile.specs.PrivateSettled.{Settles}
pub use Rattle.zeb_profile.specs.Profiles.{directives_in, lack_of, placed_lines, profile_of, targets_in, ties_unknown, unless}
pub use Rattle.zeb_profile.specs.TargetsLeft.{targets_left}
pub use Rattle.zeb_profile.specs.Words.{is_comma, is_name, is_name_byte, name_of, number_of, pattern_of, register_of, same_name, target_of, targets_of}
