-- What this crate's proofs cite of std, of the kit, of the crates below and of its own specs, passed on from one place. Declares nothing.
pub use Rattle.std.proofs.Common.{◌≡◌, ◌∙◌, ℕ, ◌+◌, ◌≤◌, ◌<◌, suc, true, false, cond, leb, List, [], ◌∷◌, length, length-append, Option, Some, None, Result, Ok, Err, refl, sym, ap, arith, ◌++◌, append_assoc, subst, subst₂, map, drop, get_or, ◌↔◌, zero, take, ◌≢◌, ◌==◌, ◌&&◌, ◌^◌, Bool, inl, inr, ◌⊎◌, rules, IfErr, ◌*◌, string_bytes}
pub use Rattle.std.proofs.Math.Seq.{take-suc}
pub use Rattle.std.proofs.lemmas.Bool.{leb-false, and_parts, and_from, cases_Bool, eqb-true, eq-eqb, le-leb, lt-leb}
pub use Rattle.std.proofs.lemmas.Grind.{flat_map-append}
pub use Rattle.std.proofs.lemmas.List.{append-nil, drop_all, length-map, map-append}
pub use Rattle.std.specs.Char.{is_ascii_digit}
pub use Rattle.std.specs.Fmt.{decimal}
pub use Rattle.std.specs.List.{AllByRecursion, flat_map, list_all, Contains}
pub use Rattle.std.specs.Option.{option_or, option_and_then}
pub use Rattle.std.specs.Prelude.{slice_get, ⊤}
pub use Rattle.std.specs.Str.Lossy.{utf8_lossy}
pub use Rattle.std.specs.Str.Parse.{digits_value}
pub use Rattle.zeb_analysis.specs.Analysing.{Analysed, AnalysesTo, Standing, first_refusal, refused_content, refused_record, standing_from, standing_in_all, IsAnalysisOf, at_place, place_at, AreAnalysesOf, refused_name, units_in, analysed}
pub use Rattle.zeb_analysis.specs.Laws.{IsFirstRefused, IsRefusal}
pub use Rattle.zeb_analysis.specs.Printing.{printed_number, occurrence_line, record_line}
pub use Rattle.zeb_analysis.specs.PrivateRefusals.{ident_fault}
pub use Rattle.zeb_analysis.specs.Lines.{AreLines, GivesLines, lines_of}
pub use Rattle.zeb_analysis.specs.PrivateLines.{StandBehind}
pub use Rattle.zeb_analysis.specs.PrivateWalk.{AnalysesNext, Extends, IsTaken, record_at}
pub use Rattle.zeb_analysis.specs.declared.analysing.Analysis.{Analysis}
pub use Rattle.zeb_analysis.specs.declared.analysing.Setting.{Setting}
pub use Rattle.zeb_analysis.specs.declared.faults.Place.{Place}
pub use Rattle.zeb_analysis.specs.declared.lines.AnalysedLines.{AnalysedLines}
pub use Rattle.zeb_analysis.specs.declared.faults.AnalysisFault.{AnalysisFault}
pub use Rattle.zeb_analysis.specs.declared.faults.AnalysisFault.TheVariants.{TooManyRecords, Marc, Ident, Memory}
pub use Rattle.zeb_extract.specs.Identifier.{checked, first_fitting, held_in, identifier_of, is_bad, without_spaces}
pub use Rattle.zeb_extract.specs.Occurrences.{IsOccurrence}
pub use Rattle.zeb_extract.specs.declared.naming.IdentFault.{IdentFault}
pub use Rattle.zeb_keys.proofs.Rising.{rising_unique, occurrence_total, occurrences_apart}
pub use Rattle.zeb_keys.specs.declared.keys.Occurrence.{Occurrence}
pub use Rattle.zeb_marc.proofs.FaultLaws.{record_faults}
pub use Rattle.zeb_marc.proofs.SplitLaws.{NextIs, next_view, split_of-next, SoundSlice-from_checks, IsSplit-split_of}
pub use Rattle.zeb_marc.specs.Contents.{UnitText, units_of}
pub use Rattle.zeb_marc.specs.Leader.{Check, first_failing, slice_checks}
pub use Rattle.zeb_marc.specs.Records.{first_fault, IsRecordFault}
pub use Rattle.zeb_marc.specs.Splits.{split_of, Next, at_end, a_slice, a_fault, next_of, Gives, IsNoSlice, IsSplit, IsTooLong}
pub use Rattle.zeb_marc.specs.declared.faults.MarcFault.{MarcFault}
pub use Rattle.zeb_marc.specs.declared.faults.MarcFault.TheVariants.{ReadFault}
pub use Rattle.zeb_profile.specs.Indexes.{identifier_pattern, unit_targets}
pub use Rattle.zeb_profile.specs.declared.directives.Directive.{Directive}
pub use Rattle.zeb_text.proofs.KeyLemmas.{value_of_key, digits_of_key, length_of_key, digits_from_all, all_from_digits, is_key}
pub use Rattle.zeb_text.specs.Numbers.{number_key}
