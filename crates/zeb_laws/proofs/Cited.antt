-- What this crate's proofs cite of std, of the kit, of the crates below and of its own specs, passed on from one place. Declares nothing.
pub use Rattle.sqlite.specs.Tree.{Trees}
pub use Rattle.sqlite_rules.proofs.ListLemmas.{has_contained, contains_had, has_filtered, has_kept, has_found, has_right, all_from, all_has, has_left, has_either}
pub use Rattle.sqlite_rules.proofs.ProbeLemmas.{has_mapped, mapped_has}
pub use Rattle.sqlite_rules.specs.Lists.{Has}
pub use Rattle.std.proofs.Common.{◌≡◌, ℕ, List, Result, Ok, Err, refl, [], map, sym, ap, subst, string_bytes, ◌≢◌, ◌↔◌, ◌∙◌, true, false, not, ◌∷◌, ◌++◌, Option, Some, None, inl, inr, ◌-◌, Bool, cond, ◌&&◌, length, find, take, drop, nat_eq, nat_lt, ◌+◌, nat_le, ◌⊎◌, ◌<◌, ◌^◌, IsUtf8, arith, ◌≤◌, zero, suc, Ordering, Less, Equal, Greater, filter, length-append, append_assoc, pos, codes, ap₂, chars}
pub use Rattle.std.proofs.lemmas.Bool.{not-true}
pub use Rattle.std.proofs.lemmas.Bool.Decides.{Decides-eqb, nat_tests}
pub use Rattle.std.proofs.lemmas.Cmp.{on_total, tied_itself, ranked}
pub use Rattle.std.proofs.lemmas.List.{take-append-drop, length-map}
pub use Rattle.std.proofs.lemmas.List.Elements.{All-contains}
pub use Rattle.std.proofs.lemmas.List.Sums.{sum_by-cons, AllPass-from_list_all}
pub use Rattle.std.proofs.lemmas.Slice.Eq.{bytes_eq-Decides}
pub use Rattle.std.proofs.lemmas.Str.{IsUtf8-from_is_utf8, is_utf8-from_IsUtf8}
pub use Rattle.std.specs.Cmp.{nat_cmp_total, IsTotalOrder, then_total}
pub use Rattle.std.specs.Cmp.Lexicographic.{slice_cmp, nat_list_cmp_total}
pub use Rattle.std.specs.Fmt.{decimal}
pub use Rattle.std.specs.List.{Contains, flat_map}
pub use Rattle.std.specs.Option.{option_map}
pub use Rattle.std.specs.Ordering.{nat_cmp, ordering_then, MatchOrdering}
pub use Rattle.std.specs.Prelude.{⊤, if◌then◌else◌}
pub use Rattle.std.specs.Str.{bytes_eq, is_utf8}
pub use Rattle.zeb_change.proofs.FoldLemmas.{named_record}
pub use Rattle.zeb_change.proofs.FoldSteps.{folded_ok}
pub use Rattle.zeb_change.proofs.KeptLemmas.{has_same, is_ident, none_kept, same_has, AreRisingKept, kept_found}
pub use Rattle.zeb_change.specs.Base.{Base, Kept, has_ident, kept_as, without_ident, with_new, with_bytes}
pub use Rattle.zeb_change.specs.Conditions.{Conditions}
pub use Rattle.zeb_change.specs.Folding.{Progress, at_first, files_folded, splits_of, Changed, changed_by, deleted, ident_in, with_ident, with_record, counted, at_end, slices_folded, updated, ◌then◌, record_folded}
pub use Rattle.zeb_change.specs.Occurs.{OccursIn, occurs}
pub use Rattle.zeb_change.specs.Outcomes.{marc_refusal}
pub use Rattle.zeb_change.specs.Refused.{Why, unknown, diagnostic, database_full, too_many_records, faulty, why_of}
pub use Rattle.zeb_change.specs.Stored.{IsBase}
pub use Rattle.zeb_change.specs.declared.settings.Kind.{Kind}
pub use Rattle.zeb_change.specs.declared.settings.Kind.TheVariants.{Update, Delete, Adelete}
pub use Rattle.zeb_change.specs.declared.settings.Limits.{Limits}
pub use Rattle.zeb_change.specs.declared.tally.Fate.{Fate}
pub use Rattle.zeb_change.specs.declared.tally.Fate.TheVariants.{PassedOver, Inserted, Updated, Deleted}
pub use Rattle.zeb_engine.proofs.FoldNames.{counted_in}
pub use Rattle.zeb_engine.proofs.OneAnswer.{found_once, name_once, answered_once, steps_once}
pub use Rattle.zeb_engine.proofs.OwnAnswers.{IsOwnAnswer, answers_own}
pub use Rattle.zeb_engine.proofs.Ready.{ready_good, none_there, profile_is, version_is}
pub use Rattle.zeb_engine.proofs.RenewalSteps.{reindex_done, reindex_stays, ruled_good, upgrade_again, upgrade_stays}
pub use Rattle.zeb_engine.proofs.RenewedImages.{rules_told}
pub use Rattle.zeb_engine.proofs.StepLemmas.{outcome, step_is, step_told}
pub use Rattle.zeb_engine.proofs.TurnedOutcomes.{step_changed, step_unchanged}
pub use Rattle.zeb_engine.specs.Analysed.{IsAnalysed, analysis_answer}
pub use Rattle.zeb_engine.specs.Answers.{changed, Answer, done, Extent, found, refused, scanned, no_database}
pub use Rattle.zeb_engine.specs.Counting.{IsCounted, IsExtent, Paired, Target, name_of_index, target_list, target_in, targets_of_index, targets_below}
pub use Rattle.zeb_engine.specs.Crashes.{Accepts}
pub use Rattle.zeb_engine.specs.Finding.{AreShown, IsAnswered, IsFound, IsNamed, IsPlanned, IsShown, has_name}
pub use Rattle.zeb_engine.specs.Scanning.{IsScanned, IsScanPlanned, around}
pub use Rattle.zeb_engine.specs.Steps.{change_ends, change_from, ends, start_of, turned_from, AskedFrom, CountedFrom, FindAnswers, ScanAnswers, Step, Turn, all_stay, checked_from, created, dropped, dumped_from, holding, ruled, upgradable, AskedIn, StatAnswers, dumped_by, checked, AskedAmong, FoundFrom, Outcome, Run, changed_by_files, initialised, ready, turned, reindexed, upgraded}
pub use Rattle.zeb_engine.specs.Transactions.{AsksStore}
pub use Rattle.zeb_engine.specs.declared.commands.Command.{Command}
pub use Rattle.zeb_engine.specs.declared.commands.Command.TheVariants.{Init, Check, Reindex, Upgrade, Create, Drop, Stat, Dump, Change, Find, Scan, Analyse}
pub use Rattle.zeb_extract.proofs.Listed.{occurrences_are_listed}
pub use Rattle.zeb_extract.proofs.Members.{Contains-flat_map, Contains-map, from_flat_map, from_map}
pub use Rattle.zeb_extract.specs.Occurrences.{IsOccurrence}
pub use Rattle.zeb_extract.specs.PrivateListing.{listing}
pub use Rattle.zeb_extract.specs.declared.naming.IdentFault.{IdentFault}
pub use Rattle.zeb_image.proofs.Bases.{named_there, with_base_has, with_base_in_order}
pub use Rattle.zeb_image.proofs.OneText.{under_other}
pub use Rattle.zeb_image.specs.Holdings.{Holdings, base_named, nothing_yet, under, new_base, with_base}
pub use Rattle.zeb_image.specs.Image.{AreBases, IsImage, IsImageOf, IsImageUnder}
pub use Rattle.zeb_image.specs.NameOf.{name_bytes}
pub use Rattle.zeb_keys.proofs.Rising.{numbers_apart, occurrence_total, occurrences_apart, key_total, keys_apart, texts_apart, both_equal}
pub use Rattle.zeb_keys.specs.Registers.{register_code}
pub use Rattle.zeb_keys.specs.declared.Register.{Register}
pub use Rattle.zeb_keys.specs.declared.keys.Key.{Key}
pub use Rattle.zeb_keys.specs.declared.keys.Occurrence.{Occurrence}
pub use Rattle.zeb_keys.specs.declared.registers.Register.TheVariants.{Word, Phrase, Number}
pub use Rattle.zeb_laws.specs.Counts.{IsAccepted, FoldsTo, records_in, HasNamesake}
pub use Rattle.zeb_laws.specs.Lasting.{NoneHas, slices_in, IsLastOf, KeepsIdent, SomeHas}
pub use Rattle.zeb_laws.specs.Targets.{target_cmp}
pub use Rattle.zeb_laws.specs.Worked.{whale, ahab, BookHolds, book, book_base, book_conditions, faulty_file, no_books, one_book, title_plan, title_word, IsUpdateBy, IsFindBy}
pub use Rattle.zeb_lower_laws.proofs.SampleAnalysis.{members}
pub use Rattle.zeb_lower_laws.specs.Sample.{moby_dick_analysis, title_profile, term_at}
pub use Rattle.zeb_lower_laws.specs.WorkedRecord.{worked_record}
pub use Rattle.zeb_marc.specs.Records.{first_fault, fields_of}
pub use Rattle.zeb_marc.specs.Splits.{Split, split_of}
pub use Rattle.zeb_marc.specs.declared.faults.MarcFault.{MarcFault}
pub use Rattle.zeb_marc.specs.declared.faults.MarcFault.TheVariants.{LengthDigits}
pub use Rattle.zeb_profile.specs.Canonical.{canonical_text}
pub use Rattle.zeb_profile.specs.Indexes.{unit_targets, has_pair, index_names}
pub use Rattle.zeb_profile.specs.declared.directives.Directive.{Directive}
pub use Rattle.zeb_query.proofs.TextFaults.{read_or_faulty, apart, readable}
pub use Rattle.zeb_query.proofs.WordStretches.{words_are_read}
pub use Rattle.zeb_query.specs.Checks.{Refusal}
pub use Rattle.zeb_query.specs.Grammar.{QueryValue, TermValue, IsQuery, is_term, is_attribute, is_structure, no_head, with_attribute, SpellsQuery}
pub use Rattle.zeb_query.specs.Places.{IsReadable}
pub use Rattle.zeb_query.specs.Plans.{PlanValue, ScanValue, plan_of, scan_of, TermOf, PairOf, NearOf, TermPlanValue, RecordNumberOf, NoWordsOf, AlwaysOf, NumberOf, OrderedOf, CompleteOf, PhraseOf, AllWordsOf, AnyWordOf}
pub use Rattle.zeb_query.specs.PrivateWalk.{words_at, unquoted}
pub use Rattle.zeb_query.specs.declared.plans.DistanceRelation.{DistanceRelation}
pub use Rattle.zeb_query.specs.declared.plans.Operator.{Operator}
pub use Rattle.zeb_query.specs.declared.plans.Relation.{Relation}
pub use Rattle.zeb_query.specs.declared.plans.Separation.{Separation}
pub use Rattle.zeb_register.proofs.ContentChanges.{postings_apart}
pub use Rattle.zeb_register.proofs.OccurringLemmas.{spot_total}
pub use Rattle.zeb_register.proofs.RisingLists.{told_by, all_rise, all_there, with_all, same_list, joined_rises}
pub use Rattle.zeb_register.proofs.TermLists.{has_taken}
pub use Rattle.zeb_register.specs.Formats.{Format}
pub use Rattle.zeb_register.specs.Occurring.{key_in, AreSpotsOf, AreTermsOf, AreTotals, HasSpot, IsCount, Spot, TermIn, capped, spot_cmp, term_cmp, HasKey}
pub use Rattle.zeb_register.specs.Store.{HasDatabase, HasRecord, meta_tree}
pub use Rattle.zeb_register.specs.declared.registers.TermCount.{TermCount}
pub use Rattle.zeb_register.specs.declared.registers.Totals.{Totals}
pub use Rattle.zeb_search.proofs.KnownHolders.{holder_known}
pub use Rattle.zeb_search.proofs.PlainWords.{plain_word}
pub use Rattle.zeb_search.specs.Comparing.{AreApart, AreSeparated, IsDistant, Precedes, Stands, StandsInOrder}
pub use Rattle.zeb_search.specs.Holds.{TreeHolds, AreJoined, Fits, HasEntry, HasMatch, HasNear, HasPhrase, HasWord, HasWords, IsNumberAt, TermHolds}
pub use Rattle.zeb_search.specs.Lists.{AreNumbers}
pub use Rattle.zeb_text.specs.Numbers.{number_key}
pub use Rattle.zeb_text.specs.Patterns.{Matches}
pub use Rattle.zeb_text.specs.Symbols.{Symbol, Char, Star}
