-- What this crate's proofs cite of std, of the kit, of the crates below and of its own specs, passed on from one place. Declares nothing.
pub use Rattle.sqlite.proofs.StateLemmas.{survives_then}
pub use Rattle.sqlite.specs.Effect.{Database, Database as Contents, IsDatabase}
pub use Rattle.sqlite.specs.Held.{Held, state}
pub use Rattle.sqlite.specs.Order.{Row}
pub use Rattle.sqlite.specs.Schema.{Schema}
pub use Rattle.sqlite.specs.State.{State, KeepsCommit, HasCleanDisk, Survives, IsLive, IsUnchanged, Opens, Shows}
pub use Rattle.sqlite.specs.Store.{Ghosts}
pub use Rattle.sqlite.specs.Tree.{Trees}
pub use Rattle.sqlite.specs.declared.types.Value.TheVariants.{Int, Null, Text}
pub use Rattle.sqlite_catalog.proofs.ReadLemmas.{lists_once}
pub use Rattle.sqlite_rules.proofs.ListLemmas.{has_contained, contains_had, all_from, all_has, has_either, has_left, has_right, some_from, some_has, has_at}
pub use Rattle.sqlite_rules.proofs.ProbeLemmas.{has_mapped, mapped_has}
pub use Rattle.sqlite_rules.specs.Lists.{Has}
pub use Rattle.sqlite_trees.specs.Objects.{catalog_tree}
pub use Rattle.std.proofs.Common.{ℕ, List, Some, Err, ◌≡◌, ◌≢◌, ◌⊎◌, Result, inl, inr, refl, subst, ◌+◌, ◌-◌, ◌*◌, ◌≤◌, Ok, OnOk, String, arith, filter, length, sym, string_bytes, subst₂, take, ◌∙◌, pos, [], ◌∷◌, codes, get_or, ap, IsUtf8, Option, None, IsTrue, ◌↔◌, ℤ, ◌<◌, IfErr, IfOk, Bool, true, false, OnErr, rules, cond, Ordering, Less, Equal, Greater, if◌then◌else◌, find, nat_eq, ◌++◌, map, ap₂, append-nil, nat_lt, zero, suc, drop, ◌&&◌, ◌^◌, nat_le, Bor, IsErrAnd, not, Vec, append_assoc, ◌==◌, MatchResult, slice_get, vec_capacity}
pub use Rattle.std.proofs.Math.Logic.{∥∥₁_elim}
pub use Rattle.std.proofs.Math.Nat.{mul-add, mul-le-mul_left}
pub use Rattle.std.proofs.lemmas.Bool.{cases_Bool, or_cases, and_parts, and_from, eqb-true, eq-eqb, false_from_ne_true}
pub use Rattle.std.proofs.lemmas.Bool.Decides.{Decides-eqb, nat_tests}
pub use Rattle.std.proofs.lemmas.Cmp.{eq_by_cmp_equiv, int_cmp_total}
pub use Rattle.std.proofs.lemmas.Grind.{flat_map-append}
pub use Rattle.std.proofs.lemmas.List.{length-drop, length-take, length-map, take_more, map-append, get_or_default}
pub use Rattle.std.proofs.lemmas.List.Splits.{slice_split_at}
pub use Rattle.std.proofs.lemmas.Map.Made.{length-le_from_is_member}
pub use Rattle.std.proofs.lemmas.Option.{unwrap_or-slice_get}
pub use Rattle.std.proofs.lemmas.Slice.Eq.{bytes_eq-Decides}
pub use Rattle.std.proofs.lemmas.Str.{IsUtf8-string_bytes}
pub use Rattle.std.specs.Char.{is_ascii_digit}
pub use Rattle.std.specs.Cmp.{tied_itself, nat_cmp_total, on_total}
pub use Rattle.std.specs.Cmp.Lexicographic.{slice_cmp, nat_list_cmp_total}
pub use Rattle.std.specs.Fmt.{decimal}
pub use Rattle.std.specs.List.{flat_map, Contains, AllByRecursion, prefix_len, list_any, slice_split, list_all}
pub use Rattle.std.specs.Option.{option_map, option_and_then}
pub use Rattle.std.specs.Ordering.{nat_cmp, int_eq, eq_by_cmp, int_cmp, is_eq}
pub use Rattle.std.specs.Prelude.{⊤, ◌||◌, unwrap_or}
pub use Rattle.std.specs.Result.{IsErr}
pub use Rattle.std.specs.Str.{bytes_eq}
pub use Rattle.std.specs.Str.Lossy.{utf8_lossy}
pub use Rattle.std.specs.Str.Parse.{digits_value}
pub use Rattle.std.specs.declared.alloc.Global.{Global}
pub use Rattle.zeb_analysis.proofs.FirstRefusals.{first_counts}
pub use Rattle.zeb_analysis.proofs.LinesWalk.{refused_still}
pub use Rattle.zeb_analysis.proofs.RefusalKinds.{refusal_at_place}
pub use Rattle.zeb_analysis.proofs.ToldOnce.{told_once as analyses_once}
pub use Rattle.zeb_analysis.proofs.WithinLimit.{few_analyses}
pub use Rattle.zeb_analysis.specs.Analysing.{AnalysesTo, standing_in_all, Analysed}
pub use Rattle.zeb_analysis.specs.Laws.{IsRefusal}
pub use Rattle.zeb_analysis.specs.Lines.{AreLines, GivesLines}
pub use Rattle.zeb_analysis.specs.declared.faults.AnalysisFault.{AnalysisFault}
pub use Rattle.zeb_analysis.specs.declared.lines.AnalysedLines.{AnalysedLines}
pub use Rattle.zeb_change.proofs.BaseLemmas.{base_numbered}
pub use Rattle.zeb_change.proofs.ElderSteps.{files_find}
pub use Rattle.zeb_change.proofs.Elders.{passed_error}
pub use Rattle.zeb_change.proofs.FoldAll.{fine_at, one_failed}
pub use Rattle.zeb_change.proofs.KeptLemmas.{one_number, AreRisingKept, push_rises}
pub use Rattle.zeb_change.proofs.ReadFaults.{IsOfReady, never_unready, no_register_reads}
pub use Rattle.zeb_change.proofs.StoredLemmas.{told_id}
pub use Rattle.zeb_change.proofs.TermTexts.{posted_storable}
pub use Rattle.zeb_change.proofs.TransactionLemmas.{continues_then, kept_then, goes_on}
pub use Rattle.zeb_change.proofs.UnderWay.{same_kept, fault_fails}
pub use Rattle.zeb_change.specs.Base.{Base, Kept, kept_as, with_new}
pub use Rattle.zeb_change.specs.Conditions.{Conditions, conditions}
pub use Rattle.zeb_change.specs.Elders.{AllFindWhole, FirstFindsWhole, IsUpTo, KeepsAside, KeepsWhole, LosesWholeAlone, PassesOn, AreWholeBefore}
pub use Rattle.zeb_change.specs.Folding.{splits_of, Progress, at_first, files_folded, at_end, Changed, updated, deleted, changed_by, with_ident, ident_in, with_record, counted, ◌then◌, slices_folded}
pub use Rattle.zeb_change.specs.Occurs.{occurs}
pub use Rattle.zeb_change.specs.Outcomes.{analysis_refusal, register_refusal, query_refusal, marc_refusal}
pub use Rattle.zeb_change.specs.PrivateConditions.{AreSessions}
pub use Rattle.zeb_change.specs.Reading.{HasFailedAt, NamesFailed, NoneFailed, NoReadFault, StayAble, TellsFaults}
pub use Rattle.zeb_change.specs.Reasons.{LosesNamedAlone, NamesAny, HasReasonAt, IsNewAt, IsRefusedAt, IsRefusedFor}
pub use Rattle.zeb_change.specs.RecordChanges.{AreStores}
pub use Rattle.zeb_change.specs.RecordFolds.{FoldsFiles, OfReaders}
pub use Rattle.zeb_change.specs.Refused.{why_of, Why, Meets, diagnostic, database_full, too_many_records, unknown, damaged, old_format, profile_changed, rule_changed, read_fault, store_failed, out_of_memory, not_initialised, NeverUnready, IsFailing, exists}
pub use Rattle.zeb_change.specs.Stored.{AreKept, IsBase, AreStored, ArePosted}
pub use Rattle.zeb_change.specs.UnderWay.{IsFolded, IsUnderWay, conditions_of, with_records, HaveSystemNumbers, StandsFor}
pub use Rattle.zeb_change.specs.declared.files.Fold.{Fold}
pub use Rattle.zeb_change.specs.declared.refusals.Refusal.{Refusal}
pub use Rattle.zeb_change.specs.declared.refusals.Refusal.TheVariants.{Damaged, ReadFault, Store, OldFormat, ProfileChanged, IdentifierRuleChanged, NotInitialised, Exists}
pub use Rattle.zeb_change.specs.declared.settings.Kind.{Kind}
pub use Rattle.zeb_change.specs.declared.settings.Kind.TheVariants.{Update, Delete, Adelete}
pub use Rattle.zeb_change.specs.declared.settings.Limits.{Limits}
pub use Rattle.zeb_change.specs.declared.tally.Fate.{Fate}
pub use Rattle.zeb_change.specs.declared.tally.Fate.TheVariants.{Inserted, PassedOver}
pub use Rattle.zeb_engine.specs.Adopting.{StaysOpen, HasOwnTables}
pub use Rattle.zeb_engine.specs.Analysed.{HasLines, IsAnalysed, analysis_answer, IsAnalysis}
pub use Rattle.zeb_engine.specs.Answers.{refused, IsFailure, changed, reply_answer, Answer, answer_of, found, scanned, Extent, done, extent_of, analysed, dumped, no_database}
pub use Rattle.zeb_engine.specs.Asking.{IsSaidOrMissed, OfDatabase, IsAsked, Alone, IsSaid, Said}
pub use Rattle.zeb_engine.specs.Causes.{HasStoreCause, OnlyLooks}
pub use Rattle.zeb_engine.specs.Changing.{AreFewRecords, EachFindsWhole, ElderOver, EldersOver, HasNumbersTo, IsOrBecomes, LeavesRows, LosesNamedOver, LosesWhole, ReasonsOver}
pub use Rattle.zeb_engine.specs.Checking.{IsSomeImage, TellsImage, ChecksTables}
pub use Rattle.zeb_engine.specs.Costs.{no_work, Costs}
pub use Rattle.zeb_engine.specs.Counting.{StatSays, HidesRegisters, HidesRegister, StatOver, IsSummedUp, StatTells, IsCounted, IsExtent, Paired, Target, target_list, targets_below}
pub use Rattle.zeb_engine.specs.Crashes.{Accepts, Bears, KeepsDisk, IsStoreDisk, Stands, Leaves, CommitsBy, CommitsAdopted, Endures, IsRefused, CommitsReindex, CommitsCommand, MayCommit, CommitsOne, IsCarriedOut, LeavesOne, AreRefused, EnduresRun, RunLeft}
pub use Rattle.zeb_engine.specs.Does.{AnswersAnyway, Does, InitLeaves}
pub use Rattle.zeb_engine.specs.Dumping.{HidesRecords, JoinsRecords, DumpOver, DumpTells, AreRecordsOf}
pub use Rattle.zeb_engine.specs.Finding.{FindSays, HidesOne, MeetsDamage, RefusesFind, RefusedAlone, CanBeShown, FindOver, FindTells, FindDoes, HidesFind, HidesFound, HidesPlan, has_name, AreShown, IsAnswered, IsNamed, IsPlanned, IsShown, asked_of, IsFound, IsAnsweredBy, IsPlannedBy, FindReads, IsPlanOf, PlanReads}
pub use Rattle.zeb_engine.specs.Hidden.{HidesDatabase, HidesOf, TellsUnlessHidden, UnlessHidden}
pub use Rattle.zeb_engine.specs.Making.{DropsDatabase, OnAccepted, MakesDatabase, CreateOver, DropOver, CountedAnswers}
pub use Rattle.zeb_engine.specs.PrivateAdopting.{MakesTables, MayBeTaken}
pub use Rattle.zeb_engine.specs.PrivateChanging.{MayBeginUnder, BeginsWith, last_of, IsMissedFor, comes_to}
pub use Rattle.zeb_engine.specs.PrivateConnections.{AsksTables, IsSettled, LooksReady, LooksThrough, ReadsAlone, TellsReady}
pub use Rattle.zeb_engine.specs.PrivateCrashes.{IsEmptyDisk, Commits, CommitsTables}
pub use Rattle.zeb_engine.specs.PrivateDatabaseChanges.{Asked, AcceptsChange, AppliesChange, ChangesDatabase, CommitsRows, FoldsInto, Transacts, asked}
pub use Rattle.zeb_engine.specs.PrivateDone.{CommandDone, ReadersDone}
pub use Rattle.zeb_engine.specs.PrivateLooking.{earlier_version, MissesDatabase, IsAskRefusal, IsUnready, FindsStanding, IsLook, RefusesTexts, RefusesVersion, TellsStanding}
pub use Rattle.zeb_engine.specs.PrivateNumbers.{AreGiven, AreWellNumbered, IsMisnumbered, PutsRow}
pub use Rattle.zeb_engine.specs.PrivateWorks.{Always, Serves, IsReady}
pub use Rattle.zeb_engine.specs.PrivateWriting.{AreOf, PutsTexts, HoldsRemade, LeavesNoDatabase, CreatesDatabase, DamagesWrite, DropsNamed, IsUnsound, IsWriteRefusal, MakesRow, RemakesRows, TakesRows, WriteDoes}
pub use Rattle.zeb_engine.specs.Readiness.{IsReadyFor, IsRefusedOver, GoesByTexts, KeepsText, RefusesText, TellsText}
pub use Rattle.zeb_engine.specs.Reindexing.{CanBeRemade, IsRemade, ReindexLeaves, TellsSound, IsReadyToReindex, RefusesReindex, KeepsRule}
pub use Rattle.zeb_engine.specs.Replies.{shown_number, record_lines, records_text, holding_line, entry_line, hits_text, hit_line, reply_text}
pub use Rattle.zeb_engine.specs.Rules.{same_rule, are_same, is_rule_line, rule_line}
pub use Rattle.zeb_engine.specs.Scanning.{ScanSays, HidesAround, HidesPlanned, HidesTerms, ScanOver, TellsAround, ScanTells, ScanDoes, ScanReads, IsScanned, IsScanPlanned, around, IsScannedBy, IsScanPlannedBy, AreAround}
pub use Rattle.zeb_engine.specs.Steps.{holding, start_of, checked, checked_from, Step, Ends, Outcome, dumped_by, dumped_from, dumped_in, FindAnswers, AskedAmong, AskedFrom, AskedIn, ScanAnswers, CountedFrom, CountedIn, Turn, change_ends, change_from, created_in, dropped_in, ends, turned_from, all_stay, OnlyAnswers, FoundFrom, ScannedFrom, Run, TellsOrFails, StatAnswers, TakesFiles, ready, changed_by_files, turned, upgraded, created, dropped, reindexed, ruled, upgradable, initialised}
pub use Rattle.zeb_engine.specs.Transactions.{AsksStore, Commanded, CommandedBy, EnduresRefusal, LeavesNoMore, IsDurable, NoneAsks}
pub use Rattle.zeb_engine.specs.Upgrading.{UpgradeDoes, UpgradeLeaves, RefusesUpgrade, KeepsUpgradable}
pub use Rattle.zeb_engine.specs.Versions.{is_earlier, is_taken}
pub use Rattle.zeb_engine.specs.Works.{ServesBy, ServesCommand, Runs, FindOpen, InTurn, CommandTurns}
pub use Rattle.zeb_engine.specs.declared.commands.Command.{Command}
pub use Rattle.zeb_engine.specs.declared.commands.Command.TheVariants.{Find, Scan, Change, Init, Check, Reindex, Upgrade, Create, Drop, Stat, Dump, Analyse}
pub use Rattle.zeb_engine.specs.declared.find.Question.{Question}
pub use Rattle.zeb_engine.specs.declared.looks.Earlier.{Earlier}
pub use Rattle.zeb_engine.specs.declared.looks.Standing.{Standing}
pub use Rattle.zeb_engine.specs.declared.replies.Hit.{Hit}
pub use Rattle.zeb_engine.specs.declared.replies.Holding.{Holding}
pub use Rattle.zeb_engine.specs.declared.replies.Reply.{Reply}
pub use Rattle.zeb_engine.specs.declared.replies.Reply.TheVariants.{Done, Dumped, Counted, Found, Scanned}
pub use Rattle.zeb_engine.specs.declared.scan.Around.{Around}
pub use Rattle.zeb_engine.specs.declared.writes.Write.{Write}
pub use Rattle.zeb_extract.specs.Identifier.{first_fitting, held_in, identifier_of, without_spaces}
pub use Rattle.zeb_extract.specs.declared.naming.IdentFault.{IdentFault}
pub use Rattle.zeb_image.proofs.Bases.{named_found, bytes_other, named_none, with_base_has, with_base_in_order, bytes_told, name_order, without_base_has, without_base_in_order, named_there}
pub use Rattle.zeb_image.proofs.Ids.{none_in, id_same, id_other, ids_told}
pub use Rattle.zeb_image.proofs.OneText.{under_other, bases_so}
pub use Rattle.zeb_image.specs.Holdings.{Holdings, base_named, new_base, under, base_placed, without_base, nothing_yet, with_base}
pub use Rattle.zeb_image.specs.Image.{HasTexts, AreBases, IsImage, IsImageOf, Keeps, AreListed, IsImageUnder, AreListsOf}
pub use Rattle.zeb_image.specs.NameOf.{name_bytes}
pub use Rattle.zeb_image.specs.Names.{IsDatabaseName}
pub use Rattle.zeb_image.specs.declared.names.DbName.{DbName}
pub use Rattle.zeb_keys.specs.declared.Register.{Register}
pub use Rattle.zeb_keys.specs.declared.keys.Key.{Key}
pub use Rattle.zeb_keys.specs.declared.keys.Occurrence.{Occurrence}
pub use Rattle.zeb_keys.specs.declared.registers.Register.TheVariants.{Word}
pub use Rattle.zeb_marc.proofs.FaultLaws.{record_faults}
pub use Rattle.zeb_marc.specs.Contents.{UnitText, units_of}
pub use Rattle.zeb_marc.specs.Leader.{first_failing, slice_checks}
pub use Rattle.zeb_marc.specs.Records.{first_fault, IsRecordFault, fields_of}
pub use Rattle.zeb_marc.specs.Splits.{Split, Next, a_slice, a_fault, is_separator, next_if, next_behind, split_next, split_within, split_of}
pub use Rattle.zeb_marc.specs.declared.faults.MarcFault.{MarcFault}
pub use Rattle.zeb_profile.proofs.DirectivesBack.{IsRead}
pub use Rattle.zeb_profile.proofs.LinesBack.{is_line_feed}
pub use Rattle.zeb_profile.proofs.ProfilesBack.{profile_sound}
pub use Rattle.zeb_profile.proofs.WrittenLines.{AllRead, written_one_line, written}
pub use Rattle.zeb_profile.specs.Canonical.{canonical_text, pattern_text, canonical_line, targets_text}
pub use Rattle.zeb_profile.specs.Indexes.{identifier_pattern, index_names}
pub use Rattle.zeb_profile.specs.Laws.{IsProfile}
pub use Rattle.zeb_profile.specs.Profiles.{is_identifier}
pub use Rattle.zeb_profile.specs.Words.{pattern_of}
pub use Rattle.zeb_profile.specs.declared.directives.Directive.{Directive}
pub use Rattle.zeb_profile.specs.declared.directives.Directive.TheVariants.{Identifier, Att, Melm, All as AllUnits}
pub use Rattle.zeb_profile.specs.declared.patterns.UnitPattern.{UnitPattern}
pub use Rattle.zeb_query.proofs.HoldingLemmas.{take_whole}
pub use Rattle.zeb_query.proofs.TextFaults.{apart, one_fault, one_query}
pub use Rattle.zeb_query.specs.Checks.{Fails, Refusal as PlanRefusal}
pub use Rattle.zeb_query.specs.Grammar.{QueryValue, SpellsQuery, query_value}
pub use Rattle.zeb_query.specs.Places.{IsReadable, IsFaultOf}
pub use Rattle.zeb_query.specs.Plans.{PlanValue, plan_of, HasSmallNumber, HasSmallNumbers, NearOf, NoWordsOf, PairOf, RecordNumberOf, TermOf, TermPlanValue, ScanValue, scan_of, plan_value, scan_value}
pub use Rattle.zeb_query.specs.declared.faults.QueryFault.{QueryFault}
pub use Rattle.zeb_query.specs.declared.faults.QueryFault.TheVariants.{Diagnostic, Memory}
pub use Rattle.zeb_register.proofs.Calls.{store_same, nothing_then, goes_keeps, goes_then, on_err, reads_goes, nothing_still}
pub use Rattle.zeb_register.proofs.CallsInTurn.{quiet_then, quiet_still}
pub use Rattle.zeb_register.proofs.Causes.{may_after}
pub use Rattle.zeb_register.proofs.ContentLemmas.{ints_order}
pub use Rattle.zeb_register.proofs.CountLemmas.{is_less, less_is}
pub use Rattle.zeb_register.proofs.CountLists.{before_held, from_held, totals_held, held_shows}
pub use Rattle.zeb_register.proofs.DatabaseStatements.{one_name}
pub use Rattle.zeb_register.proofs.FormatLemmas.{registers_empty, registers_stay, one_format}
pub use Rattle.zeb_register.proofs.Malformed.{malformed_same, malformed_then}
pub use Rattle.zeb_register.proofs.OccurringLemmas.{one_terms, one_totals, terms_as, totals_as}
pub use Rattle.zeb_register.proofs.RisingLists.{same_list}
pub use Rattle.zeb_register.proofs.RowsAreLists.{one_last, one_text}
pub use Rattle.zeb_register.proofs.TermLists.{has_taken}
pub use Rattle.zeb_register.specs.Answers.{Answers, IfDamaged, LooksInto}
pub use Rattle.zeb_register.specs.Calls.{ChangesNothing, OnlyReads, GoesOn, Alters, Inside, MayRefuse, Reading}
pub use Rattle.zeb_register.specs.Catalog.{IsDatabaseOf, PutsDatabase, AreCountedDatabases}
pub use Rattle.zeb_register.specs.Clauses.{IsReasoned, OnStore}
pub use Rattle.zeb_register.specs.Content.{Content, Posting, posting_cmp, IsStorable, posted, HasRisingLists, IsWithout, TakesWhole}
pub use Rattle.zeb_register.specs.Formats.{Format, holds_in, version_of, packed_blocks, packed_leaves, plain_rows}
pub use Rattle.zeb_register.specs.Kept.{IsFirstFrom, AreReadable, IsNumberOf, IsRecordCount, IsIdentOf, AreReadableIdents}
pub use Rattle.zeb_register.specs.Occurring.{AreTermsBefore, AreTermsFrom, is_before, is_from, last, key_in}
pub use Rattle.zeb_register.specs.Sound.{KeepsBeside, KeepsRowsBeside, keeps_malformed}
pub use Rattle.zeb_register.specs.Terms.{HidesBefore, HidesFrom, HidesSums, ListsBefore, ListsFrom, SumsUp}
pub use Rattle.zeb_register.specs.Sql.{HasRow, Replaces, KeepsOthers, Loses}
pub use Rattle.zeb_register.specs.Store.{IsStore, IsEmptyStore, Changes, LacksRegisters, meta_tree, entry, IsEntryOf, record_row, HasDatabase, HasRecord, blocks_tree, databases_tree, dict_tree, postings_tree, KeepsRegisters, IsOfDatabase, TakesDatabase, IsValueOf, AreReadableTexts, KeepsLists}
pub use Rattle.zeb_register.specs.Tables.{store_schema, no_schema}
pub use Rattle.zeb_register.specs.Tallies.{Works, works_for}
pub use Rattle.zeb_register.specs.declared.RegFault.{RegFault}
pub use Rattle.zeb_register.specs.declared.kept.Record.{Record}
pub use Rattle.zeb_register.specs.declared.registers.TermCount.{TermCount}
pub use Rattle.zeb_register.specs.declared.registers.Work.{Work}
pub use Rattle.zeb_search.proofs.HoldsAlike.{tree_alike}
pub use Rattle.zeb_search.proofs.KnownHolders.{holder_known, IsKnown}
pub use Rattle.zeb_search.proofs.PlanLaws.{plan_held, plan_shown}
pub use Rattle.zeb_search.proofs.ReadLemmas.{clean_before, accepted, one_read, read_still, read_then, still_store, still_trees, as_read}
pub use Rattle.zeb_search.proofs.ReadableNames.{names_readable}
pub use Rattle.zeb_search.proofs.SearchCountLemmas.{counts_then, counts_within, terms_count}
pub use Rattle.zeb_search.specs.Finds.{PlanFinds, PlanHides}
pub use Rattle.zeb_search.specs.Holds.{TreeHolds, TermHolds}
pub use Rattle.zeb_search.specs.Lists.{AreNumbers}
pub use Rattle.zeb_search.specs.Registers.{has_ident_in, HoldsIn, is_kept_in, NamesReadable}
pub use Rattle.zeb_search.specs.SearchCounts.{CountsAtMost}
pub use Rattle.zeb_search.specs.Searching.{Searches}
pub use Rattle.zeb_search.specs.Untouched.{IsUntouched}
pub use Rattle.zeb_text.proofs.KeyLemmas.{value_of_key, digits_of_key, length_of_key, digits_from_all, all_from_digits, is_key}
pub use Rattle.zeb_text.specs.Numbers.{number_key}
pub use base.Stored.{Coded-set}
pub use denote.Struct.Props.{props}
pub use mathlib.Core.Bool.{Bool-set}
