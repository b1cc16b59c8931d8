-- What this crate's proofs cite of std, of the kit, of the crates below and of its own specs, passed on from one place. Declares nothing.
pub use Rattle.sqlite.specs.Effect.{Database}
pub use Rattle.sqlite.specs.Held.{state}
pub use Rattle.sqlite.specs.Order.{Row, column}
pub use Rattle.sqlite.specs.State.{State, KeepsCommit, HasCleanDisk, Survives}
pub use Rattle.sqlite.specs.Tree.{Trees}
pub use Rattle.sqlite.specs.declared.types.Value.TheVariants.{Int, Text, Blob}
pub use Rattle.sqlite_rules.proofs.ListLemmas.{has_contained, contains_had, all_has, has_left, has_right, has_either, has_filtered, has_kept, has_found, all_from}
pub use Rattle.sqlite_rules.proofs.ProbeLemmas.{has_mapped, mapped_has}
pub use Rattle.sqlite_rules.specs.Lists.{Has}
pub use Rattle.sqlite_trees.proofs.ListLemmas.{all-append}
pub use Rattle.std.proofs.Common.{◌≡◌, ◌∙◌, ◌+◌, ◌<◌, ◌≤◌, ◌++◌, ℕ, ℤ, List, [], ◌∷◌, Option, Some, None, Ok, inl, inr, refl, sym, ap, subst, arith, ◌≢◌, ◌⊎◌, not, ◌↔◌, map, length, Result, Err, IfErr, OnOk, ◌*◌, ◌^◌, subst₂, pos, IsUtf8, if◌then◌else◌, zero, suc, Bool, true, false, drop, get_or, set, length-set, get_or-set_other, get_or-set_same, nat_le, find, Equal, Greater, Ordering, slice_get, ◌&&◌, nat_eq, cond, ◌/◌, ◌%◌, length-append, IfOk, filter, is_lt, ap₂, ◌||◌, encode_utf8, encode_utf8_all, All, lit<, rules, take, IsTrue, slice_set, slice_index_or}
pub use Rattle.std.proofs.Math.ListN.{drop_of_length-le}
pub use Rattle.std.proofs.Math.Seq.{drop-cons, split_at}
pub use Rattle.std.proofs.lemmas.Bool.{cases_order, and_parts, and_from, eqb-true, eq-eqb, cases_lt, lt-ltb, le-ltb, cond-true, cond-false, cases_Bool}
pub use Rattle.std.proofs.lemmas.Bool.Decides.{nat_tests, Decides-eqb, Decides-int_eq}
pub use Rattle.std.proofs.lemmas.Cmp.{tied_itself}
pub use Rattle.std.proofs.lemmas.Fmt.{IsAscii-from_digits}
pub use Rattle.std.proofs.lemmas.Iterator.Adapters.{YieldsList-from_vec}
pub use Rattle.std.proofs.lemmas.Iterator.Consumers.{YieldsList-end, YieldsList-so_far, YieldsList-turn}
pub use Rattle.std.proofs.lemmas.List.{length-map, drop_more, map-append, append-nil, append_assoc, take_more}
pub use Rattle.std.proofs.lemmas.List.Elements.{filter-append, All-head, All-tail}
pub use Rattle.std.proofs.lemmas.List.Kept.{IsStrictlySortedBy-filter}
pub use Rattle.std.proofs.lemmas.List.Sorted.{IsNonDecreasingBy-from_sort_by_key, answers_always}
pub use Rattle.std.proofs.lemmas.Slice.Eq.{bytes_eq-Decides, slice_eq-Decides}
pub use Rattle.std.proofs.lemmas.Str.{IsUtf8-nil, IsUtf8-append, IsUtf8-encode, IsUtf8-from_ascii, encode_ascii}
pub use Rattle.std.specs.BTreeMap.{BTreeMap, get, insert_entry, is_at, Updates, WritesThrough, IsOrdered, keys}
pub use Rattle.std.specs.Bool.{Decides}
pub use Rattle.std.specs.Char.{IsScalar}
pub use Rattle.std.specs.Cmp.{nat_cmp_total, int_cmp_total}
pub use Rattle.std.specs.Cmp.Lexicographic.{pointwise, same_text}
pub use Rattle.std.specs.List.{flat_map, Contains, AllByRecursion, AllZip, AllPass, enumerate_from}
pub use Rattle.std.specs.List.Sorted.{IsStableByKey, ties, IsStrictlySortedBy}
pub use Rattle.std.specs.Map.{lookup, set_value}
pub use Rattle.std.specs.Ordering.{nat_cmp, ordering_then, is_eq, int_eq, ordering_reverse}
pub use Rattle.std.specs.Prelude.{⊤, ◌==◌}
pub use Rattle.std.specs.Str.{bytes_eq}
pub use Rattle.std.specs.declared.cmp.Ordering.TheVariants.{Less}
pub use Rattle.ucd_category.specs.GeneralCategory.{general_category}
pub use Rattle.ucd_category.specs.GeneralCategoryGroup.{in_group}
pub use Rattle.ucd_category.specs.declared.GeneralCategory.{GeneralCategory}
pub use Rattle.ucd_table.proofs.Facts.{Stepped-everywhere}
pub use Rattle.ucd_table.proofs.Stepped.{of_ranges, zip_stepped}
pub use Rattle.ucd_table.specs.Rows.{Range}
pub use Rattle.zeb_change.specs.Base.{Base, Kept, has_ident, kept_as, with_new, with_bytes, without_ident}
pub use Rattle.zeb_change.specs.Conditions.{Conditions}
pub use Rattle.zeb_change.specs.Costs.{IsFilesCost, IsCostIn, IsSlicesCost, IsRecordCost, bytes_of, newer_of, occurs_by}
pub use Rattle.zeb_change.specs.Elders.{PassesOn, AllFindWhole, FirstFindsWhole, FindsWhole, KeepsWhole, first_record, IsSoOrDamaged, IsUpTo, KeepsWholeTo, AreWholeBefore, IsWholeBefore, first_in}
pub use Rattle.zeb_change.specs.Folding.{Progress, files_folded, ident_in, Changed, deleted, updated, at_end, slices_folded, ◌then◌, changed_by, with_ident, with_record, counted, file_folded, record_folded, changed_record}
pub use Rattle.zeb_change.specs.Holding.{HoldsSome}
pub use Rattle.zeb_change.specs.Inside.{Continues, WorksInside}
pub use Rattle.zeb_change.specs.NoteWords.{KeyChange, change_words, number_words, place_words}
pub use Rattle.zeb_change.specs.Noted.{IsDueFor, IsNothingNoted, AreTurns, noted_count, IsSettled, LeadsList, LeadsTo, WillHold, notes_at, IsNotedIn, AreNoted, changes_among, KeepsUnwritten, Settles}
pub use Rattle.zeb_change.specs.Occurs.{AreOccurrencesOf, OccursIn, occurs}
pub use Rattle.zeb_change.specs.Outcomes.{register_refusal, marc_refusal, identifier_refusal, change_refusal, fold_refusal, take_refusal, turn_refusal}
pub use Rattle.zeb_change.specs.PrivateChangedKeys.{AreChangedKeys, key_in, old_in, new_in, IsAddedIfChanged, place_in}
pub use Rattle.zeb_change.specs.PrivateElders.{KeepsOtherRecords}
pub use Rattle.zeb_change.specs.PrivateFaults.{as_refusal, kept_fault}
pub use Rattle.zeb_change.specs.PrivateKeyRuns.{AreOfKey, BeginsWithKey, Stops, IsNotAbove}
pub use Rattle.zeb_change.specs.PrivateNoteWords.{IsCutOff, counts_in, TakesChange, TakesNumber, TakesPlaces, places_in}
pub use Rattle.zeb_change.specs.PrivatePending.{AreGivenInOrder, number_in, AreGivenAs, IsNotedAlso, IsTakenOut, IsNotNoted, change_in, DoKeysRise, AreTakenOut, IsGivenFrom, IsTakenFrom}
pub use Rattle.zeb_change.specs.PrivateReading.{ReadsRecord}
pub use Rattle.zeb_change.specs.PrivateReasons.{TakesNamed, IsDamageOrFailure, IsFullOrFails, IsRecordRefused, LosesJustNamed}
pub use Rattle.zeb_change.specs.PrivateRecordChanges.{Steps, point, TurnsRecord, FailsTurn, FailsWhole}
pub use Rattle.zeb_change.specs.PrivateRecordFolds.{at, AreReadAs, IsReadAs, TakesReader, TakesReaders}
pub use Rattle.zeb_change.specs.PrivateRecords.{IsElderAs, elder_bytes, GoesBy, IsWholeElder, IsNewer}
pub use Rattle.zeb_change.specs.PrivateStanding.{WillBe, standing, WillBeFolded, WillBeTaken, Standing}
pub use Rattle.zeb_change.specs.PrivateWriting.{CountsInStore, IsGivenOf, LacksLeaveFor, PutsNotes, WritesInStore, WritesNotes}
pub use Rattle.zeb_change.specs.Reading.{HasFailedAt, NoneFailed, StayAble}
pub use Rattle.zeb_change.specs.Reasons.{IsRefusedFor, LosesNamedAlone, AreNamed, HasReasonAt, IsAllowed, IsAtFault, IsNamed, IsNewAt, NamesAny, IsRefusedAt}
pub use Rattle.zeb_change.specs.RecordChanges.{Point, Turns, AreStores, Accepts, ChangesRecord, HasOccurrences, IsSound, IsWithdrawn, NotesRecord, RefusesTurn, WritesRecords, Answers, RefusesSound, TellsFailure, IsUnsound}
pub use Rattle.zeb_change.specs.RecordFolds.{At, FoldsRecord, SettlesNotes, TakesFiles, TakesRecord, TakesRest, point_in, ChangesFiles, FoldsFiles, Each, EndsAll, EndsFile, ThenSettles, Advances, IsUnsettled, OfReaders}
pub use Rattle.zeb_change.specs.Refused.{Meets, NeverUnready, Why, why_of, IsFailing, too_many_records, damaged, database_full, unknown, not_initialised, old_format, profile_changed}
pub use Rattle.zeb_change.specs.Reposted.{ArePostingsOf, IsReposted, occurrence_at, AreTheSame}
pub use Rattle.zeb_change.specs.Stored.{IsKept, IsBase, ArePosted, AreKept}
pub use Rattle.zeb_change.specs.Tallies.{IsTallied}
pub use Rattle.zeb_change.specs.UnderWay.{HaveSystemNumbers, with_records, IsFolded, IsUnderWay, StandsFor, conditions_of, KeepsNames}
pub use Rattle.zeb_change.specs.declared.changed_keys.ChangedKey.{ChangedKey}
pub use Rattle.zeb_change.specs.declared.files.Fold.{Fold}
pub use Rattle.zeb_change.specs.declared.kept.KeptFault.{KeptFault}
pub use Rattle.zeb_change.specs.declared.key_notes.KeyNotes.{KeyNotes}
pub use Rattle.zeb_change.specs.declared.key_notes.PlaceCounts.{PlaceCounts}
pub use Rattle.zeb_change.specs.declared.part_faults.ChangeFault.TheVariants.{Turn}
pub use Rattle.zeb_change.specs.declared.part_faults.FoldFault.{FoldFault}
pub use Rattle.zeb_change.specs.declared.part_faults.TakeFault.{TakeFault}
pub use Rattle.zeb_change.specs.declared.part_faults.TurnFault.{TurnFault}
pub use Rattle.zeb_change.specs.declared.pending.Pending.{Pending}
pub use Rattle.zeb_change.specs.declared.pending.TakenKey.{TakenKey}
pub use Rattle.zeb_change.specs.declared.refusals.Refusal.{Refusal}
pub use Rattle.zeb_change.specs.declared.refusals.Refusal.TheVariants.{Damaged, ReadFault, TooManyRecords, Unknown, DatabaseFull, NotInitialised, OldFormat, ProfileChanged}
pub use Rattle.zeb_change.specs.declared.settings.Kind.{Kind}
pub use Rattle.zeb_change.specs.declared.settings.Kind.TheVariants.{Update, Delete, Adelete}
pub use Rattle.zeb_change.specs.declared.settings.Limits.{Limits}
pub use Rattle.zeb_change.specs.declared.settings.Setting.{Setting}
pub use Rattle.zeb_change.specs.declared.tally.Fate.{Fate}
pub use Rattle.zeb_change.specs.declared.tally.Fate.TheVariants.{Updated, Inserted, Deleted, PassedOver}
pub use Rattle.zeb_change.specs.declared.tally.Tally.{Tally}
pub use Rattle.zeb_change.specs.declared.writing.GivenKey.{GivenKey}
pub use Rattle.zeb_extract.proofs.Members.{Contains-map}
pub use Rattle.zeb_extract.specs.Occurrences.{Targets, IsOccurrence, text_of, word_terms, joined, terms_of}
pub use Rattle.zeb_extract.specs.declared.naming.IdentFault.{IdentFault}
pub use Rattle.zeb_keys.proofs.Rising.{key_total, keys_apart, numbers_apart}
pub use Rattle.zeb_keys.specs.Order.{key_order, occurrence_order, IsRising}
pub use Rattle.zeb_keys.specs.contracts.registers.Register.{the_type}
pub use Rattle.zeb_keys.specs.declared.keys.Key.{Key}
pub use Rattle.zeb_keys.specs.declared.keys.Occurrence.{Occurrence}
pub use Rattle.zeb_keys.specs.declared.registers.Register.{Register}
pub use Rattle.zeb_keys.specs.declared.registers.Register.TheVariants.{Word, Phrase, Number}
pub use Rattle.zeb_marc.proofs.FaultLaws.{record_faults}
pub use Rattle.zeb_marc.proofs.SplitLaws.{split_of-next}
pub use Rattle.zeb_marc.specs.Contents.{Content as Piece, UnitText, numbered_from, units_of}
pub use Rattle.zeb_marc.specs.Directory.{FieldText}
pub use Rattle.zeb_marc.specs.Reading.{StaysAble}
pub use Rattle.zeb_marc.specs.Records.{first_fault, IsRecordFault, fields_of}
pub use Rattle.zeb_marc.specs.Splits.{Split, a_fault, a_slice, next_of}
pub use Rattle.zeb_marc.specs.declared.faults.MarcFault.{MarcFault}
pub use Rattle.zeb_profile.specs.Indexes.{unit_targets}
pub use Rattle.zeb_profile.specs.declared.directives.Directive.{Directive}
pub use Rattle.zeb_register.proofs.AlikeRows.{AreAlike, alike_back, turns_from, turns_to, allows_alike}
pub use Rattle.zeb_register.proofs.Calls.{store_same}
pub use Rattle.zeb_register.proofs.ContentChanges.{changed_at, change_is, same_content, integers_apart, at_sysno, place_total, posting_total, with_list}
pub use Rattle.zeb_register.proofs.FormatLemmas.{registers_rise, registers_stay}
pub use Rattle.zeb_register.proofs.ListChanges.{list_changed, posting_is, place_of, content_changed}
pub use Rattle.zeb_register.proofs.Malformed.{beside_same, beside_seen, beside_then, malformed_same, malformed_seen, malformed_then}
pub use Rattle.zeb_register.proofs.RisingLists.{never_itself, told_by, same_list}
pub use Rattle.zeb_register.proofs.RowsAreLists.{one_ident, one_number}
pub use Rattle.zeb_register.proofs.RunRows.{beside_alike, rows_beside}
pub use Rattle.zeb_register.proofs.WorkCounts.{works_both, works_none}
pub use Rattle.zeb_register.specs.Calls.{Alters, GoesOn}
pub use Rattle.zeb_register.specs.Content.{Content, HasRisingLists, posting_at, ArePlacesOf, Posting, AreListChanges, IsListChanged, OldsRise, place_cmp, posting_cmp, IsStorable, IsChangedAt, IsStorablePosting}
pub use Rattle.zeb_register.specs.Formats.{Format, holds_in, plain_rows, packed_blocks, packed_leaves}
pub use Rattle.zeb_register.specs.Kept.{IsElderOf, AreNumbered}
pub use Rattle.zeb_register.specs.RunChanges.{IsAmong, IsCountAmong, IsOwnCount, KeysRise, PutsKeys, TurnsAny, puts_run_rows, run_key, IsRun, changes_in, AreChangedBy, ChangesKeys, IsOfRun}
pub use Rattle.zeb_register.specs.Sound.{KeepsRowsBeside, keeps_malformed}
pub use Rattle.zeb_register.specs.Sql.{KeepsOthers, Loses, Replaces}
pub use Rattle.zeb_register.specs.Store.{IsStore, KeepsLists, Changes, HasNumber, HasRecord, SharesRecord, databases_tree, meta_tree, record_row, records_tree, KeepsRegisters, blocks_tree, dict_tree, postings_tree}
pub use Rattle.zeb_register.specs.Tables.{store_schema}
pub use Rattle.zeb_register.specs.Tallies.{AreInRange, CountsNothing, works_for}
pub use Rattle.zeb_register.specs.UnitChanges.{IsBlockAmong, IsOwnBlock, IsOwnPlace, IsPlaceAmong, KeepsBut, NumbersRise}
pub use Rattle.zeb_register.specs.declared.faults.RegFault.{RegFault}
pub use Rattle.zeb_register.specs.declared.kept.Elder.{Elder}
pub use Rattle.zeb_register.specs.declared.registers.KeyChanges.{KeyChanges}
pub use Rattle.zeb_register.specs.declared.registers.Place.{Place}
pub use Rattle.zeb_register.specs.declared.registers.RecordChange.{RecordChange}
pub use Rattle.zeb_register.specs.declared.registers.Work.{Work}
pub use Rattle.zeb_text.proofs.KeyLemmas.{digits_of_key}
pub use Rattle.zeb_text.proofs.MaximalRuns.{AllRuns, runs_are_runs}
pub use Rattle.zeb_text.proofs.NumberBounds.{numbers_below}
pub use Rattle.zeb_text.specs.Folding.{folded}
pub use Rattle.zeb_text.specs.Numbers.{number_key, numbers_of}
pub use Rattle.zeb_text.specs.Words.{joined_text, words_of}
pub use denote.Enum.Bare.{sameb}
