-- What this crate's proofs cite of std, of the kit, of the crates below and of its own specs, passed on from one place. Declares nothing.
pub use Rattle.sqlite.proofs.Callers.{unchanged_then, IsPlain, command_of, statement_of, runs_as, reads_as, one_permutation, EndsIn, begins_shown, given_begin, one_step}
pub use Rattle.sqlite.proofs.StateLemmas.{survives_weaker, survives_then}
pub use Rattle.sqlite.specs.Cast.{cast_row, cast, cast_all}
pub use Rattle.sqlite.specs.Change.{created, next_tree, KeepsRows}
pub use Rattle.sqlite.specs.Clock.{timed}
pub use Rattle.sqlite.specs.Collation.TheVariants.{Binary}
pub use Rattle.sqlite.specs.Command.{Command}
pub use Rattle.sqlite.specs.Command.TheVariants.{CreateTable, Nothing, Update, Delete, Insert, Select, InsertOr}
pub use Rattle.sqlite.specs.Compile.{first, with_command, small, timed as timed_in, is_attached, creates, table_defined_by}
pub use Rattle.sqlite.specs.Does.{lacks_sequence, Tally, Does}
pub use Rattle.sqlite.specs.Edit.{next_rowid, Edit, Applies, without_all, put_all, left_by, have_rowids, edit_of, numbered, with_rowid, taken_by}
pub use Rattle.sqlite.specs.Effect.{Database, IsDatabase, Answers, RefusesToRead, value_rows}
pub use Rattle.sqlite.specs.Given.{HasBegun, HasGiven, Returns}
pub use Rattle.sqlite.specs.Held.{Held, state}
pub use Rattle.sqlite.specs.Kind.{Kind}
pub use Rattle.sqlite.specs.Listing.{reads_listing, listing_schema, is_select, if_select, IsSourceOf}
pub use Rattle.sqlite.specs.Ops.{is_null, is_true, from_truth}
pub use Rattle.sqlite.specs.Order.{Row, column, row_cmp, value_cmp}
pub use Rattle.sqlite.specs.Program.{overlay}
pub use Rattle.sqlite.specs.Query.{Output, output_cmp, limited, as_count, IsAnswer, matches_as, output, Query, key_cmp, end, inner}
pub use Rattle.sqlite.specs.Rowids.TheVariants.{Given, Chosen}
pub use Rattle.sqlite.specs.Rows.{Clears, Judged, Tries, TriesEach, Outcome, Task, Counts, stamped, mended_from, mended, rowids_for, count_of, last_id, nothing}
pub use Rattle.sqlite.specs.Schema.{Schema}
pub use Rattle.sqlite.specs.Source.TheVariants.{Values}
pub use Rattle.sqlite.specs.State.{State, HasCleanDisk, IsUnchanged, IsRolledBack, KeepsCommit, Survives, Executes, ExecutesInside, ShowsRows, FailsToShow, IsTooLate, RunsCommand, shows_rows, store_error, Runs, Writes, HasCause, Fails, IsStatement, mode_of}
pub use Rattle.sqlite.specs.Table.{Table}
pub use Rattle.sqlite.specs.Term.{Term, lit, col, eval_all, eval, Env, holds, op2}
pub use Rattle.sqlite.specs.Tree.{Trees, rowid, has_rowid, put_row, without_rowid, IsTable, IsAscending}
pub use Rattle.sqlite.specs.View.{is_int}
pub use Rattle.sqlite.specs.declared.error.Error.{Error}
pub use Rattle.sqlite.specs.declared.error.Error.TheVariants.{ExecuteReturnedResults, SqliteFailure}
pub use Rattle.sqlite.specs.declared.error.ErrorCode.TheVariants.{ConstraintViolation}
pub use Rattle.sqlite.specs.declared.run.Mode.{Mode}
pub use Rattle.sqlite.specs.declared.types.Value.{Value}
pub use Rattle.sqlite.specs.declared.types.Value.TheVariants.{Int, Blob, Text, Null, Real}
pub use Rattle.sqlite_ast.specs.declared.CreateTable.{CreateTable as Written}
pub use Rattle.sqlite_ast.specs.declared.Statement.{Statement}
pub use Rattle.sqlite_catalog.proofs.LayoutLemmas.{ascending_filter}
pub use Rattle.sqlite_catalog.specs.Calls.{CreatesTable}
pub use Rattle.sqlite_catalog.specs.Listing.{IsSound}
pub use Rattle.sqlite_resolve.specs.Lowering.{and_then}
pub use Rattle.sqlite_resolve.specs.declared.compiled.Compiled.{Compiled}
pub use Rattle.sqlite_resolve.specs.declared.error.CompileError.{CompileError}
pub use Rattle.sqlite_resolve.specs.declared.error.CompileError.TheVariants.{Unsupported}
pub use Rattle.sqlite_rules.proofs.ListLemmas.{all_has, has_filtered, has_kept, has_either, has_left, has_right, all_from, has_got, contains_had, any_has, some_has, some_from, test_has}
pub use Rattle.sqlite_rules.proofs.PlaceLemmas.{tied_same, next_is_free, given as all_given}
pub use Rattle.sqlite_rules.proofs.ProbeLemmas.{has_mapped, mapped_has}
pub use Rattle.sqlite_rules.proofs.RuleLemmas.{keeps_at}
pub use Rattle.sqlite_rules.proofs.TableLemmas.{int_is, put_all_has, put_all_keeps, put_all_adds}
pub use Rattle.sqlite_rules.specs.Action.{works}
pub use Rattle.sqlite_rules.specs.Calls.{ids_of}
pub use Rattle.sqlite_rules.specs.Keys.{aims, shares as shares_key, shares, conflicts, AreConflicts}
pub use Rattle.sqlite_rules.specs.Lists.{Has}
pub use Rattle.sqlite_rules.specs.declared.error.Refusal.{Refusal}
pub use Rattle.sqlite_schema.specs.Names.{table_named, index_named, view_named, is_key}
pub use Rattle.sqlite_schema.specs.Rules.{kind_code, suits, are_typed, are_present, agree, guards, clashes, differ, kind_of}
pub use Rattle.sqlite_schema.specs.declared.command.Conflict.TheVariants.{Replace}
pub use Rattle.sqlite_schema.specs.declared.program.Program.{Program}
pub use Rattle.sqlite_schema.specs.declared.schema.Column.{Column}
pub use Rattle.sqlite_schema.specs.declared.schema.Constraint.{Constraint}
pub use Rattle.sqlite_schema.specs.declared.schema.Constraint.TheVariants.{Datatype, NotNull, Unique}
pub use Rattle.sqlite_schema.specs.declared.schema.Keys.{Keys}
pub use Rattle.sqlite_schema.specs.declared.schema.Keys.TheVariants.{Enforced}
pub use Rattle.sqlite_sql.proofs.QueryLemmas.{output_cmp_total, key_cmp_shift}
pub use Rattle.sqlite_sql.specs.Aggregate.{count}
pub use Rattle.sqlite_sql.specs.Group.{Aggregate, Grouping, IsSummary, value_over}
pub use Rattle.sqlite_sql.specs.Program.{QueryOverflows}
pub use Rattle.sqlite_sql.specs.declared.aggregate.AggregateOp.TheVariants.{CountRows}
pub use Rattle.sqlite_sql.specs.declared.ops.BinaryOp.TheVariants.{Compare}
pub use Rattle.sqlite_sql.specs.declared.ops.CompareOp.TheVariants.{Eq, Ge, Lt}
pub use Rattle.sqlite_tied.specs.Listing.{counting}
pub use Rattle.sqlite_trees.proofs.ListLemmas.{map-map, all-permutation, all-get_or}
pub use Rattle.sqlite_trees.proofs.TreeLemmas.{IsShaped-filter, IsShaped-put_row}
pub use Rattle.sqlite_trees.specs.declared.error.StoreError.{StoreError}
pub use Rattle.sqlite_value.proofs.KeyLemmas.{first_key-plain, then_tied}
pub use Rattle.sqlite_value.proofs.OrderLemmas.{row_cmp_total, value_cmp_total, value_cmp-Text, value_cmp-Int, then-Equal, value_cmp-Blob, value_cmp-apart}
pub use Rattle.sqlite_value.specs.Keys.{first_key, plain}
pub use Rattle.sqlite_value.specs.Value.{owned}
pub use Rattle.std.proofs.Common.{◌≡◌, ◌≢◌, ◌↔◌, ◌∙◌, ℕ, ℤ, pos, List, [], ◌∷◌, ◌++◌, drop, refl, sym, ap, subst, inl, map, Bool, true, false, cond, filter, string_bytes, ap₂, inr, Ordering, Less, Equal, nat_cmp, is_eq, ◌+◌, ◌<◌, ◌/◌, not, length, take, get_or, Greater, arith, codes, ◌⊎◌, IsTrue, None, IsSome, Result, Ok, Err, OnOk, OnErr, IfOk, IfErr, to_z, of_z, w64, FitsSigned, nat_eq, int_cmp, zero, suc, ◌≤◌, length-append, ◌^◌, ◌&&◌, ◌==◌, if◌then◌else◌, Some, IsUtf8, ◌-◌, length-drop, drop-cons, slice_get, ◌≤ℤ◌, ◌<ℤ◌, ◌+ℤ◌, Option, subst₂, Vec, append_assoc, append-nil, min, ◌||◌, eqb, true≢false, MatchOption, leb, negsuc, reverse, String, unwrap_or, IfSome, rules, ◌*◌, lit<, lit≤}
pub use Rattle.std.proofs.Math.Facts.{to_z-of_z}
pub use Rattle.std.proofs.Math.Seq.{split_at, take-add}
pub use Rattle.std.proofs.lemmas.Bool.{cases_Bool, cases_eq, and_parts, not-true, both_ways, eqb-true, eq-eqb, and_from, or_cases, or_left, or_right, ltb-true, ne_eqb}
pub use Rattle.std.proofs.lemmas.Bool.Decides.{Decides-int_eq, nat_tests, eqb_tells, Decides-eqb, Decides-and}
pub use Rattle.std.proofs.lemmas.Cmp.{tied_itself, int_ranked, ranked, eq_by_cmp_equiv}
pub use Rattle.std.proofs.lemmas.Int.{ints}
pub use Rattle.std.proofs.lemmas.List.{length-map, map-append, take_more, length-take, length-take-le, take-append-drop, take_rest, reverse-append, length-reverse, reverse-reverse, take_all}
pub use Rattle.std.proofs.lemmas.List.Filters.{length-filter_both}
pub use Rattle.std.proofs.lemmas.List.Sorted.{sorted_far, ranks_by, length_permutation, IsPermutation-sym}
pub use Rattle.std.proofs.lemmas.List.Sums.{sum_by-cons}
pub use Rattle.std.proofs.lemmas.Map.Keys.{IsDistinct-IsPermutation}
pub use Rattle.std.proofs.lemmas.Map.Text.{is_eq-slice_cmp}
pub use Rattle.std.proofs.lemmas.Result.{IfOk-weaker, err_from_is_err_and, IfErr-at_err, IfErr-weaker}
pub use Rattle.std.proofs.lemmas.Slice.Eq.{bytes_eq-Decides, slice_eq-Decides}
pub use Rattle.std.proofs.lemmas.Str.{IsUtf8-string_bytes, IsUtf8-from_is_utf8, IsUtf8-nil, is_utf8-from_IsUtf8}
pub use Rattle.std.specs.Bool.{Decides}
pub use Rattle.std.specs.Cmp.{IsTotalOrder, on_total, then_total, nat_cmp_total, int_cmp_total, int_cmp_is}
pub use Rattle.std.specs.Cmp.Lexicographic.{slice_cmp, nat_list_cmp_total}
pub use Rattle.std.specs.List.{sum_by, AllByRecursion, list_any, range_with_len, AllZip, Any, list_all, slice_set}
pub use Rattle.std.specs.Option.{option_or, option_copied}
pub use Rattle.std.specs.Ordering.{int_eq, ordering_reverse, ordering_then, is_lt, eq_by_cmp, is_ge}
pub use Rattle.std.specs.Prelude.{MatchBool, IsSorted, IsPermutation, flat_map, nat_lt, slice_index_or}
pub use Rattle.std.specs.Vec.{vec_len}
pub use Rattle.std.specs.declared.alloc.Global.{Global}
pub use Rattle.zeb_blocks.proofs.Lists.{same_list as one_list_spelled}
pub use Rattle.zeb_blocks.proofs.Taking.{spells_start}
pub use Rattle.zeb_blocks.specs.Blocks.{BlockSpells, spelled_from, start_of, LiesIn, IsNumbered}
pub use Rattle.zeb_blocks.specs.declared.postings.Posting.{Posting}
pub use Rattle.zeb_keys.proofs.Rising.{key_total, keys_apart, both_equal, numbers_apart, texts_apart}
pub use Rattle.zeb_keys.specs.Order.{key_order}
pub use Rattle.zeb_keys.specs.Registers.{register_code}
pub use Rattle.zeb_keys.specs.declared.Register.{Register}
pub use Rattle.zeb_keys.specs.declared.Register.TheVariants.{Word, Phrase, Number}
pub use Rattle.zeb_keys.specs.declared.keys.Key.{Key}
pub use Rattle.zeb_keys.specs.declared.keys.Occurrence.{Occurrence}
pub use Rattle.zeb_leaf.specs.Order.{entry_cmp, IsEntry}
pub use Rattle.zeb_leaf.specs.declared.entries.Entry.{Entry}
pub use Rattle.zeb_register.specs.Agreeing.{Owns, HoldsUnder, HasNames, IsThere, BelongsThere, EachThere, HoldsThere, KeepsExpectedTexts, ListsAgree, listed_name, expected_name, AreBeside, AreEnds, IsLeastFrom, IsListedId, RecordsAgree, HasRecords, LacksPostingsAndDict}
pub use Rattle.zeb_register.specs.Answers.{Asks, LooksInto}
pub use Rattle.zeb_register.specs.Between.{AreKeysBetween, IsBetween, term_list, IsPostingBetween}
pub use Rattle.zeb_register.specs.Calls.{GoesOn, OnlyReads, ChangesNothing, Alters, Inside, Reading, MayRefuse}
pub use Rattle.zeb_register.specs.Catalog.{AreDatabases, AreReadableDatabases, listed_order, PutsDatabase, AreCountedDatabases, IsDatabaseOf}
pub use Rattle.zeb_register.specs.Clauses.{IsReasoned, IsReasonedError, TellsHeld, OnStore, Tells, IsHonestStorable}
pub use Rattle.zeb_register.specs.Content.{posted, Content, HasRisingLists, posting_cmp, posting_at, ArePlacesOf, IsChangedAt, IsWithout, place_cmp, AreChangedAt, AreListChanges, IsListChanged, TakesWhole, IsStorable, places_in, OldsRise, AreStorablePlaces, IsStorablePlace}
pub use Rattle.zeb_register.specs.Covering.{Covers, HasEntriesAt, ShowsEntries, leaf_key, own_key, LacksEntriesAt, IsUpTo}
pub use Rattle.zeb_register.specs.Expected.{AreExpected, IsOrdered, IsExpectedAs, IsPostingExpected, key_posting_order, name_order, IsTextOf, number_order}
pub use Rattle.zeb_register.specs.Faults.{fault_of, fault_of_rows}
pub use Rattle.zeb_register.specs.Formats.{packed_blocks, packed_leaves, plain_rows, Format, holds_in, version_of}
pub use Rattle.zeb_register.specs.HeldLeaves.{AreLeavesAlone, HoldsLeaves, IsLeafAlone}
pub use Rattle.zeb_register.specs.Kept.{record_shown, AreNumbered, AreReadableIdents, AreReadable, IsFirstFrom, IsNumberOf, IsElderOf, IsIdentOf}
pub use Rattle.zeb_register.specs.KeptUnits.{KeepsUnits, HasKeyUnit, HasUnit}
pub use Rattle.zeb_register.specs.LeafUnits.{IsLeafMalformed, IsLeafOf, LeavesRead, LeavesReadBlock, AreLeavesMiscounted, AreLeavesWhole, HasMalformedLeaf, LeavesCount}
pub use Rattle.zeb_register.specs.Occurring.{HasKey, key_in, IsCount, AreCounts, term_cmp, AreTermsOf, Spot, spot_cmp, capped, TermIn, AreSpotsOf, AreTotals, is_before, is_from, last, HasSpot, AreTermsBefore, AreTermsFrom}
pub use Rattle.zeb_register.specs.PackedBlocks.{HoldsBlocks, part_in, SpellsPart, blocks_of, block_row, IsBlockRow, IsDictRow, dict_row, AreAllSpelled}
pub use Rattle.zeb_register.specs.PackedUnits.{BlockReads, IsMalformedAt, IsOfBlock, ReadsAs, CountsAs, HasMalformed, IsBlockMalformed, IsOfKey, IsMiscounted}
pub use Rattle.zeb_register.specs.PlainRows.{HoldsRows, key_row, posting_row, register_front, IsPostingRow}
pub use Rattle.zeb_register.specs.PlainUnits.{HasShownNone, RowsCount, RowsRead, IsRowMalformed, IsUnderNumber, ShowsPosting, AreAllShown, HasRowIn, IsUnderKey, ShowsNone}
pub use Rattle.zeb_register.specs.PrivateBetweenRows.{IsRestBetween, three_behind, two_behind, SomeShowsNoneBehind}
pub use Rattle.zeb_register.specs.PrivateCatalog.{listed_row, IsIdOf}
pub use Rattle.zeb_register.specs.PrivateClauses.{Ran}
pub use Rattle.zeb_register.specs.PrivateKeyColumns.{IsNumberedRow, register_columns, IsDictIn}
pub use Rattle.zeb_register.specs.PrivateNearest.{IsNearer, IsOn, HasOn}
pub use Rattle.zeb_register.specs.PrivatePackedRows.{AreSpelled, IsInBlock, HoldsBlockRows}
pub use Rattle.zeb_register.specs.PrivateRecordParts.{ComesLast, IsParted}
pub use Rattle.zeb_register.specs.PrivateRowExpected.{BelongsTo, IsBlockRest, IsDictRest, key_shown, list_under, with_key, LacksPacked, posting_shown, AsExpected, EachAsExpected, HoldsExpected, IsPair, tree_of, text_rows, TakeAll, AreBlocks, IsBlockBefore, IsInOrder, AreInOrder, HoldsKeysAlone, TableHolds}
pub use Rattle.zeb_register.specs.PrivateRowKeys.{BeginsOther, IsFrontOf, IsRunBefore, IsRunFrom, dict_rest}
pub use Rattle.zeb_register.specs.PrivateRowPlaces.{first_two, first_three, DropsRegisters, IsTwoNumbers, place_row, KeepsBesidePostings, GainsPlaces, Puts, posting_columns, IsPlaceIn, SomeShowsNone}
pub use Rattle.zeb_register.specs.PrivateRowReads.{rests_text, ShowsFirst, greatest_text, least_text, next_text, Fits, size_of, ReadsRests, IsFirst}
pub use Rattle.zeb_register.specs.PrivateRowStatements.{ListsInside, IsMade, IsRestAtLeast, IsDatabaseShown, IsListedRow, AddsDatabase, SetsLast, IsDatabaseRow, IsValueRow, IsElderRow, IsIdentRow, Gains, place_key, whole_posting_row, IsRecordShown, ShowsCount, Empties}
pub use Rattle.zeb_register.specs.PrivateRowTerms.{IsInRecord, ReadsInside, IsCountedIn, term_with, IsShown, HasTerm, ShowsOccurrence, IsOccurrenceRow, ShowsTerm, IsTermRow, ShowsNearest, FindsNearest, HidesText, SomeIsNoOccurrence}
pub use Rattle.zeb_register.specs.PrivateStoreTables.{HasEmpty, create_text, schema_after, schema_before, clear_text, tree_at, wipe_text}
pub use Rattle.zeb_register.specs.PrivateUnits.{units_of, TurnsRows}
pub use Rattle.zeb_register.specs.Queries.{LooksUp, IsSilent}
pub use Rattle.zeb_register.specs.Readings.{PartReads, HasRecordOf, SaysPart, IsPartMalformed, LacksSum, SayPart, SumsRecords, IsAt}
pub use Rattle.zeb_register.specs.RunChanges.{changes_in, IsAmong, IsCountAmong, IsOfRun, IsOwnCount, IsRunRefusedAs, IsUnitAmong, KeysRise, PutsKeys, TurnsAny, run_key, puts_run_rows, counts_on, KeepsBesideRun, keeps_run_others, AreChangedBy, TurnsKey}
pub use Rattle.zeb_register.specs.Sound.{KeepsBeside, KeepsMalformed, KeepsRowsBeside, keeps_malformed, IsListSound, KeepsMalformedUnits}
pub use Rattle.zeb_register.specs.Sql.{HasRow, IsListOf, IsKeyed, KeepsOthers, KeepsTables, HasLayout, Loses, Replaces, ChangesOneTable}
pub use Rattle.zeb_register.specs.Store.{IsStore, blocks_tree, dict_tree, postings_tree, HasDatabase, records_tree, IsRest, key_of, Changes, IsEmptyStore, databases_tree, TakesDatabase, entry, meta_tree, IsOfDatabase, KeepsRegisters, LacksRegisters, AreReadableTexts, HasRecord, record_row, HasNumber, SharesRecord, IsEntryOf, KeepsLists, IsValueOf}
pub use Rattle.zeb_register.specs.Tables.{store_schema, databases_table, meta_table, postings_table, blocks_table, dict_table, records_table}
pub use Rattle.zeb_register.specs.Tallies.{Rises, AreInRange, works_for, RisesWithin, Works, WorksOnLeaves, CountsNothing}
pub use Rattle.zeb_register.specs.Terms.{HidesCount, HidesNearest, ListsCounts, Comes, ListsBefore}
pub use Rattle.zeb_register.specs.UnitChanges.{IsBlockAmong, IsOwnBlock, IsOwnPlace, IsPlaceAmong, IsUnitTouched, KeepsBut, KeyUnits, PutsAny, PutsCount, PutsPlaces, TurnsUnits, AllowsChanges, IsChanged, IsStorableChange, PutsUnits, TurnsPlaces, CountsOn, LacksBlock, is_counted, IsTouched, IsBlockCounted, TurnsUnit, turns_count, IsRefusedAs, NumbersRise, IsTold, IsBlockIn, keeps_others}
pub use Rattle.zeb_register.specs.Units.{ListsKey, ListsUnits, counts_as, HasMalformedBetween, ListsBetween, ListsTerms, HoldsUnits}
pub use Rattle.zeb_register.specs.declared.agreeing.Table.{Table as Keyed}
pub use Rattle.zeb_register.specs.declared.agreeing.Table.TheVariants.{Blocks, Dict, Postings, Records}
pub use Rattle.zeb_register.specs.declared.belonging.Ends.{Ends}
pub use Rattle.zeb_register.specs.declared.catalog.ListedDatabase.{ListedDatabase}
pub use Rattle.zeb_register.specs.declared.catalog.TheConstants.{TAKE}
pub use Rattle.zeb_register.specs.declared.expected.Expected.{Expected}
pub use Rattle.zeb_register.specs.declared.expected.ExpectedDatabase.{ExpectedDatabase}
pub use Rattle.zeb_register.specs.declared.expected.KeyPosting.{KeyPosting}
pub use Rattle.zeb_register.specs.declared.faults.RegFault.{RegFault}
pub use Rattle.zeb_register.specs.declared.faults.RegFault.TheVariants.{Store, Damaged}
pub use Rattle.zeb_register.specs.declared.faults.RowFault.{RowFault}
pub use Rattle.zeb_register.specs.declared.faults.RowFault.TheVariants.{Damaged as DamagedRow, Memory as NoMemory}
pub use Rattle.zeb_register.specs.declared.kept.Record.{Record}
pub use Rattle.zeb_register.specs.declared.plain_changes.TheConstants.{PUT}
pub use Rattle.zeb_register.specs.declared.registers.KeyChanges.{KeyChanges}
pub use Rattle.zeb_register.specs.declared.registers.Place.{Place}
pub use Rattle.zeb_register.specs.declared.registers.RecordChange.{RecordChange}
pub use Rattle.zeb_register.specs.declared.registers.RegisterOf.{RegisterOf}
pub use Rattle.zeb_register.specs.declared.registers.TermCount.{TermCount}
pub use Rattle.zeb_register.specs.declared.registers.Totals.{Totals}
pub use Rattle.zeb_register.specs.declared.statements.between.TheConstants.{BETWEEN}
pub use Rattle.zeb_register.specs.declared.statements.databases.TheConstants.{LISTED, BY_NAME, ADD, SET_LAST}
pub use Rattle.zeb_register.specs.declared.statements.postings.TheConstants.{UNDER_TERM, UNDER_NUMBER, REGISTER, NOTHING, TERM_FROM, TERM_BEFORE}
pub use Rattle.zeb_register.specs.declared.statements.records.TheConstants.{COUNT, FIRST_FROM, BY_IDENT, IDENT, ALL}
pub use Rattle.zeb_register.specs.declared.statements.texts.TheConstants.{ALL_TEXTS, VALUE}
pub use Rattle.zeb_register.specs.declared.tables.StoreTable.{StoreTable}
pub use Rattle.zeb_register.specs.declared.tables.StoreTable.TheVariants.{Meta, Databases}
