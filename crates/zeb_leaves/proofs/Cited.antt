-- What this crate's proofs cite of std, of the kit, of the crates below and of its own specs, passed on from one place. Declares nothing.
pub use Rattle.sqlite.specs.Effect.{Database, IsDatabase}
pub use Rattle.sqlite.specs.Held.{state}
pub use Rattle.sqlite.specs.Order.{Row, column, row_cmp, value_cmp}
pub use Rattle.sqlite.specs.State.{HasCleanDisk, Shown, State, IsUnchanged, FailsToQuery, Survives, Executes}
pub use Rattle.sqlite.specs.Term.{Term, eval, col, lit}
pub use Rattle.sqlite.specs.Tree.{Trees}
pub use Rattle.sqlite.specs.declared.types.Value.TheVariants.{Blob, Int, Null, Real, Text}
pub use Rattle.sqlite_rules.proofs.ListLemmas.{all_from, all_has, has_either, has_left, has_right, has_filtered, has_kept}
pub use Rattle.sqlite_rules.proofs.ProbeLemmas.{has_mapped, mapped_has}
pub use Rattle.sqlite_rules.specs.Lists.{Has}
pub use Rattle.sqlite_value.proofs.OrderLemmas.{row_cmp_total, then-Equal, value_cmp-Int, value_cmp-Text, value_cmp_total}
pub use Rattle.std.proofs.Common.{◌≡◌, ◌≢◌, ◌↔◌, ◌∙◌, ◌⊎◌, ◌+◌, ◌*◌, ◌/◌, ◌<◌, ◌≤◌, ◌++◌, ◌∷◌, ℕ, zero, suc, ℤ, pos, codes, lit<, lit≤, true, false, Ok, Err, Result, Some, None, Option, List, [], length, map, filter, drop, refl, sym, ap, ap₂, subst, inl, inr, arith, rules, Ordering, Less, Equal, Greater, nat_cmp, nat_eq, reverse, get_or, Bool, ◌+ℤ◌, take, w64, to_z, of_z, slice_get, not, ◌-◌, ◌^◌, IsUtf8, FitsSigned, drop-cons, vec_len}
pub use Rattle.std.proofs.Math.Facts.{to_z-of_z}
pub use Rattle.std.proofs.Math.ListN.{drop_of_length-le}
pub use Rattle.std.proofs.lemmas.Bool.{eqb-true, cases_Bool, cases_lt, and_from, and_parts}
pub use Rattle.std.proofs.lemmas.Bool.Decides.{eqb_tells, nat_tests, Decides-eqb}
pub use Rattle.std.proofs.lemmas.Cmp.{tied_itself}
pub use Rattle.std.proofs.lemmas.List.{length-append, length-map, drop_more, length-drop, length-reverse, drop-drop, take-append-drop, take_rest, take_more, reverse-reverse, drop_all}
pub use Rattle.std.proofs.lemmas.List.Elements.{filter-append, Contains-append_cases}
pub use Rattle.std.proofs.lemmas.List.Sums.{sum_by-append, sum_by-cons}
pub use Rattle.std.proofs.lemmas.Result.{IfOk-weaker}
pub use Rattle.std.specs.Cmp.{IsTotalOrder, int_cmp_total, nat_cmp_total, on_total, then_total}
pub use Rattle.std.specs.Cmp.Lexicographic.{nat_list_cmp_total, slice_cmp}
pub use Rattle.std.specs.List.{AllByRecursion, sum_by, list_any}
pub use Rattle.std.specs.Option.{option_map}
pub use Rattle.std.specs.Ordering.{ordering_then, ordering_reverse, is_lt, ordering_index, is_eq}
pub use Rattle.std.specs.Prelude.{IfSome, Vec, string_bytes, IfOk, Contains, OnOk, MatchOption}
pub use Rattle.zeb_blocks.specs.Blocks.{BlockSpells, LiesIn, IsNumbered}
pub use Rattle.zeb_blocks.specs.declared.postings.Posting.{Posting}
pub use Rattle.zeb_keys.proofs.Rising.{numbers_apart, texts_apart, key_total}
pub use Rattle.zeb_keys.specs.Registers.{register_code}
pub use Rattle.zeb_keys.specs.declared.Register.{Register}
pub use Rattle.zeb_keys.specs.declared.keys.Key.{Key}
pub use Rattle.zeb_leaf.proofs.Walked.{empty_leaf, leaf_spells, same_list as one_leaf_list, reaches_first, reaches_more, Reaches, Spells, reaches_end, reaches_stuck}
pub use Rattle.zeb_leaf.specs.Answers.{entry_of}
pub use Rattle.zeb_leaf.specs.Leaves.{IsLeaf, leaf_bytes}
pub use Rattle.zeb_leaf.specs.Merging.{entry_with, AreMerged, AreChanges, change_cmp, puts}
pub use Rattle.zeb_leaf.specs.Order.{IsEntry, entry_cmp}
pub use Rattle.zeb_leaf.specs.Spans.{key_cmp, AreInSpan, IsInSpan}
pub use Rattle.zeb_leaf.specs.Walks.{first_place}
pub use Rattle.zeb_leaf.specs.declared.entries.Entry.{Entry}
pub use Rattle.zeb_leaf.specs.declared.entries.TheConstants.{LEAF_BYTES, FULL_BYTES}
pub use Rattle.zeb_leaf.specs.declared.merging.BlockChange.{BlockChange}
pub use Rattle.zeb_leaf.specs.declared.parting.NewLeaf.{NewLeaf}
pub use Rattle.zeb_leaf.specs.declared.spans.BlockKey.{BlockKey, BlockKey as KeyOfBlock}
pub use Rattle.zeb_leaf_rows.proofs.CoveringCalls.{up_to_next, next_number}
pub use Rattle.zeb_leaf_rows.proofs.CoveringLeaves.{covers_below, covers_own, leaf_shape, shown_greatest, leaf_some, some_leaf, never_last}
pub use Rattle.zeb_leaf_rows.proofs.LeafShapes.{leaf_row}
pub use Rattle.zeb_leaf_rows.proofs.LeafStatements.{first_of, first_so, leaf_places, term_order, any_query, any_shown, of_term_query, of_term_shown, falling_keys, known, leaf_names, two_lower, IsUnder, below_more, below_query, below_shown}
pub use Rattle.zeb_leaf_rows.specs.LeafRows.{HasBlockFrom, IsLastOf, IsLeafAt, IsLeafIn, IsUncovered, ShowsSome, IsOnlyLeaf, IsRowBetween}
pub use Rattle.zeb_leaf_rows.specs.PrivateLeafRows.{IsCovering, IsGreatest, IsOfTermBelow, IsOfTermsBelow}
pub use Rattle.zeb_leaves.specs.KeyReads.{SayParts, AreEntriesBetween}
pub use Rattle.zeb_leaves.specs.LeafChanges.{AreDistinct, ArePartedFrom, BeginsLeaves, ReplacesLeaf, IsPart, BeginsLeavesOf, ReplacesLeafOf}
pub use Rattle.zeb_leaves.specs.PrivateAgreeing.{TakeEntries, leaf_of, entry_key, leaf_shown, rest_shown, EachHasLeaves, HasLeaves, IsEmptyBeside, OthersAreEmpty, HoldsPostings, AreWalked, IsBeside, Leaf, LeavesIn, ShowsLeaf, key_of, own_of, PostingsRise, TakesLeaf, IsWhole, before_of, ReadsLeaves}
pub use Rattle.zeb_leaves.specs.PrivateLeafReads.{IsLeast, IsNextBehind, ShowsLast, TellsKey, TellsSome, IsOfTermFrom}
pub use Rattle.zeb_leaves.specs.PrivateLeafWrites.{HidesEnd, IsEndAt, GainsLeaves, IfToldPuts, IsLeafWith, IsNewRow, leaf_columns, new_row, IfToldPutsEntries, coming, AreFilled, IsFilled, IsRowOfOne, PutsEntries, PutsLeaves, WritesLeaves}
pub use Rattle.zeb_leaves.specs.PrivateNearCalls.{HidesBeside, IsSide, ListsBeside}
pub use Rattle.zeb_leaves.specs.PrivateNearRows.{ListsBack, ListsFront}
pub use Rattle.zeb_leaves.specs.PrivateNearTerms.{AreEnough, CountBelow, CountRows, CountUntil, GoesDown, GoesPast, HideBelow, HideRows, HidesDown, HidesRow, MeetNoText, StopsAt, StopsDown, AreEnoughAt, CountsRow}
pub use Rattle.zeb_leaves.specs.PrivatePieces.{HasPostings, IsPiece, LacksTurn, TurnAllEntries, TurnsEntries, block_of, LackTurn, ArePieces, ArePiecesOf, BeginsElsewhere, IsFront, PartsRun, PutsPieces, all_changes, piece_cmp, AreStorable}
pub use Rattle.zeb_leaves.specs.PrivatePutPieces.{ArePiecesIn, EndsLeaf}
pub use Rattle.zeb_leaves.specs.PrivateSaid.{SayAll, SomeSaysNone, Says}
pub use Rattle.zeb_leaves.specs.PrivateSpans.{ShowsNone, ShowsKey, AreSpanLeaves, SomeShowsNoKey, IsSpanLeaf, ShowAllSpans, ShowSpans, ShowsSpan}
pub use Rattle.zeb_leaves.specs.PrivateTermReads.{End, AreLeavesFrom, ShowsOwn, is_own, HideOwns, SayMany, SaysNone, ShowOwns, AreEntries, CountsIn, CountAll, IsNoText, IsRowFrom, IsLeafFrom, HideAllOwns, ShowAllOwns, SomeBad, is_below, HidesOwn, entry_with_records}
pub use Rattle.zeb_leaves.specs.PrivateTurning.{CoversFirst, PutsFront, CountsLeaves}
pub use Rattle.zeb_leaves.specs.declared.near_terms.Side.TheVariants.{Below}
pub use Rattle.zeb_register.proofs.AgreeingTables.{under_has, under_rises, key_posting_total, lists_agree, content, content_at, content_there, content_up, posted_as, put_together, there_is, there_of}
pub use Rattle.zeb_register.proofs.Answered.{refused_so}
pub use Rattle.zeb_register.proofs.BetweenLemmas.{up_to}
pub use Rattle.zeb_register.proofs.BlockUnits.{none_rises}
pub use Rattle.zeb_register.proofs.Calls.{store_same, nothing_then, goes_keeps, query_keeps, reads_goes, Stays, alone_inside, on_ok_so, goes_then, alters, carried_out, refused_keeps, changes_none, stays_still, stays_then, alters_so, changes_then, changes_so, nothing, quiet, on_err}
pub use Rattle.zeb_register.proofs.CallsInTurn.{quiet_then, quiet_still}
pub use Rattle.zeb_register.proofs.Causes.{may_after}
pub use Rattle.zeb_register.proofs.Cited.{unchanged_then, HasGiven}
pub use Rattle.zeb_register.proofs.Columns.{column_is}
pub use Rattle.zeb_register.proofs.ContentChanges.{integers_apart, posting_total, told_spot}
pub use Rattle.zeb_register.proofs.ContentLemmas.{ints_order, some_posting, has_get}
pub use Rattle.zeb_register.proofs.CountLemmas.{count_none, count_so, is_less, less_is, not_same, one_count, none_in_sum, term_total, some_count, comes_not, comes_or}
pub use Rattle.zeb_register.proofs.ExpectedStatements.{owner_row, blocks_query, lists_blocks}
pub use Rattle.zeb_register.proofs.KeptLeaves.{kept_then, kept_wider}
pub use Rattle.zeb_register.proofs.KeyOrder.{not_lower}
pub use Rattle.zeb_register.proofs.KeyPlaces.{in_place, own_part, place_in, place_of, placed_at}
pub use Rattle.zeb_register.proofs.LeafContents.{none_reads, one_unit, unit_unread}
pub use Rattle.zeb_register.proofs.LeafReadings.{entries_total, one_say, one_said, one_shown, one_entries, lacks_sum, lacks_none}
pub use Rattle.zeb_register.proofs.LeafSums.{leaf_there, one_entry, shown_rises, entry_below}
pub use Rattle.zeb_register.proofs.OccurringLemmas.{key_posted, spot_total}
pub use Rattle.zeb_register.proofs.PackedBeside.{drop_got, same_rest, drop_none, drop_over}
pub use Rattle.zeb_register.proofs.PackedLemmas.{in_part, not_empty, part_in_block, part_in_list}
pub use Rattle.zeb_register.proofs.PostingStatements.{blocks, register_of, blocks_keys, blocks_static}
pub use Rattle.zeb_register.proofs.PrefixSelects.{IsAfter, after_key, lists_after}
pub use Rattle.zeb_register.proofs.Refusals.{IsQuery, refused}
pub use Rattle.zeb_register.proofs.RisingLists.{all_rise, all_there, joined_rises, kept_rises, never_itself, same_list, told_by, with_all, flipped_total, has_reversed, reversed_rises, cut_rises, before_last, front_rises, never_back, no_longer, snoc_of, same_last}
pub use Rattle.zeb_register.proofs.RowFaults.{refused_rows}
pub use Rattle.zeb_register.proofs.RowLemmas.{same_bytes, covered_some, ordering_tied, shares_alone}
pub use Rattle.zeb_register.proofs.RowReads.{still, begun_silent, failed_nothing, same_nothing, stopped}
pub use Rattle.zeb_register.proofs.RunTurns.{LeadsOn, Answered}
pub use Rattle.zeb_register.proofs.Scans.{all_shown, reads, shows_each, shows_sorted, strictly_mapped}
pub use Rattle.zeb_register.proofs.Selects.{list_so, shown_places}
pub use Rattle.zeb_register.proofs.StatementForms.{Condition, at_least, equals, keyed_from, one_row, rising, shows, alone, ordering, passes, reading_by, no_limit, reading}
pub use Rattle.zeb_register.proofs.TermRows.{records_counted, got, last_set, last_view}
pub use Rattle.zeb_register.proofs.TermsAmong.{records_count, terms_among}
pub use Rattle.zeb_register.proofs.WorkCounts.{leaves_still, more_leaves, both_leaves}
pub use Rattle.zeb_register.proofs.YesNoAnswers.{match_so}
pub use Rattle.zeb_register.specs.Agreeing.{IsLeastFrom, IsListedId, IsThere, LacksPostingsAndDict, Owns, expected_name, listed_name, AreBeside, ListsAgree}
pub use Rattle.zeb_register.specs.Answers.{Answers, Asks, IfDamaged, IfRowDamaged, LooksInto}
pub use Rattle.zeb_register.specs.Between.{IsBetween}
pub use Rattle.zeb_register.specs.Calls.{MayRefuse, Reading, ChangesNothing, Alters, Inside}
pub use Rattle.zeb_register.specs.Clauses.{IsReasonedError}
pub use Rattle.zeb_register.specs.Content.{Content, HasRisingLists, IsWithout, places_in, posted, posting_cmp, posting_at}
pub use Rattle.zeb_register.specs.Covering.{Covers, HasEntriesAt, IsUpTo, LacksEntriesAt, ShowsEntries, leaf_key, own_key, HasTextTerm}
pub use Rattle.zeb_register.specs.Expected.{key_posting_order, AreExpected, IsOrdered}
pub use Rattle.zeb_register.specs.Formats.{packed_leaves}
pub use Rattle.zeb_register.specs.HeldLeaves.{AreAloneIn, HoldsLeaves, IsAnyLeaf, IsLeafAlone}
pub use Rattle.zeb_register.specs.LeafUnits.{AreLeavesMiscounted, AreLeavesWhole, HasMalformedLeaf, IsLeafMalformed, IsLeafOf, LeavesCount, LeavesRead, LeavesReadBlock}
pub use Rattle.zeb_register.specs.Occurring.{AreTermsOf, HasKey, IsCount, TermIn, key_in, Spot, capped, spot_cmp, term_cmp}
pub use Rattle.zeb_register.specs.PackedBlocks.{part_in}
pub use Rattle.zeb_register.specs.PlainRows.{register_front}
pub use Rattle.zeb_register.specs.PrivateKeyColumns.{register_columns, IsNumberedRow}
pub use Rattle.zeb_register.specs.PrivatePackedRows.{IsInBlock}
pub use Rattle.zeb_register.specs.PrivateRowExpected.{list_under, with_key}
pub use Rattle.zeb_register.specs.PrivateRowStatements.{Gains, Renews}
pub use Rattle.zeb_register.specs.PrivateRowTerms.{term_with}
pub use Rattle.zeb_register.specs.PrivateUnits.{units_of}
pub use Rattle.zeb_register.specs.Readings.{HasRecordOf, IsAt, IsEntryOf, IsPartMalformed, LacksSum, PartReads, SayPart, SaysPart, SumsRecords}
pub use Rattle.zeb_register.specs.RunChanges.{IsRunRefusedAs, IsUnitAmong, LacksLeave, PutsKeys, TurnsAny, TurnsKey, KeysRise, run_key, changes_in, IsRun}
pub use Rattle.zeb_register.specs.Sql.{HasRow, Loses, IsListOf}
pub use Rattle.zeb_register.specs.Store.{IsOfDatabase, IsRest, IsStore, KeepsRegisters, LacksRegisters, blocks_tree, dict_tree, postings_tree, Changes, KeepsLists, HasDatabase}
pub use Rattle.zeb_register.specs.Tables.{store_schema}
pub use Rattle.zeb_register.specs.Tallies.{Rises, WorksOnLeaves, HasMoreLeaves}
pub use Rattle.zeb_register.specs.Terms.{Comes, ListsBefore, HidesSums, ListsAll, SumsUp, HidesCount, HidesFrom, ListsFrom, ListsNearest, HidesBefore, HidesNearest, IsNearest, ListsCounts, HidesSome}
pub use Rattle.zeb_register.specs.UnitChanges.{AllowsChanges, IsStorableChange, IsTouched, KeyUnits, NumbersRise, TurnsUnits, TurnsPlaces, TurnsUnit, IsRefusedAs, IsUnitTouched, PutsAny, AreSame, IsTold}
pub use Rattle.zeb_register.specs.Units.{ListsUnits, HasMalformedBetween, ListsBetween}
pub use Rattle.zeb_register.specs.declared.catalog.ListedDatabase.{ListedDatabase}
pub use Rattle.zeb_register.specs.declared.expected.ExpectedDatabase.{ExpectedDatabase}
pub use Rattle.zeb_register.specs.declared.expected.KeyPosting.{KeyPosting}
pub use Rattle.zeb_register.specs.declared.faults.RegFault.{RegFault}
pub use Rattle.zeb_register.specs.declared.faults.RegFault.TheVariants.{Store, Memory}
pub use Rattle.zeb_register.specs.declared.registers.KeyChanges.{KeyChanges}
pub use Rattle.zeb_register.specs.declared.registers.Place.{Place}
pub use Rattle.zeb_register.specs.declared.registers.RecordChange.{RecordChange}
pub use Rattle.zeb_register.specs.declared.registers.RegisterOf.{RegisterOf}
pub use Rattle.zeb_register.specs.declared.registers.TermCount.{TermCount}
