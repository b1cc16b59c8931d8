-- What this crate's proofs cite of std, of the kit, of the crates below and of its own specs, passed on from one place. Declares nothing.
pub use Rattle.sqlite.proofs.Callers.{IsPlain, command_of, reads_as, one_step, runs_as, statement_of}
pub use Rattle.sqlite.specs.Command.TheVariants.{Select, Delete, Insert, Update}
pub use Rattle.sqlite.specs.Edit.{next_rowid, Applies, Edit, numbered, taken_by}
pub use Rattle.sqlite.specs.Effect.{IsDatabase, Database, value_rows}
pub use Rattle.sqlite.specs.Held.{state}
pub use Rattle.sqlite.specs.Listing.{reads_listing}
pub use Rattle.sqlite.specs.Order.{Row, column, row_cmp, value_cmp}
pub use Rattle.sqlite.specs.Rowids.TheVariants.{Chosen}
pub use Rattle.sqlite.specs.Schema.{Schema}
pub use Rattle.sqlite.specs.Source.TheVariants.{Values}
pub use Rattle.sqlite.specs.State.{Executes, ExecutesInside, State, Shown, HasCleanDisk, Survives, KeepsCommit, mode_of}
pub use Rattle.sqlite.specs.Table.{Table}
pub use Rattle.sqlite.specs.Term.{Term, col, eval, lit, eval_all}
pub use Rattle.sqlite.specs.Tree.{rowid, Trees, put_row}
pub use Rattle.sqlite.specs.Values.{bound}
pub use Rattle.sqlite.specs.declared.error.Error.{Error}
pub use Rattle.sqlite.specs.declared.types.Value.{Value}
pub use Rattle.sqlite.specs.declared.types.Value.TheVariants.{Int, Text, Blob, Null, Real}
pub use Rattle.sqlite_rules.proofs.ListLemmas.{some_from, all_has, has_filtered, has_got, all_from, has_either, has_kept, has_left, has_right}
pub use Rattle.sqlite_rules.proofs.PlaceLemmas.{next_is_free}
pub use Rattle.sqlite_rules.proofs.ProbeLemmas.{has_mapped, mapped_has}
pub use Rattle.sqlite_rules.specs.Lists.{Has}
pub use Rattle.sqlite_sql.specs.Query.{limited, as_count}
pub use Rattle.sqlite_value.proofs.OrderLemmas.{value_cmp_total, value_cmp-Text, row_cmp_total, value_cmp-Int}
pub use Rattle.std.proofs.Common.{◌≡◌, ◌∙◌, ℕ, ℤ, Ok, Err, Result, OnOk, true, false, List, [], ◌∷◌, refl, sym, ap, inl, inr, arith, ◌++◌, codes, subst, Ordering, Less, Equal, Greater, ◌/◌, ◌==◌, pos, not, drop, length, ◌≢◌, ◌+◌, ◌≤◌, zero, suc, filter, nat_eq, map, ◌^◌, IfOk, IfErr, None, slice_get, ◌↔◌, ◌⊎◌, ◌<◌, IsUtf8, ap₂, nat_lt, drop-cons, get_or, nat_cmp, Some, FitsSigned, w64, to_z, of_z, Bool, take, reverse, length-append, IsTrue, ◌*◌, Vec, Global, rules, string_bytes, ◌&&◌, Decides, slice_index_or, ◌-◌, Option}
pub use Rattle.std.proofs.Math.Facts.{to_z-of_z}
pub use Rattle.std.proofs.lemmas.Bool.{both_ways, eqb-true, eq-eqb, and_parts, not-true}
pub use Rattle.std.proofs.lemmas.Bool.Decides.{eqb_tells, nat_tests, Decides-and, Decides-eqb}
pub use Rattle.std.proofs.lemmas.Cmp.{tied_itself}
pub use Rattle.std.proofs.lemmas.List.{length-map, length-reverse, map-append, reverse-append, reverse-reverse, take-append-drop, take-map, take_more, take_all, take_rest, length-drop, append_cancel_left, append-nil, append_assoc}
pub use Rattle.std.proofs.lemmas.List.Sorted.{IsNonDecreasingBy-drop}
pub use Rattle.std.proofs.lemmas.List.Sums.{sum_by-cons, sum_by_more}
pub use Rattle.std.proofs.lemmas.Result.{IfOk-weaker, IfErr-weaker}
pub use Rattle.std.proofs.lemmas.Slice.Eq.{slice_eq-Decides}
pub use Rattle.std.proofs.lemmas.Str.{IsUtf8-string_bytes}
pub use Rattle.std.specs.Cmp.{nat_cmp_total, IsTotalOrder}
pub use Rattle.std.specs.Cmp.Lexicographic.{slice_cmp, nat_list_cmp_total}
pub use Rattle.std.specs.List.{AllByRecursion, list_any, range_with_len, sum_by}
pub use Rattle.std.specs.Option.{option_copied}
pub use Rattle.std.specs.Ordering.{is_eq, ordering_then, ordering_reverse, is_lt}
pub use Rattle.std.specs.Prelude.{if◌then◌else◌}
pub use Rattle.zeb_blocks.specs.Blocks.{BlockSpells, LiesIn, IsNumbered, spelled_from, start_of}
pub use Rattle.zeb_blocks.specs.declared.postings.Posting.{Posting}
pub use Rattle.zeb_keys.proofs.Rising.{numbers_apart, key_total}
pub use Rattle.zeb_keys.specs.Registers.{register_code}
pub use Rattle.zeb_keys.specs.declared.Register.{Register}
pub use Rattle.zeb_keys.specs.declared.keys.Key.{Key}
pub use Rattle.zeb_packed.specs.PrivateNewRows.{GoesOnOpenOf, AreLacking, GainsAll, new_block_row, new_count_row, AreValuesOf, AreToldNew, IsOfRegister, joined, GainsRows, AreApart, BeginsBlocks, SpellsNew, BeginsKey, LeavesPlaces, SomeStands, AreBehind, HoldsRun, TurnsKey}
pub use Rattle.zeb_packed.proofs.PackedColumns.{block_columns, block_key, dict_columns}
pub use Rattle.zeb_packed.specs.PrivatePackedChanges.{IsClearFrom, IfTold, SpellsIn, PutsBlock}
pub use Rattle.zeb_packed.specs.PrivatePackedRows.{IsFallingListOf, IsRestBefore, IsRestFrom, count_row, EndsCounting, TellTerms, SomeMalformed}
pub use Rattle.zeb_packed.specs.PrivateUnitCalls.{LacksNewBlocks, AllowsBlocks, TurnsBlocks, AllowsBlock, PutsRunOf, TurnsBlock}
pub use Rattle.zeb_packed.specs.declared.new_rows.NewBlock.{NewBlock}
pub use Rattle.zeb_packed.specs.declared.new_rows.NewCount.{NewCount}
pub use Rattle.zeb_packed.specs.declared.new_rows.NewRows.{NewRows}
pub use Rattle.zeb_packed.specs.declared.packed_changes.Known.{Known}
pub use Rattle.zeb_packed.specs.declared.statements.many.TheConstants.{MANY, ADD_BLOCKS, ADD_COUNTS}
pub use Rattle.zeb_register.proofs.Answered.{refused_so, fault_met}
pub use Rattle.zeb_register.proofs.BetweenLemmas.{up_to, blocks_many, spelled_by, spelled_row, spelled_too}
pub use Rattle.zeb_register.proofs.BetweenRows.{has_under, shown_row, under, under_has, under_listed, begins}
pub use Rattle.zeb_register.proofs.BetweenStatements.{between, more}
pub use Rattle.zeb_register.proofs.BlockUnits.{held_block, held_units, malformed_block, none_rises, one_block_read, one_reading, read_rises}
pub use Rattle.zeb_register.proofs.Calls.{IsSilent, alters_so, changes_after, changes_none, reads_goes, store_same, inside_so, on_ok_so, goes_keeps, on_err, goes_then, on_err_so, changes_so, changes_then, stays_then, Stays, nothing, quiet, alters, refused_keeps, lists_inside, query_keeps, read_inside}
pub use Rattle.zeb_register.proofs.CallsInTurn.{quiet_then, violated, quiet_still}
pub use Rattle.zeb_register.proofs.Columns.{column_is, numbered_rows}
pub use Rattle.zeb_register.proofs.ContentChanges.{at_sysno, posting_total, told_spot, with_list, place_total}
pub use Rattle.zeb_register.proofs.ContentLemmas.{told_apart, same_key, one_list, some_posting, ints_order, has_at}
pub use Rattle.zeb_register.proofs.ContentTurns.{none_left, touched, turns_kept}
pub use Rattle.zeb_register.proofs.CountLemmas.{count_upto, counted_none, one_count, count_none, count_so, has_end, less_is, term_total, is_less, rises_last, rises_then, comes_is, comes_not}
pub use Rattle.zeb_register.proofs.KeyPlaces.{in_place, own_part, place_in, placed_at}
pub use Rattle.zeb_register.proofs.ListChanges.{list_changed, content_changed, content_none, content_rises, one_content_changed, place_of, posting_is, place_is, no_change, run, run_first, run_long, run_within}
pub use Rattle.zeb_packed.proofs.FirstRows.{none_is, first_got, first_is}
pub use Rattle.zeb_register.proofs.Malformed.{key_begins, beside_same, malformed_same, table_same, row_same}
pub use Rattle.zeb_register.proofs.OccurringLemmas.{key_posted, spot_total, one_terms}
pub use Rattle.zeb_register.proofs.PackedLemmas.{not_empty, block_rows, dict_there, in_part, part_in_block, part_in_list, keys_as, blocks_have_terms, block_spells, block_there}
pub use Rattle.zeb_register.proofs.PackedLists.{one_part, all_spelled, each_spelled, key_listed, spelled_more, key_blocks, key_read, key_spelled, one_more_block, posting_lower}
pub use Rattle.zeb_register.proofs.PostingStatements.{blocks, blocks_keys, blocks_static, register_of, dict_keys, dict, dict_static}
pub use Rattle.zeb_register.proofs.PrefixSelects.{IsAfter, lists_after, after_key, alone_first}
pub use Rattle.zeb_register.proofs.Refusals.{IsFit, IsReasonedQuery, IsWhole, why_refused}
pub use Rattle.zeb_register.proofs.RisingLists.{kept_rises, same_list, one_has, one_longer, one_rises, told_by, with_one, joined_rises, pushed_rises, never_itself, cut_rises, flipped_total, has_reversed, reversed_rises}
pub use Rattle.zeb_register.proofs.RowFaults.{refused_rows}
pub use Rattle.zeb_register.proofs.RowLemmas.{covered_some, ordering_tied, shares_alone, blob_of, code_at, spread, same_bytes, text_first}
pub use Rattle.zeb_register.proofs.RunTurns.{stands_once, rise_left, none_put, put_more, refused_first, refused_later}
pub use Rattle.zeb_register.proofs.Scans.{reads, shows_each, shows_sorted, all_shown, strictly_mapped}
pub use Rattle.zeb_register.proofs.Selects.{list_so, IsSelected, shown_places}
pub use Rattle.zeb_register.proofs.SharedKeys.{single}
pub use Rattle.zeb_register.proofs.StatementForms.{alone, keyed_from, no_limit, reading, rising, shows, Condition, passes, reading_by, descending, ordering, equals, at_least, less_than}
pub use Rattle.zeb_register.proofs.TermLists.{last_taken, has_taken, taken_or}
pub use Rattle.zeb_register.proofs.TermRows.{taken_more, take_rises, taken_below}
pub use Rattle.zeb_register.proofs.TermsAmong.{records_count, records_of}
pub use Rattle.zeb_register.proofs.ValueKinds.{IsPlainTable, HasKeys, are_fit, are_comparable, code, codes_of, covers, keeps_all}
pub use Rattle.zeb_register.proofs.Writes.{inserts, keyed_there, codes_there, meets_there, RemakesRows, changed_so, deletes, gains, loses, updates}
pub use Rattle.zeb_register.specs.Answers.{Answers, IfDamaged, LooksInto}
pub use Rattle.zeb_register.specs.Between.{IsBetween}
pub use Rattle.zeb_register.specs.Calls.{Alters, OnlyReads, GoesOn}
pub use Rattle.zeb_register.specs.Content.{AreListChanges, ArePlacesOf, IsListChanged, OldsRise, place_cmp, posting_at, posting_cmp, AreChangedAt, Content, HasRisingLists, IsStorable, posted, AreStorablePlaces, IsStorablePlace, places_in}
pub use Rattle.zeb_register.specs.Formats.{packed_blocks}
pub use Rattle.zeb_register.specs.Occurring.{IsCount, HasKey, AreTermsBefore, AreTermsFrom, AreTermsOf, TermIn, is_before, is_from, key_in, last, term_cmp, AreSpotsOf, Spot, spot_cmp, capped}
pub use Rattle.zeb_register.specs.PackedBlocks.{SpellsPart, IsRecordNumber, HoldsBlocks, block_row, part_in, IsDictRow, dict_row, CountsTerm, AreAllSpelled, IsBlockRow, blocks_of}
pub use Rattle.zeb_register.specs.PackedUnits.{BlockReads, CountsAs, HasMalformed, IsBlockMalformed, IsOfBlock, IsOfKey, ReadsAs, IsMalformed}
pub use Rattle.zeb_register.specs.PlainRows.{key_row, register_front}
pub use Rattle.zeb_register.specs.PrivateBetweenRows.{IsRestBetween, two_behind}
pub use Rattle.zeb_register.specs.PrivateKeyColumns.{IsNumberedRow, IsDictIn, IsOfNumbered, numbered_columns, IsRowOf, register_columns}
pub use Rattle.zeb_register.specs.PrivatePackedRows.{HoldsBlockRows, AreSpelled, IsInBlock}
pub use Rattle.zeb_register.specs.PrivateRowPlaces.{first_two}
pub use Rattle.zeb_register.specs.PrivateRowStatements.{Gains, Renews}
pub use Rattle.zeb_register.specs.PrivateRowTerms.{IsInRecord}
pub use Rattle.zeb_register.specs.PrivateUnits.{units_of}
pub use Rattle.zeb_register.specs.RunChanges.{KeysRise, run_key, IsRunRefusedAs, LacksLeave, PutsKeys, TurnsAny}
pub use Rattle.zeb_register.specs.Sound.{KeepsMalformed, KeepsRowsBeside}
pub use Rattle.zeb_register.specs.Sql.{IsListOf, HasLayout, HasRow, Loses, Replaces, ChangesOneTable}
pub use Rattle.zeb_register.specs.Store.{IsStore, blocks_tree, IsRest, dict_tree, postings_tree, KeepsLists, Changes, key_of}
pub use Rattle.zeb_register.specs.Tables.{store_schema}
pub use Rattle.zeb_register.specs.Tallies.{Works, Rises}
pub use Rattle.zeb_register.specs.Terms.{AreListed, ListsAll, SumsUp, Comes, HidesBefore, HidesCount, HidesFrom, HidesNearest, HidesSome, IsNearest, ListsBefore, ListsCounts, ListsFrom, ListsNearest, shows_count}
pub use Rattle.zeb_register.specs.UnitChanges.{IsTold, IsBlockIn, CountsOn, IsBlockCounted, IsStorableChange, KeyUnits, TurnsUnit, TurnsUnits, AllowsChanges, IsTouched, LacksBlock, LacksBlocks, NumbersRise, PutsUnits, PutsAny, IsRefusedAs, IsBlockAmong, IsOwnBlock, KeepsBut, PutsCount, AreSame, TurnsPlaces}
pub use Rattle.zeb_register.specs.Units.{HasMalformedBetween, HoldsUnits, ListsBetween, ListsUnits}
pub use Rattle.zeb_register.specs.declared.faults.RegFault.{RegFault}
pub use Rattle.zeb_register.specs.declared.faults.RegFault.TheVariants.{Damaged, Store}
pub use Rattle.zeb_register.specs.declared.registers.KeyChanges.{KeyChanges}
pub use Rattle.zeb_register.specs.declared.registers.Place.{Place}
pub use Rattle.zeb_register.specs.declared.registers.RecordChange.{RecordChange}
pub use Rattle.zeb_register.specs.declared.registers.RegisterOf.{RegisterOf}
pub use Rattle.zeb_register.specs.declared.registers.TermCount.{TermCount}
pub use Rattle.zeb_register.specs.declared.registers.Work.{Work}
pub use Rattle.zeb_register.specs.declared.statements.keys.KeyOf.{KeyOf}
