-- What this crate's proofs cite of std, of the kit, of the crates below and of its own specs, passed on from one place. Declares nothing.
pub use Rattle.sqlite.proofs.Callers.{unchanged_then}
pub use Rattle.sqlite.specs.Effect.{Database}
pub use Rattle.sqlite.specs.Held.{state}
pub use Rattle.sqlite.specs.Order.{Row, column, row_cmp}
pub use Rattle.sqlite.specs.State.{State, HasCleanDisk, IsUnchanged, Survives}
pub use Rattle.sqlite.specs.Tree.{Trees}
pub use Rattle.sqlite.specs.declared.types.Value.TheVariants.{Int, Text, Blob, Null}
pub use Rattle.sqlite_rules.proofs.ListLemmas.{all_has, all_from, has_found, has_filtered, has_kept, contains_had, has_contained, has_either, has_left, has_right, has_at}
pub use Rattle.sqlite_rules.proofs.ProbeLemmas.{mapped_has, has_mapped}
pub use Rattle.sqlite_rules.specs.Lists.{Has}
pub use Rattle.sqlite_value.proofs.OrderLemmas.{row_cmp_total}
pub use Rattle.std.proofs.Common.{◌≡◌, ◌≢◌, ◌↔◌, ◌⊎◌, ◌∙◌, ℕ, Bool, true, false, not, cond, List, [], ◌∷◌, Some, None, refl, sym, ap, inl, inr, Ordering, Less, Equal, Greater, subst, ◌++◌, map, ℤ, pos, string_bytes, ◌≤◌, ap₂, arith, subst₂, int_cmp, Option, IsUtf8, ◌||◌, ◌==◌, ◌<◌, length, get_or, IsTrue, ◌&&◌, nat_eq, ◌+◌, rules, Err, append_assoc, Ok, take, reverse, Result, OnOk, drop, suc}
pub use Rattle.std.proofs.Math.Logic.{∥∥₁_elim}
pub use Rattle.std.proofs.Math.Seq.{split_at}
pub use Rattle.std.proofs.lemmas.Bool.{not-true, and_parts, cases_lt, eqb-true, leb-true, or_cases, and_from, eq-eqb}
pub use Rattle.std.proofs.lemmas.List.{get_or_past, take_more, take_all, map-append}
pub use Rattle.std.proofs.lemmas.List.Sorted.{answers_always, ranks_by, IsPermutation-map, IsPermutation-trans}
pub use Rattle.std.proofs.lemmas.Map.Lookups.{exact_bytes, exact_signed}
pub use Rattle.std.proofs.lemmas.Result.{IfOk-weaker}
pub use Rattle.std.proofs.lemmas.Slice.Eq.{bytes_eq-Decides}
pub use Rattle.std.proofs.lemmas.Str.{IsUtf8-string_bytes, IsUtf8-from_ascii}
pub use Rattle.std.specs.Bool.{Decides}
pub use Rattle.std.specs.Char.{is_ascii_alphanumeric}
pub use Rattle.std.specs.Cmp.{tied_itself, int_cmp_total, IsTotalOrder, Equal-is, on_total, then_total, nat_cmp_total}
pub use Rattle.std.specs.Cmp.Lexicographic.{slice_cmp, nat_list_cmp_total}
pub use Rattle.std.specs.Int.{is_in_range}
pub use Rattle.std.specs.List.{AllZip, Contains}
pub use Rattle.std.specs.List.Retain.{IsFiltered, DiffersFromLast}
pub use Rattle.std.specs.List.Sorted.{IsPermutation, IsSorted, IsStrictlySortedBy}
pub use Rattle.std.specs.Option.{option_map, option_and_then, is_some}
pub use Rattle.std.specs.Ordering.{nat_cmp, ordering_reverse, ordering_then, int_eq, is_eq, eq_by_cmp, is_lt}
pub use Rattle.std.specs.Str.{bytes_eq}
pub use Rattle.std.specs.Vec.Iter.{into_iter_items}
pub use Rattle.zeb_change.proofs.ChangeKeysContent.{keeps_then}
pub use Rattle.zeb_change.proofs.KeyEquality.{same_key}
pub use Rattle.zeb_change.proofs.LeadsToContent.{will_rise, held_whole, will_begin}
pub use Rattle.zeb_change.proofs.Reposted.{reposted, reposted_is}
pub use Rattle.zeb_change.proofs.StoredLemmas.{at_id, at_other, told_id}
pub use Rattle.zeb_change.proofs.TermTexts.{occurrence_storable}
pub use Rattle.zeb_change.proofs.TransactionLemmas.{continues_then, kept_then, goes_on}
pub use Rattle.zeb_change.proofs.TurnLemmas.{none_rise}
pub use Rattle.zeb_change.specs.Base.{Base, Kept}
pub use Rattle.zeb_change.specs.Folding.{ident_in}
pub use Rattle.zeb_change.specs.Inside.{Continues, StaysInside}
pub use Rattle.zeb_change.specs.Noted.{LeadsTo, WillHold}
pub use Rattle.zeb_change.specs.Occurs.{OccursIn, AreOccurrencesOf, occurs}
pub use Rattle.zeb_change.specs.PrivateChangedKeys.{place_in}
pub use Rattle.zeb_change.specs.Reposted.{ArePostingsOf, IsReposted, occurrence_at}
pub use Rattle.zeb_change.specs.Stored.{IsBase, IsKept, ArePosted}
pub use Rattle.zeb_change.specs.UnderWay.{with_records}
pub use Rattle.zeb_change.specs.declared.pending.Pending.{Pending}
pub use Rattle.zeb_extract.proofs.Listed.{grown_by_one}
pub use Rattle.zeb_extract.specs.Identifier.{first_fitting, held_in, identifier_of}
pub use Rattle.zeb_extract.specs.Occurrences.{IsOccurrence}
pub use Rattle.zeb_image.specs.Holdings.{base_named, base_placed, without_base, under}
pub use Rattle.zeb_image.specs.Image.{IsImage, IsImageOf, IsImageUnder, AreBases, HasTexts, AreListsOf}
pub use Rattle.zeb_image.specs.Names.{IsDatabaseName, is_name_byte}
pub use Rattle.zeb_image.specs.PrivateChecking.{CanAllBeHeld, IsExpectation, AreRecordsPostings, CanBeHeld, CanKeep, CanKeepAll, kept_of, occurrence_of, posting_of, AreMade, IsMadeOf, IsExpectationOrNone, ArePostingsOrNone, IsMadeOrNone, bare, AreOccurrencesOrNone}
pub use Rattle.zeb_image.specs.PrivateRebuilding.{PostsDatabase, IsRecordPosted, LacksRecord, WillHoldSuch, IsPosted, LacksDatabase, RowOccurs, HoldsSuch}
pub use Rattle.zeb_image.specs.Rebuilding.{AreReadableLists, AreSound, IsSound, AreSoundIn, Rebuilds}
pub use Rattle.zeb_keys.proofs.Rising.{key_total, keys_apart, both_equal, numbers_apart}
pub use Rattle.zeb_keys.proofs.SortedLists.{members_from_dedup, rising_from_dedup}
pub use Rattle.zeb_keys.specs.Order.{TellsApart, key_order}
pub use Rattle.zeb_keys.specs.contracts.registers.Register.{the_type}
pub use Rattle.zeb_keys.specs.declared.keys.Key.{Key}
pub use Rattle.zeb_keys.specs.declared.keys.Occurrence.{Occurrence}
pub use Rattle.zeb_keys.specs.declared.registers.Register.{Register}
pub use Rattle.zeb_keys.specs.declared.registers.Register.TheVariants.{Word}
pub use Rattle.zeb_marc.specs.Contents.{units_of}
pub use Rattle.zeb_marc.specs.Directory.{FieldText}
pub use Rattle.zeb_marc.specs.Records.{fields_of, first_fault}
pub use Rattle.zeb_profile.proofs.ProfilesBack.{one_text_says_the_same}
pub use Rattle.zeb_profile.proofs.SaysProps.{SaysTheSame-prop}
pub use Rattle.zeb_profile.specs.Canonical.{canonical_text, pattern_text}
pub use Rattle.zeb_profile.specs.Indexes.{identifier_pattern, unit_targets}
pub use Rattle.zeb_profile.specs.Laws.{IsProfile, SaysTheSame}
pub use Rattle.zeb_profile.specs.declared.directives.Directive.{Directive}
pub use Rattle.zeb_register.proofs.Calls.{nothing_then, store_same}
pub use Rattle.zeb_register.proofs.CallsInTurn.{quiet_then}
pub use Rattle.zeb_register.proofs.Causes.{may_after}
pub use Rattle.zeb_register.proofs.ContentChanges.{posting_total, postings_apart}
pub use Rattle.zeb_register.proofs.CountLemmas.{less_is}
pub use Rattle.zeb_register.proofs.FormatLemmas.{one_format, registers_rise, registers_empty}
pub use Rattle.zeb_register.proofs.RisingLists.{never_itself, told_by}
pub use Rattle.zeb_register.proofs.RowsAreLists.{one_ident, one_number, one_last}
pub use Rattle.zeb_register.proofs.Scans.{strictly_mapped}
pub use Rattle.zeb_register.proofs.TermRows.{int_at, up_to}
pub use Rattle.zeb_register.specs.Calls.{ChangesNothing, OnlyReads, GoesOn}
pub use Rattle.zeb_register.specs.Catalog.{listed_order, AreDatabases, AreReadableDatabases}
pub use Rattle.zeb_register.specs.Content.{Content, Posting, posting_cmp, HasRisingLists, IsStorable, IsStorablePosting, posting_at, posted}
pub use Rattle.zeb_register.specs.Expected.{AreExpected, IsOrdered, name_order, number_order, key_posting_order}
pub use Rattle.zeb_register.specs.Formats.{Format, version_of, holds_in}
pub use Rattle.zeb_register.specs.Kept.{AreReadable, record_shown, IsFirstFrom}
pub use Rattle.zeb_register.specs.Sql.{IsListOf}
pub use Rattle.zeb_register.specs.Store.{IsStore, IsRest, records_tree, HasDatabase, HasRecord, KeepsLists, record_row}
pub use Rattle.zeb_register.specs.declared.RegFault.{RegFault}
pub use Rattle.zeb_register.specs.declared.catalog.ListedDatabase.{ListedDatabase}
pub use Rattle.zeb_register.specs.declared.expected.Expected.{Expected}
pub use Rattle.zeb_register.specs.declared.expected.ExpectedDatabase.{ExpectedDatabase}
pub use Rattle.zeb_register.specs.declared.expected.KeyPosting.{KeyPosting}
pub use Rattle.zeb_register.specs.declared.faults.RegFault.TheVariants.{Damaged}
pub use Rattle.zeb_register.specs.declared.kept.Record.{Record}
pub use Rattle.zeb_register.specs.declared.registers.Place.{Place}
pub use denote.Enum.Bare.{sameb}
