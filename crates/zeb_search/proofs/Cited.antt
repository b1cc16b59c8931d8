-- What this crate's proofs cite of std, of the kit, of the crates below and of its own specs, passed on from one place. Declares nothing.
pub use Rattle.sqlite.proofs.Callers.{unchanged_then}
pub use Rattle.sqlite.proofs.RunLemmas.{has_got}
pub use Rattle.sqlite.specs.Effect.{Database}
pub use Rattle.sqlite.specs.Held.{state}
pub use Rattle.sqlite.specs.Order.{Row, column}
pub use Rattle.sqlite.specs.State.{State, HasCleanDisk, Survives, IsUnchanged}
pub use Rattle.sqlite.specs.Tree.{Trees}
pub use Rattle.sqlite.specs.declared.types.Value.TheVariants.{Text}
pub use Rattle.sqlite_rules.proofs.ListLemmas.{all_has, has_at, has_left, has_right, has_either, contains_had, all_from, has_contained, has_filtered, has_kept}
pub use Rattle.sqlite_rules.proofs.ProbeLemmas.{has_mapped, mapped_has}
pub use Rattle.sqlite_rules.specs.Lists.{Has}
pub use Rattle.std.proofs.Common.{◌≡◌, ◌↔◌, ◌⊎◌, ◌∙◌, ◌++◌, ◌<◌, ℕ, List, [], ◌∷◌, IsTrue, true, false, refl, sym, ap, subst, inl, inr, Ordering, Less, Equal, Greater, arith, ◌+◌, ◌*◌, ◌≤◌, ℤ, Some, None, length, map, length-append, zero, suc, Bool, cond, get_or, take, Option, ◌-◌, ◌≢◌, drop, String, string_bytes, Result, Ok, Err, OnOk, Vec, subst₂, ◌&&◌, nat_eq, not, filter, IsUtf8, chars, encode_utf8_all, pos, ◌==◌, eqb-true, eq-eqb, ◌^◌, min, MatchBool, slice_get, IfOk, is_ok, rules}
pub use Rattle.std.proofs.Math.Nat.{mul-add, mul-le-mul_left}
pub use Rattle.std.proofs.lemmas.Bool.{cases_lt}
pub use Rattle.std.proofs.lemmas.Bool.Decides.{nat_tests}
pub use Rattle.std.proofs.lemmas.Cmp.{tied_itself}
pub use Rattle.std.proofs.lemmas.Grind.{get_or_default_zero}
pub use Rattle.std.proofs.lemmas.List.{length-map, get_or_default, append-nil, take_more, append_assoc, take-append-drop, map-append, get_or-map, take_all, nil_from_length}
pub use Rattle.std.proofs.lemmas.List.Kept.{IsStrictlySortedBy-filter}
pub use Rattle.std.proofs.lemmas.List.Sorted.{IsPermutation-refl, answers_always}
pub use Rattle.std.proofs.lemmas.List.Sums.{sum_by-append}
pub use Rattle.std.proofs.lemmas.Map.Keys.{below_from_sorted}
pub use Rattle.std.proofs.lemmas.Option.{get_or_from_slice_get, slice_get_within}
pub use Rattle.std.proofs.lemmas.Result.{IfOk-weaker, on_ok_weaker}
pub use Rattle.std.proofs.lemmas.Str.{encodes-chars, IsUtf8-string_bytes}
pub use Rattle.std.specs.Cmp.{IsTotalOrder, nat_cmp_total}
pub use Rattle.std.specs.Cmp.Lexicographic.{slice_cmp, nat_list_cmp_total}
pub use Rattle.std.specs.List.{Contains}
pub use Rattle.std.specs.List.Retain.{IsFiltered, DiffersFromLast}
pub use Rattle.std.specs.List.Sorted.{IsPermutation, IsSorted, IsStrictlySortedBy}
pub use Rattle.std.specs.Ordering.{nat_cmp, is_lt, is_le, is_eq, is_ge, is_gt, ordering_reverse, ordering_then, eq_by_cmp}
pub use Rattle.std.specs.Str.Pattern.{FindsTextPrefix, HasPrefixMatch}
pub use Rattle.std.specs.declared.alloc.Global.{Global}
pub use Rattle.zeb_keys.proofs.Rising.{numbers_apart}
pub use Rattle.zeb_keys.proofs.SortedLists.{rising_from_dedup, members_from_dedup}
pub use Rattle.zeb_keys.specs.Order.{TellsApart}
pub use Rattle.zeb_keys.specs.declared.Register.{Register}
pub use Rattle.zeb_keys.specs.declared.keys.Key.{Key}
pub use Rattle.zeb_keys.specs.declared.keys.Occurrence.{Occurrence}
pub use Rattle.zeb_profile.specs.declared.Profile.{Profile}
pub use Rattle.zeb_query.proofs.CheckLemmas.{answered_ok, none-cons}
pub use Rattle.zeb_query.proofs.HoldingLemmas.{take_whole}
pub use Rattle.zeb_query.specs.Attributes.{HoldingValue, asks_number, holding_of, is_equality, is_first, joined_words, patterns_asked, register_of, values_held, completeness_of, index_used, is_local_number, position_of, relation_of, structure_of, truncation_of}
pub use Rattle.zeb_query.specs.Checks.{find_checks, first_that_applies, Check}
pub use Rattle.zeb_query.specs.Grammar.{HeadValue, TermValue, heads, no_head}
pub use Rattle.zeb_query.specs.Plans.{PlanValue, TermOf, PairOf, NearOf, TermPlanValue, RecordNumberOf, NoWordsOf, AlwaysOf, NumberOf, OrderedOf, CompleteOf, PhraseOf, AllWordsOf, AnyWordOf, plan_value, asked_with, entries_asked, plan_of, subject_asked, texts_asked, words_asked, plan_asked}
pub use Rattle.zeb_query.specs.declared.attributes.Asked.TheVariants.{Always, Compared}
pub use Rattle.zeb_query.specs.declared.attributes.Completeness.TheVariants.{Complete, Incomplete}
pub use Rattle.zeb_query.specs.declared.attributes.Structure.TheVariants.{FreeForm, Numeric, Phrase, WordList}
pub use Rattle.zeb_query.specs.declared.plans.Operator.{Operator}
pub use Rattle.zeb_query.specs.declared.plans.Operator.TheVariants.{And, Or, Not}
pub use Rattle.zeb_query.specs.declared.plans.PairPlan.{PairPlan}
pub use Rattle.zeb_query.specs.declared.plans.Relation.{Relation}
pub use Rattle.zeb_query.specs.declared.plans.Separation.{Separation}
pub use Rattle.zeb_query.specs.declared.values.Subject.TheVariants.{Entries, Record}
pub use Rattle.zeb_register.proofs.Answered.{told_held}
pub use Rattle.zeb_register.proofs.Calls.{nothing_still, nothing_then, store_same}
pub use Rattle.zeb_register.proofs.CallsInTurn.{quiet_still, quiet_then}
pub use Rattle.zeb_register.proofs.Causes.{may_after}
pub use Rattle.zeb_register.proofs.ContentChanges.{posting_total, postings_apart}
pub use Rattle.zeb_register.proofs.CountLemmas.{is_less, less_is, some_count}
pub use Rattle.zeb_register.proofs.CountLists.{asked_shown, all_told}
pub use Rattle.zeb_register.proofs.KeyLists.{count_held, one_places, list_told}
pub use Rattle.zeb_register.proofs.RisingLists.{never_back, never_itself, no_longer, pushed_rises, before_last, front_rises, joined_rises}
pub use Rattle.zeb_register.proofs.RowLemmas.{same_bytes}
pub use Rattle.zeb_register.proofs.TermLists.{above_least, least_above}
pub use Rattle.zeb_register.proofs.TermRows.{taken_below, taken_more, last_view}
pub use Rattle.zeb_register.specs.Answers.{LooksInto}
pub use Rattle.zeb_register.specs.Between.{AreKeysBetween, IsBetween}
pub use Rattle.zeb_register.specs.Calls.{ChangesNothing, Reading}
pub use Rattle.zeb_register.specs.Clauses.{OnStore, TellsHeld, IsReasoned}
pub use Rattle.zeb_register.specs.Content.{Content, posted, posting_cmp, Posting, IsStorable, places_in}
pub use Rattle.zeb_register.specs.Formats.{Format, holds_in, plain_rows, packed_blocks, packed_leaves}
pub use Rattle.zeb_register.specs.Kept.{IsIdentOf, AreReadableIdents}
pub use Rattle.zeb_register.specs.Occurring.{AreTermsOf, TermIn, key_in, term_cmp}
pub use Rattle.zeb_register.specs.PlainRows.{register_front}
pub use Rattle.zeb_register.specs.Store.{IsStore, HasRecord}
pub use Rattle.zeb_register.specs.Tallies.{Works, Rises}
pub use Rattle.zeb_register.specs.Terms.{shows_count, Comes, IsNearest, ListsAll, ListsFrom, HidesSome, HidesFrom, TellsFrom}
pub use Rattle.zeb_register.specs.Units.{HasMalformedBetween, ListsBetween, ListsUnits, has_malformed, counts_as}
pub use Rattle.zeb_register.specs.declared.RegFault.{RegFault}
pub use Rattle.zeb_register.specs.declared.registers.RegisterOf.{RegisterOf}
pub use Rattle.zeb_register.specs.declared.registers.TermCount.{TermCount}
pub use Rattle.zeb_register.specs.declared.registers.Work.{Work}
pub use Rattle.zeb_search.specs.ByAttributes.{HasRow, HoldsByAttributes, AreKept, IsNamed, occurs_in}
pub use Rattle.zeb_search.specs.Comparing.{Precedes, StandsInOrder, Stands, AreApart, IsDistant}
pub use Rattle.zeb_search.specs.DictRows.{EntryDict, PlanDict, RegisterDict, TermDict, WordDict}
pub use Rattle.zeb_search.specs.Finds.{FindsEntries, FindsWords, Follow, HasAll, HasEach, HasPosting, HasRun, HasSome, HidesEntries, HidesWords, IsCounted, IsNear, IsReached, IsShown, IsStray, Occurs, PlanFinds, PlanHides, ReadsEntries, ReadsWord, ReadsWords, TermFinds, TermHides}
pub use Rattle.zeb_search.specs.Holds.{AreJoined, HasEntry, HasWord, HasWords, HasNear, TermHolds, TreeHolds, Fits, HasMatch, HasPhrase, IsNumberAt}
pub use Rattle.zeb_search.specs.ListRows.{AreKeysOf, EntryRows, rows_under, WordRows, PlanRows}
pub use Rattle.zeb_search.specs.Lists.{AreNumbers, AreJust, Rise}
pub use Rattle.zeb_search.specs.PrivateFinds.{HidesKeys, IsReachedBy, ListsKeys, PlacesFound}
pub use Rattle.zeb_search.specs.PrivateLists.{ArePostings}
pub use Rattle.zeb_search.specs.PrivateMet.{IsShownAmong, IsShownWith, AreKeysIn, AreMet, HasMet, MeetsCounts}
pub use Rattle.zeb_search.specs.PrivateSearching.{NoRows, SearchesPhrases, SearchesSome, SearchesTerm}
pub use Rattle.zeb_search.specs.PrivateTerms.{TermsRise, BeginsAt, IsAmong, LeadsTo, AreTaken, IsWanted, NamesEntry, AreFound, AreRun, StandTogether, StandsWithin, EndsAt}
pub use Rattle.zeb_search.specs.PrivateWalks.{HasWithin, IsBefore, IsBehind, IsUpTo, IsWithin, IsFollowed, IsNearBy, IsWithinSome, words_between}
pub use Rattle.zeb_search.specs.Registers.{HoldsIn, is_kept_in, NamesReadable, TermNamesReadable}
pub use Rattle.zeb_search.specs.SearchCounts.{CountsRows, HasNoStar, AreWithoutStars, IsOneKey, NamesEntries, TermNamesEntries, CountsAtMost}
pub use Rattle.zeb_search.specs.Searching.{Searches, SearchesPlan}
pub use Rattle.zeb_search.specs.SearchRows.{AreEntriesSound, AreWordsSound, ArePlanRowsSound, AreTermRowsSound}
pub use Rattle.zeb_search.specs.Untouched.{IsUntouched}
pub use Rattle.zeb_search.specs.declared.keys.FoundKeys.{FoundKeys}
pub use Rattle.zeb_search.specs.declared.lists.Words.{Words}
pub use Rattle.zeb_search.specs.declared.terms.Wanted.{Wanted}
pub use Rattle.zeb_text.proofs.KeyLemmas.{keys_order}
pub use Rattle.zeb_text.proofs.MatchLemmas.{literal-same, same-literal, after_literal, cut_bytes}
pub use Rattle.zeb_text.specs.Numbers.{number_key}
pub use Rattle.zeb_text.specs.Patterns.{Matches}
pub use Rattle.zeb_text.specs.Symbols.{Symbol, literal, Star, Char}
pub use mir.Val.{bool_byte}
