-- What this crate's proofs cite of std, of the kit, of the crates below and of its own specs, passed on from one place. Declares nothing.
pub use Rattle.std.proofs.Common.{◌≡◌, ℕ, Bool, true, false, cond, eqb, List, [], ◌∷◌, ◌++◌, Option, Some, None, refl, ap, sym, subst, ◌∙◌, ◌+◌, ◌<◌, length, get_or, drop, ◌≤◌, ◌^◌, arith, ◌≢◌, zero, suc, ◌⊎◌, inl, inr, append_assoc, ◌-◌, true≢false, length-append, take, encode_utf8_all, encode_utf8, lit<}
pub use Rattle.std.proofs.Math.Dec.{T, eqb_refl}
pub use Rattle.std.proofs.Math.Numerals.{one-add}
pub use Rattle.std.proofs.lemmas.Bool.{eqb-true, cases_Bool, eqb-false, ne_eqb}
pub use Rattle.std.proofs.lemmas.Bool.Decides.{nat_tests}
pub use Rattle.std.proofs.lemmas.Grind.{common_steps}
pub use Rattle.std.proofs.lemmas.Iterator.{YieldsList-from_chars}
pub use Rattle.std.proofs.lemmas.Iterator.Consumers.{YieldsList-turn, YieldsList-end}
pub use Rattle.std.proofs.lemmas.List.{at_drop_more, length_push, map-append, nil_from_length, length-map, take_more, append-nil, at_drop_all}
pub use Rattle.std.proofs.lemmas.List.Elements.{All-cons, All-nil, All-head, All-tail}
pub use Rattle.std.proofs.lemmas.Map.Views.{exact_unsigned_eq}
pub use Rattle.std.proofs.lemmas.Option.{slice_get_past}
pub use Rattle.std.proofs.lemmas.Result.{IfOk-weaker}
pub use Rattle.std.proofs.lemmas.Str.{length-encode, encode_ascii, encodes-append, char_from_byte}
pub use Rattle.std.proofs.lemmas.Str.Parse.{numerals_by_value, tells_all_ascii_digits, IsNumeralModel, parse_gives, digits_value_short}
pub use Rattle.std.proofs.lemmas.Str.Pattern.{split_once_first}
pub use Rattle.std.specs.Char.{len_utf8, is_ascii_digit}
pub use Rattle.std.specs.List.{list_all, list_any, position_or_len, before_first, after_first, find, AllPass, flat_map}
pub use Rattle.std.specs.Option.{is_none, option_copied, unwrap_or, option_map, option_to_list}
pub use Rattle.std.specs.Prelude.{Result, Ok, Err, MatchResult, IfOk, not, map, ◌||◌, option_and_then, ◌&&◌, IfSome, nat_lt, nat_le, slice_get, if◌then◌else◌, ◌==◌, string_bytes}
pub use Rattle.std.specs.Result.{OnOk, IfErr, result_ok}
pub use Rattle.std.specs.Str.{all_ascii_digits, bytes_eq, NonePass}
pub use Rattle.std.specs.Str.Parse.{digits_value, ParsesUnsigned}
pub use Rattle.zeb_keys.specs.declared.Register.{Register}
pub use Rattle.zeb_profile.specs.declared.Profile.{Profile}
pub use Rattle.zeb_query.specs.Attributes.{HoldingValue, asks_number, completeness_of, index_in, index_used, is_bib1, is_equality, is_complete, is_local_number, is_other_kind, is_other_set, joined_words, patterns_asked, position_of, register_of, relation_of, sets_in, structure_of, truncation_of, value_held, values_held}
pub use Rattle.zeb_query.specs.Checks.{Check, Fails, Gives, Operand, Refusal, answered, check, checked_by, checks_in, clash_check, distance_relations, find_checks, first_that_applies, index_check, index_near, kind_check, number_check, number_checks, one_of, operand_checks, operand_of, operands_checks, orderings, parameter_checks, proximity_checks, refused, scan_checks, scan_checks_in, separation_of, set_check, term_checks, type_check, use_checks, words_check, written}
pub use Rattle.zeb_query.specs.Grammar.{few, many, is_number, number_of, TreeValue, TermValue, NamedValue, PairValue, QueryValue, IsStructure, is_term, is_named, is_attribute, is_attribute_of_set, is_typed, is_pair, IsQuery, is_structure_of_set, kept_text, has_equals, is_good, text_of, connective_of, ConnectiveValue, BooleanOf, ProximityOf, ParametersValue, parameters_value, under, with_attribute, with_type, no_head, SpellsQuery, keyword_of, is_structure, is_equals_sign, HeadValue, if_any, is_good_spelling, heads, or_else, AttributeValue, attribute_value, head_value, query_value, tree_value}
pub use Rattle.zeb_query.specs.Places.{IsBeginning, IsQueryWithin, IsBeginningWithin, IsStrange, IsUnfinished, IsUnspelled, IsCrowded, operators, IsFaultOf, IsReadable, IsFaulty, is_long, is_unspelled, is_crowded}
pub use Rattle.zeb_query.specs.Plans.{BeginsAtKey, HasSmallNumber, HasSmallNumbers, NearOf, NumberOf, OrderedOf, PairOf, PlanValue, RecordNumberOf, ScanValue, TermOf, TermPlanValue, asked_with, entries_asked, near_asked, operand_pattern, plan_of, plan_value, scan_value, start_asked, subject_asked, texts_asked, tree_asked, tree_scanned, words_asked}
pub use Rattle.zeb_query.specs.PrivatePlanning.{◌>>=◌, index_read, kept_or, operands_plan, passed, patterns_read, related_plan, subject_index, subject_plan, subject_read, tree_plan}
pub use Rattle.zeb_query.specs.PrivateReading.{words_with, first_keyword, word_of, left, fault_of, more_structures, IsRead, ReadsQuery, ReadsStructure, ReadsText, ReadsWord, IsSpec, SpellsAttribute, SpellsHead, SpellsWholeHead, SpellsMore, SpellsParameters, SpellsOperator, SpellsSet, Spells, SpellsUnder, IsFault, held_with, with_set, IsDiagnostic, holding_value}
pub use Rattle.zeb_query.specs.PrivateWalk.{parameter_count, words_at, Due, Start, Structures, SetOrSpec, Spec, MoreWords, words_then, fault, fault_at_end, Step, Allowed, Refused, step, good_step, structure_step, start_step, spec_step, operator_step, Begun, unquoted, in_word, in_quotes, plain_word, quoted_word, with_front}
pub use Rattle.zeb_query.specs.Words.{Word, AreWords, is_blank, Sign, Itself, Escaped, sign_text, meant, is_sign, IsCutOff, IsWritten, is_plain, is_braced, is_quoted, is_open, Stretch, stretch_text, stretch_word, IsStretch}
pub use Rattle.zeb_query.specs.declared.attributes.Asked.{Asked}
pub use Rattle.zeb_query.specs.declared.attributes.Asked.TheVariants.{Compared, Always}
pub use Rattle.zeb_query.specs.declared.attributes.Completeness.{Completeness}
pub use Rattle.zeb_query.specs.declared.attributes.Completeness.TheVariants.{Complete, Incomplete}
pub use Rattle.zeb_query.specs.declared.attributes.Position.TheVariants.{Any}
pub use Rattle.zeb_query.specs.declared.attributes.Structure.{Structure}
pub use Rattle.zeb_query.specs.declared.attributes.Structure.TheVariants.{Phrase, WordList, FreeForm, Numeric}
pub use Rattle.zeb_query.specs.declared.faults.QueryFault.{QueryFault}
pub use Rattle.zeb_query.specs.declared.faults.QueryFault.TheVariants.{Diagnostic, Memory}
pub use Rattle.zeb_query.specs.declared.grammar.Rest.{Rest}
pub use Rattle.zeb_query.specs.declared.keywords.Keyword.{Keyword}
pub use Rattle.zeb_query.specs.declared.keywords.Keyword.TheVariants.{Operator, AttributeSet, Attribute, TermType, ResultSet}
pub use Rattle.zeb_query.specs.declared.plans.Relation.{Relation}
pub use Rattle.zeb_query.specs.declared.plans.Relation.TheVariants.{Equal}
pub use Rattle.zeb_query.specs.declared.plans.Separation.{Separation}
pub use Rattle.zeb_query.specs.declared.keywords.OperatorWord.{OperatorWord}
pub use Rattle.zeb_query.specs.declared.keywords.OperatorWord.TheVariants.{And, Or, Not, Proximity}
pub use Rattle.zeb_query.specs.declared.queries.Query.{Query}
pub use Rattle.zeb_query.specs.declared.queries.Tree.{Term, Tree}
pub use Rattle.zeb_query.specs.declared.values.Purpose.{Purpose}
pub use Rattle.zeb_query.specs.declared.values.Purpose.TheVariants.{Find, Scan, Near}
pub use Rattle.zeb_query.specs.declared.values.Subject.{Subject}
pub use Rattle.zeb_query.specs.declared.values.Subject.TheVariants.{Record, Entries}
pub use Rattle.zeb_query.specs.declared.values.Values.{Values}
pub use Rattle.zeb_query.specs.declared.words.Cutter.{Cutter}
pub use Rattle.zeb_query.specs.declared.words.Spelling.{Spelling}
pub use Rattle.zeb_query.specs.declared.words.Spelling.TheVariants.{Plain, Quoted, Bad}
pub use Rattle.zeb_text.specs.Symbols.{Symbol}
