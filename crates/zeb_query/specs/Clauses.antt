-- What clauses of this crate's functions cite beside std's plain words, passed on from one place. Declares nothing.
pub use Rattle.std.specs.Char.{is_ascii_digit, len_utf8}
pub use Rattle.std.specs.List.{list_all}
pub use Rattle.zeb_query.specs.Attributes.{holding_of, is_bib1}
pub use Rattle.zeb_query.specs.Checks.{Gives, distance_relations, one_of, operand_of, operator_named, orderings}
pub use Rattle.zeb_query.specs.Grammar.{BooleanOf, HeadValue, IsQuery, SpellsQuery, attribute_value, connective_of, connective_value, few, has_equals, head_value, heads, is_good, is_number, kept_text, keyword_of, kind_and_value, many, no_head, number_of, operator_word, parameters_value, query_value, tree_value}
pub use Rattle.zeb_query.specs.Places.{IsFaultOf, IsReadable}
pub use Rattle.zeb_query.specs.Plans.{plan_value}
pub use Rattle.zeb_query.specs.PrivateReading.{IsDiagnostic, IsFault, Reads, ReadsHead, ReadsQuery, ReadsStructure, ReadsText, ReadsWord, Spells, SpellsUnder, SpellsAttribute, SpellsWholeHead, SpellsMore, SpellsOperator, SpellsProximity, SpellsSet, IsSpec, condition_number, fault_of, first_keyword, first_place, held_with, holding_value, left, more_structures, pair_value, with_set, word_of, words_with}
pub use Rattle.zeb_query.specs.PrivateWalk.{Due, MoreWords, SetOrSpec, Spec, Start, Structures, fault, fault_at_end, unquoted, words_at, words_then}
pub use Rattle.zeb_query.specs.Words.{Word as WordOfQuery, is_blank}
pub use Rattle.zeb_query.specs.declared.keywords.Keyword.TheVariants.{Attribute, Operator, ResultSet, TermType}
