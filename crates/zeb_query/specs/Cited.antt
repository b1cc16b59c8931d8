-- What these definitions cite of std, of the crates below and of the program's types, passed on from one place. Declares nothing.
pub use Rattle.std.specs.Char.{is_ascii_digit, len_utf8, to_ascii_lowercase}
pub use Rattle.std.specs.List.{AllPass, after_first, before_first, join_with_byte, list_all, list_any, position_or_len}
pub use Rattle.std.specs.Option.{is_none, is_some, option_map_or}
pub use Rattle.std.specs.Str.Parse.{digits_value}
pub use Rattle.zeb_keys.specs.declared.Register.{Register}
pub use Rattle.zeb_profile.specs.Indexes.{has_pair, index_by_name, index_by_use}
pub use Rattle.zeb_profile.specs.declared.Profile.{Profile}
pub use Rattle.zeb_query.specs.declared.attributes.Asked.{Asked}
pub use Rattle.zeb_query.specs.declared.attributes.Asked.TheVariants.{Always, Compared}
pub use Rattle.zeb_query.specs.declared.attributes.Completeness.{Completeness}
pub use Rattle.zeb_query.specs.declared.attributes.Completeness.TheVariants.{Complete, Incomplete}
pub use Rattle.zeb_query.specs.declared.attributes.Position.{Position}
pub use Rattle.zeb_query.specs.declared.attributes.Position.TheVariants.{Any, First}
pub use Rattle.zeb_query.specs.declared.attributes.Structure.{Structure}
pub use Rattle.zeb_query.specs.declared.attributes.Structure.TheVariants.{FreeForm, Numeric, Phrase, WordList}
pub use Rattle.zeb_query.specs.declared.faults.QueryFault.{QueryFault}
pub use Rattle.zeb_query.specs.declared.faults.QueryFault.TheVariants.{Diagnostic, Memory}
pub use Rattle.zeb_query.specs.declared.keywords.Keyword.{Keyword}
pub use Rattle.zeb_query.specs.declared.keywords.OperatorWord.{OperatorWord}
pub use Rattle.zeb_query.specs.declared.keywords.OperatorWord.TheVariants.{And, Not, Or, Proximity}
pub use Rattle.zeb_query.specs.declared.plans.DistanceRelation.{DistanceRelation}
pub use Rattle.zeb_query.specs.declared.plans.Operator.{Operator}
pub use Rattle.zeb_query.specs.declared.plans.Relation.{Relation}
pub use Rattle.zeb_query.specs.declared.plans.Separation.{Separation}
pub use Rattle.zeb_query.specs.declared.values.Purpose.{Purpose}
pub use Rattle.zeb_query.specs.declared.values.Purpose.TheVariants.{Find, Near, Scan}
pub use Rattle.zeb_query.specs.declared.values.Subject.{Subject}
pub use Rattle.zeb_query.specs.declared.values.Subject.TheVariants.{Entries, Record}
pub use Rattle.zeb_query.specs.declared.values.Values.{Values}
pub use Rattle.zeb_query.specs.declared.words.Spelling.{Spelling}
pub use Rattle.zeb_query.specs.declared.words.Spelling.TheVariants.{Bad, Plain, Quoted}
pub use Rattle.zeb_text.specs.Numbers.{number_key}
pub use Rattle.zeb_text.specs.Symbols.{Symbol}
pub use Rattle.zeb_text.specs.declared.Cut.{Cut}
pub use Rattle.zeb_text.specs.declared.Spread.{Spread}
pub use Rattle.zeb_text.specs.declared.Spread.TheVariants.{Each, Ends}
