-- Queries' texts and what they spell, word by word.
use Rattle.zeb_query.proofs.Cited.{◌≡◌, ℕ, true, false, List, [], ◌∷◌, ◌++◌, Some, None, refl, subst, Result, list_all, Word, AreWords, words_at, TreeValue, TermValue, NamedValue, PairValue, QueryValue, IsStructure, is_term, is_named, is_attribute, is_attribute_of_set, is_typed, is_pair, IsQuery, is_structure_of_set, has_equals, is_good, text_of, under, with_attribute, with_type, no_head, SpellsQuery, PlanValue, ScanValue, plan_of, Refusal, ConnectiveValue, connective_of}
use Rattle.zeb_query.specs.declared.words.Spelling.TheVariants.{Plain, Quoted}
use Rattle.zeb_query.specs.declared.keywords.Keyword.TheVariants.{Operator}
use Rattle.zeb_query.specs.declared.keywords.OperatorWord.{OperatorWord}
use Rattle.std.proofs.Common.{codes}
use Rattle.zeb_profile.specs.declared.directives.Directive.{Directive}
use Rattle.zeb_query.specs.Grammar.{keyword_spelled}
use Rattle.zeb_query.specs.Plans.{scan_of}
use Rattle.zeb_lower_laws.specs.WorkedQueries.{sample_profile, PlansUnder, PlansAs, ScansAs}
use Rattle.std.proofs.Common.{map}
use Rattle.zeb_query.proofs.WordStretches.{words_are_read}
-- what the examples unfold
unfoldable pub use Rattle.std.specs.Str.{chars, is_utf8}
unfoldable pub use Rattle.std.specs.Fmt.{digits}
unfoldable pub use lib.Utf8.{encode}
unfoldable pub use Rattle.ucd_category.proofs.Computing.{ucd_category}
unfoldable pub use Rattle.caseless.proofs.Computing.{caseless}
unfoldable pub use Rattle.zeb_text.specs.Folding.{folded}
unfoldable pub use Rattle.zeb_text.specs.Words.{is_word_character, runs_of}
unfoldable pub use Rattle.zeb_text.specs.Truncation.{truncated}
unfoldable pub use Rattle.zeb_text.specs.Numbers.{number_key}
unfoldable pub use Rattle.zeb_query.specs.Grammar.{kind_and_value}
unfoldable pub use Rattle.zeb_query.specs.Attributes.{holding_of}
unfoldable pub use Rattle.zeb_query.specs.Plans.{plan_asked, scan_asked}

abbrev pub plain : ℕ → List ℕ → Word
plain place text = record { place = place; spelling = Plain; text = text }

pub term_at : (place : ℕ) (text : List ℕ) → keyword_spelled text ≡ None → IsStructure (plain place text ∷ []) (TermValue place no_head text)
term_at place text key = is_term (plain place text) refl key

pub quoted_at : (place : ℕ) (text : List ℕ)
    → IsStructure (record { place = place; spelling = Quoted; text = text } ∷ []) (TermValue place no_head text)
quoted_at place text = is_term (record { place = place; spelling = Quoted; text = text }) refl refl

pub named_at : (place at : ℕ) (name : List ℕ) → IsStructure (plain place (codes "@set") ∷ plain at name ∷ []) (NamedValue place no_head name)
named_at place at name = is_named (plain place (codes "@set")) (plain at name) refl refl

pub under_at : {words : List Word} {tree : TreeValue} (place at : ℕ) (spec : List ℕ) (read : ℕ × List ℕ) → kind_and_value spec ≡ Some read → IsStructure words tree
    → IsStructure (plain place (codes "@attr") ∷ plain at spec ∷ words) (under (with_attribute None read) tree)
under_at {words} {tree} place at spec read is s = is_attribute (plain place (codes "@attr")) (plain at spec) words tree read refl refl is s

pub set_at : {words : List Word} {tree : TreeValue} (place set_place at : ℕ) (set spec : List ℕ) (read : ℕ × List ℕ) → has_equals set ≡ false → kind_and_value spec ≡ Some read
    → IsStructure words tree
    → IsStructure (plain place (codes "@attr") ∷ plain set_place set ∷ plain at spec ∷ words) (under (with_attribute (Some set) read) tree)
set_at {words} {tree} place set_place at set spec read without is s =
    is_attribute_of_set (plain place (codes "@attr")) (plain set_place set) (plain at spec) words tree read refl refl without refl is s

pub typed_at : {words : List Word} {tree : TreeValue} (place at : ℕ) (type : List ℕ) → IsStructure words tree
    → IsStructure (plain place (codes "@term") ∷ plain at type ∷ words) (under (with_type type) tree)
typed_at {words} {tree} place at type s = is_typed (plain place (codes "@term")) (plain at type) words tree refl refl s

pub pair_at : {left right : List Word} {x y : TreeValue} {connective : ConnectiveValue} (place : ℕ) (name : List ℕ) (word : OperatorWord) (parameters : List Word)
    → keyword_spelled name ≡ Some (Operator word) → connective_of word (map text_of parameters) ≡ Some connective → list_all is_good parameters ≡ true
    → IsStructure left x → IsStructure right y
    → IsStructure (plain place name ∷ (parameters ++ (left ++ right))) (PairValue place no_head connective x y)
pair_at {left} {right} {x} {y} {connective} place name word parameters key is good s t = is_pair (plain place name) word connective parameters left right x y key is good s t

-- a text that spells a query
pub spells : (text : List ℕ) (words : List Word) (query : QueryValue) → IsQuery words query → words_at 0 (chars text) ≡ words → SpellsQuery text query
spells text words query is read = record { words = words; are_words = subst (AreWords (chars text)) read (words_are_read (chars text)); spelled = is }

-- a query whose attribute set is named
pub of_set : {words : List Word} {tree : TreeValue} (place at : ℕ) (set : List ℕ) → IsStructure words tree
    → IsQuery (plain place (codes "@attrset") ∷ plain at set ∷ words) (record { attrset = Some set; tree = tree })
of_set {words} {tree} place at set s = is_structure_of_set (plain place (codes "@attrset")) (plain at set) words tree refl refl s

pub planned_under : {profile : List Directive} {text : List ℕ} {words : List Word} {query : QueryValue} {result : Result PlanValue Refusal} → IsQuery words query
    → words_at 0 (chars text) ≡ words → plan_of profile query ≡ result → PlansUnder profile text result
planned_under {profile} {text} {words} {query} {result} is read plans = record { query = query; spelled = spells text words query is read; planned = plans }

pub planned : {text : List ℕ} {words : List Word} {query : QueryValue} {result : Result PlanValue Refusal} → IsQuery words query
    → words_at 0 (chars text) ≡ words → plan_of sample_profile query ≡ result → PlansAs text result
planned {text} {words} {query} {result} is read plans = record { query = query; spelled = spells text words query is read; planned = plans }

pub scanned : {text : List ℕ} {words : List Word} {query : QueryValue} {result : Result ScanValue Refusal} → IsQuery words query
    → words_at 0 (chars text) ≡ words → scan_of sample_profile query ≡ result → ScansAs text result
scanned {text} {words} {query} {result} is read plans = record { query = query; spelled = spells text words query is read; planned = plans }
