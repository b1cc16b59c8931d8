-- Worked examples: two small profiles of this project's own, each the directives of a text, and what the texts of queries come to under
-- them.
use Rattle.std.specs.Prelude.{List, None, Ok, Result, Some, [], codes, false, true, zero, suc, ℕ, ◌++◌, ◌∷◌, ◌≡◌}
use Rattle.zeb_profile.specs.declared.directives.Directive.{Directive}
use Rattle.zeb_profile.specs.declared.directives.Directive.TheVariants.{All, Att, Identifier, Melm, Store}
use Rattle.zeb_keys.specs.declared.registers.Register.TheVariants.{Number, Phrase, Word}
use Rattle.zeb_query.specs.Grammar.{BooleanOf, PairValue, QueryValue, SpellsQuery, TermValue, no_head}
use Rattle.zeb_query.specs.Checks.{Refusal}
use Rattle.zeb_query.specs.declared.plans.Operator.{Operator}
use Rattle.zeb_query.specs.declared.plans.DistanceRelation.{DistanceRelation}
use Rattle.zeb_query.specs.declared.plans.Relation.{Relation}
use Rattle.zeb_query.specs.Plans.{NearOf, NumberOf, OrderedOf, PairOf, PhraseOf, PlanValue, ScanValue, TermOf, plan_of, scan_of}
use Rattle.zeb_text.specs.Symbols.{literal}

-- words and phrases of titles, numbers of dates, and any words: the indexes Title (0), Date (1) and Any (2); 99 is `c`
abbrev pub sample_profile : List Directive
sample_profile =
    Store (codes "x")
    ∷ Identifier (record { tag = codes "001"; code = None })
    ∷ Att 4 (codes "Title")
    ∷ Att 31 (codes "Date")
    ∷ Att 1016 (codes "Any")
    ∷ Melm (record { tag = codes "245"; code = None })
    (record { name = codes "Title"; register = Word } ∷ record { name = codes "Title"; register = Phrase } ∷ [])
    ∷ Melm (record { tag = codes "260"; code = Some 99 }) (record { name = codes "Date"; register = Number } ∷ [])
    ∷ All (record { name = codes "Any"; register = Word } ∷ [])
    ∷ []

-- words of titles alone, and no index for the use attribute that holds where none is given
abbrev pub titles_alone : List Directive
titles_alone =
    Store (codes "x")
    ∷ Identifier (record { tag = codes "001"; code = None })
    ∷ Att 4 (codes "Title")
    ∷ Melm (record { tag = codes "245"; code = None }) (record { name = codes "Title"; register = Word } ∷ [])
    ∷ []

-- the text spells a query, of which this is the plan or the first diagnostic under the profile
pub record PlansUnder (profile : List Directive) (text : List ℕ) (result : Result PlanValue Refusal) : Type 0 where
  pub query : QueryValue
  pub spelled : SpellsQuery text query
  pub planned : plan_of profile query ≡ result

-- the text spells a query, of which this is the plan or the first diagnostic under `sample_profile`
abbrev pub PlansAs : List ℕ → Result PlanValue Refusal → Type 0
PlansAs text result = PlansUnder sample_profile text result

-- the text spells a query, of which this is where a scan begins, or the first diagnostic, under `sample_profile`
pub record ScansAs (text : List ℕ) (result : Result ScanValue Refusal) : Type 0 where
  pub query : QueryValue
  pub spelled : SpellsQuery text query
  pub planned : scan_of sample_profile query ≡ result

-- the text, so many times
abbrev pub times : ℕ → List ℕ → List ℕ
times zero text = []
times (suc n) text = text ++ times n text

-- the text between double quotes
abbrev pub quoted : List ℕ → List ℕ
quoted text = 34 ∷ (text ++ 34 ∷ [])

-- 65 words in one term
abbrev pub words_65 : List ℕ
words_65 = quoted (times 64 (codes "a ") ++ codes "a")

-- ---- plans: a word of an index, the same as the first of its unit, an entry of Title by `dick`, a date by 951, and the words a and b
-- the plan of a word in an index
abbrev pub word_in : ℕ → List ℕ → Result PlanValue Refusal
word_in index word = Ok (TermOf (PhraseOf index (literal word ∷ []) false))

-- the plan of a word in an index that is the first in its unit
abbrev pub first_in : ℕ → List ℕ → Result PlanValue Refusal
first_in index word = Ok (TermOf (PhraseOf index (literal word ∷ []) true))

-- the plan of words of titles that stand to `dick` as the relation asks, in the order of their bytes
abbrev pub dick_by : Relation → Result PlanValue Refusal
dick_by relation = Ok (TermOf (OrderedOf 0 Word relation (codes "dick")))

-- the plan of dates that stand to 951 as the relation asks
abbrev pub date_by : Relation → Result PlanValue Refusal
date_by relation = Ok (TermOf (NumberOf 1 relation 951))

-- the plan of the words `a` and `b` in the index of any words, in either order, whose distance stands to 1 as the relation asks
abbrev pub a_near_b : DistanceRelation → Result PlanValue Refusal
a_near_b relation =
    Ok (NearOf 2 (literal (codes "a")) (literal (codes "b")) (record { distance = 1; ordered = false; relation = relation }))

-- ---- two terms under an operator: the text spells them, each at its place; and the plan of the words a and b
-- a text spells two terms under an operator, each at its place
abbrev pub SpellsPair : List ℕ → Operator → ℕ × List ℕ → ℕ × List ℕ → Type 0
SpellsPair text operator left right = SpellsQuery text (record {
  attrset = None;
  tree = PairValue 0 no_head (BooleanOf operator) (TermValue left.0 no_head left.1) (TermValue right.0 no_head right.1);
})

-- the plan of the words `a` and `b` under an operator, both looked for in the index of any words
abbrev pub pair_of_words : Operator → Result PlanValue Refusal
pair_of_words operator =
    Ok (PairOf operator (TermOf (PhraseOf 2 (literal (codes "a") ∷ []) false)) (TermOf (PhraseOf 2 (literal (codes "b") ∷ []) false)))
