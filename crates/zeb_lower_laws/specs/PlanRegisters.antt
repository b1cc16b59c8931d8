-- In which registers a plan looks (ANSI/NISO Z39.50-2003, attribute set Bib-1; that indexes have registers is this project's own rule).
use Rattle.std.specs.Prelude.{List, None, Option, Some, [], true, ℕ, ◌++◌, ◌∷◌, ◌≡◌}
use Rattle.zeb_profile.specs.Indexes.{has_pair}
use Rattle.zeb_keys.specs.declared.Register.TheVariants as register
use Rattle.zeb_query.specs.declared.values.Subject.TheVariants.{Entries, Record}
use Rattle.zeb_profile.specs.declared.Profile.{Profile}
use Rattle.zeb_keys.specs.declared.Register.{Register}
use Rattle.zeb_query.specs.declared.attributes.Structure.{Structure}
use Rattle.zeb_query.specs.declared.values.Values.{Values}
use Rattle.zeb_query.specs.Grammar.{HeadValue, NamedValue, PairValue, TermValue, TreeValue, heads}
use Rattle.zeb_query.specs.Attributes.{HoldingValue, holding_of, register_of, values_held}
use Rattle.zeb_query.specs.Plans.{TermPlanValue, RecordNumberOf, NoWordsOf, AlwaysOf, NumberOf, OrderedOf, CompleteOf, PhraseOf, AllWordsOf, AnyWordOf, PlanValue, TermOf, PairOf, NearOf}

-- the index and the register in which a term's plan looks; a record's own number is looked up in none
abbrev pub plan_register : TermPlanValue → Option (ℕ × Register)
plan_register (RecordNumberOf number) = None
plan_register (NoWordsOf index r) = Some (index, r)
plan_register (AlwaysOf index r) = Some (index, r)
plan_register (NumberOf index relation number) = Some (index, register.Number)
plan_register (OrderedOf index r relation start) = Some (index, r)
plan_register (CompleteOf index pattern) = Some (index, register.Phrase)
plan_register (PhraseOf index patterns first) = Some (index, register.Word)
plan_register (AllWordsOf index patterns) = Some (index, register.Word)
plan_register (AnyWordOf index patterns) = Some (index, register.Word)

-- a plan looks into the register that the attributes ask for, at an index that has a target with it; for a local number into none
pub record LooksInto (profile : Profile) (v : Values) (looked : Option (ℕ × Register)) : Type 0 where
  pub none : v.subject ≡ Record → looked ≡ None
  pub one : (index : ℕ) (structure : Structure) → v.subject ≡ Entries index structure → looked ≡ Some (index, register_of v)
  pub found : (index : ℕ) (structure : Structure) → v.subject ≡ Entries index structure → has_pair profile (index, register_of v) ≡ true

-- the attributes that hold over each term of a structure, from the left
abbrev pub held_in : Option (List ℕ) → HeadValue → TreeValue → List HoldingValue
held_in set outer (TermValue place head text) = holding_of set (heads outer head) ∷ []
held_in set outer (NamedValue place head name) = []
held_in set outer (PairValue place head connective left right) =
    held_in set (heads outer head) left ++ held_in set (heads outer head) right

-- the index and the register in which each term of a plan looks, from the left
abbrev pub looked_into : PlanValue → List (Option (ℕ × Register))
looked_into (TermOf plan) = plan_register plan ∷ []
looked_into (PairOf op left right) = looked_into left ++ looked_into right
looked_into (NearOf index left right separation) = Some (index, register.Word) ∷ Some (index, register.Word) ∷ []

-- each term looks into the register that its attributes ask for
abbrev pub AllLookInto : Profile → List HoldingValue → List (Option (ℕ × Register)) → Type 0
AllLookInto profile [] [] = Unit {0}
AllLookInto profile (h ∷ held) (looked ∷ others) = LooksInto profile (values_held profile h) looked × AllLookInto profile held others
AllLookInto profile [] (looked ∷ others) = ⊥
AllLookInto profile (h ∷ held) [] = ⊥
