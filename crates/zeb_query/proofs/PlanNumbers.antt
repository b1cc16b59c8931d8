-- How great the numbers of a plan are, and where a scan of numbers begins.
use Rattle.zeb_query.proofs.Cited.{◌≡◌, ℕ, ◌<◌, ◌^◌, Bool, true, false, cond, List, [], ◌∷◌, Option, Some, None, refl, subst, Ok, not, ◌||◌, is_none, bytes_eq, digits_value, Profile, Register, Symbol, Structure, Phrase, WordList, FreeForm, Numeric, Asked, Compared, Always, Equal, Relation, is_equality, Completeness, Complete, Incomplete, Subject, Record, Entries, Values, Find, Scan, BooleanOf, ParametersValue, ProximityOf, is_number, few, many, heads, no_head, HeadValue, TreeValue, TermValue, NamedValue, PairValue, QueryValue, HoldingValue, asks_number, index_in, is_complete, joined_words, patterns_asked, register_of, values_held, Check, check, checked_by, first_that_applies, index_check, number_check, number_checks, find_checks, scan_checks, term_checks, Operand, kept_text, orderings, distance_relations, operand_of, parameter_checks, separation_of, operands_checks, proximity_checks, checks_in, NumberOf, OrderedOf, PlanValue, TermPlanValue, asked_with, words_asked, near_asked, start_asked, subject_asked, texts_asked, tree_asked, plan_of, HasSmallNumber, HasSmallNumbers, ScanValue, BeginsAtKey}
use Rattle.std.specs.Prelude.{chars, codes}
use Rattle.zeb_text.specs.Words.{words_of}
use Rattle.zeb_query.specs.declared.attributes.Position.{Position}
use Rattle.zeb_keys.specs.declared.Register.TheVariants as register
use Rattle.zeb_text.specs.Numbers.{number_key}
use Rattle.zeb_query.specs.Attributes.{holding_of}
use Rattle.zeb_query.specs.Plans.{plan_asked, scan_asked}
use Rattle.zeb_query.proofs.DigitLemmas.{number_below}
use Rattle.zeb_query.proofs.CheckLemmas.{answered_ok, none-cons, none-append, true_of_not}

-- ---- a term's plan

number_is : (most place : ℕ) (text : List ℕ) → first_that_applies (number_check most place text ∷ []) ≡ None → digits_value 10 text < 10 ^ most
number_is most place text e = number_below most text (true_of_not (is_number most text) (none-cons (number_check most place text) [] e).0)

asked_small : {A : Type 0} (words : List A) (index : ℕ) (register : Register) (asked : TermPlanValue) → HasSmallNumber asked → HasSmallNumber (asked_with words index register asked)
asked_small [] index register asked small = tt
asked_small (word ∷ words) index register asked small = small

words_small : (index : ℕ) (structure : Structure) (position : Position) (whole : Completeness) (patterns : List (List Symbol)) → HasSmallNumber (words_asked index structure position whole patterns)
words_small index structure position Complete patterns = tt
words_small index Phrase position Incomplete patterns = tt
words_small index WordList position Incomplete patterns = tt
words_small index FreeForm position Incomplete patterns = tt
words_small index Numeric position Incomplete patterns = tt

texts_small : (v : Values) (index : ℕ) (structure : Structure) (text : List ℕ) (patterns : List (List Symbol)) (relation : Relation) → HasSmallNumber (texts_asked v index structure text patterns relation)
texts_small v index structure text patterns relation = at (is_equality relation)
  where
    matched : TermPlanValue
    matched = asked_with patterns index (register_of v) (words_asked index structure v.position v.completeness patterns)

    ordered : TermPlanValue
    ordered = asked_with (words_of (chars text)) index (register_of v) (OrderedOf index (register_of v) relation (joined_words text))

    at : (b : Bool) → HasSmallNumber (cond b matched ordered)
    at true = asked_small patterns index (register_of v) (words_asked index structure v.position v.completeness patterns) (words_small index structure v.position v.completeness patterns)
    at false = asked_small (words_of (chars text)) index (register_of v) (OrderedOf index (register_of v) relation (joined_words text)) tt

subject_small : (v : Values) (place : ℕ) (text : List ℕ) (patterns : List (List Symbol)) (subject : Subject) (asked : Asked) → first_that_applies (number_checks place text subject asked) ≡ None
    → HasSmallNumber (subject_asked (record v { relation = asked }) text patterns subject)
subject_small v place text patterns Record asked e = number_is few place text e
subject_small v place text patterns (Entries index structure) Always e = tt
subject_small v place text patterns (Entries index structure) (Compared relation) e = at (asks_number structure) e
  where
    at : (b : Bool) → first_that_applies (cond b (number_check many place text ∷ []) []) ≡ None
        → HasSmallNumber (cond b (NumberOf index relation (digits_value 10 text)) (texts_asked (record v { relation = Compared relation }) index structure text patterns relation))
    at true e' = number_is many place text e'
    at false e' = texts_small (record v { relation = Compared relation }) index structure text patterns relation

leaf_small : (profile : Profile) (h : HoldingValue) (place : ℕ) (text : List ℕ) → first_that_applies (find_checks profile place h text) ≡ None → HasSmallNumber (plan_asked profile h text)
unfolding plan_asked
leaf_small profile h place text none =
    let v : Values = values_held profile h in
    subject_small v place text (patterns_asked v text) v.subject v.relation (none-append (term_checks Find profile place h text) (number_checks place text v.subject v.relation) none).1

-- ---- two words near each other

distance_small : (place : ℕ) (p : ParametersValue) → first_that_applies (parameter_checks place p) ≡ None → (separation_of p).distance < 10 ^ 9
distance_small place p e = number_below 9 p.distance (at (check place 110 p.ordered (is_none (kept_text orderings p.ordered)) ∷ check place 110 p.relation (is_none (kept_text distance_relations p.relation)) ∷ check place 110 p.which_code (not (bytes_eq p.which_code (codes "k") || bytes_eq p.which_code (codes "known"))) ∷ check place 110 p.unit_code (not (bytes_eq p.unit_code (codes "2"))) ∷ []) (bytes_eq p.exclusion (codes "0")) (is_number 9 p.distance) e)
  where
    at : (more : List Check) (a b : Bool) → first_that_applies (check place 110 p.exclusion (not a) ∷ check place 110 p.distance (not b) ∷ more) ≡ None → b ≡ true
    at more true true e' = refl
    at more true false e' = absurd cc
    at more false b e' = absurd cc

near_small : (profile : Profile) (place : ℕ) (parameters : ParametersValue) (left right : Option Operand) → first_that_applies (proximity_checks profile place parameters left right) ≡ None
    → HasSmallNumbers (near_asked profile parameters left right)
near_small profile place parameters left right none = at left right (distance_small place parameters (none-append (parameter_checks place parameters) (operands_checks profile place left right) none).0)
  where
    at : (one other : Option Operand) → (separation_of parameters).distance < 10 ^ 9 → HasSmallNumbers (near_asked profile parameters one other)
    at (Some one) (Some other) small = small
    at (Some one) None small = tt
    at None other small = tt

-- ---- whole plans

all_small : (profile : Profile) (set : Option (List ℕ)) (outer : HeadValue) (tree : TreeValue) → first_that_applies (checks_in profile set outer tree) ≡ None → HasSmallNumbers (tree_asked profile set outer tree)
all_small profile set outer (TermValue place head text) none = leaf_small profile (holding_of set (heads outer head)) place text none
all_small profile set outer (NamedValue place head name) none = tt
all_small profile set outer (PairValue place head (ProximityOf parameters) left right) none =
    near_small profile place parameters (operand_of set (heads outer head) left) (operand_of set (heads outer head) right) none
all_small profile set outer (PairValue place head (BooleanOf op) left right) none =
    let inner : HeadValue = heads outer head in
    let both = none-append (checks_in profile set inner left) (checks_in profile set inner right) none in
    (all_small profile set inner left both.0, all_small profile set inner right both.1)

pub plan_numbers : (profile : Profile) (query : QueryValue) (plan : PlanValue) → plan_of profile query ≡ Ok plan → HasSmallNumbers plan
plan_numbers profile query plan e =
    let answer = answered_ok (first_that_applies (checks_in profile query.attrset no_head query.tree)) (tree_asked profile query.attrset no_head query.tree) plan e in
    subst HasSmallNumbers answer.1 (all_small profile query.attrset no_head query.tree answer.0)

-- ---- where a scan begins

begins : (v : Values) (subject : Subject) (place : ℕ) (text : List ℕ) → first_that_applies (number_checks place text subject (Compared Equal)) ≡ None
    → BeginsAtKey (record { index = index_in subject; register = register_of (record v { subject = subject }); start = start_asked subject text })
begins v Record place text e = λ is. at v.completeness is
  where
    at : (whole : Completeness) → ◌≡◌ {A = Register} (cond (is_complete whole) register.Phrase register.Word) register.Number → (number : ℕ) × (number < 10 ^ 18) × (joined_words text ≡ number_key number)
    at Complete is = absurd cc
    at Incomplete is = absurd cc
begins v (Entries index structure) place text e = at (asks_number structure) v.completeness e
  where
    at : (b : Bool) (whole : Completeness) → first_that_applies (cond b (number_check many place text ∷ []) []) ≡ None
        → BeginsAtKey (record { index = index; register = cond b register.Number (cond (is_complete whole) register.Phrase register.Word); start = cond b (number_key (digits_value 10 text)) (joined_words text) })
    at true whole e' = λ _. (digits_value 10 text, number_is many place text e', refl)
    at false Complete e' = λ is. absurd cc
    at false Incomplete e' = λ is. absurd cc

pub leaf_begins : (profile : Profile) (h : HoldingValue) (place : ℕ) (text : List ℕ) (plan : ScanValue)
    → checked_by (scan_checks profile place h text) (scan_asked profile h text) ≡ Ok plan → BeginsAtKey plan
unfolding scan_asked
leaf_begins profile h place text plan e =
    let v : Values = values_held profile h in
    let answer = answered_ok (first_that_applies (scan_checks profile place h text)) (scan_asked profile h text) plan e in
    let last = (none-append (term_checks Scan profile place h text) (index_check place v.subject ∷ number_checks place text v.subject (Compared Equal)) answer.0).1 in
    subst BeginsAtKey answer.1 (begins v v.subject place text (none-cons (index_check place v.subject) (number_checks place text v.subject (Compared Equal)) last).1)
