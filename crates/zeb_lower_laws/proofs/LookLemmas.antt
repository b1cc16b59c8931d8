-- In which register a term's plan looks.
use Rattle.zeb_query.proofs.Cited.{◌≡◌, ℕ, true, false, eqb, List, [], ◌∷◌, ◌++◌, Option, Some, None, refl, ap, sym, subst, ◌∙◌, Ok, not, ◌||◌, ◌&&◌, cond, is_none, eqb-true, Symbol, BooleanOf, ParametersValue, ProximityOf, HeadValue, TreeValue, TermValue, NamedValue, PairValue, QueryValue, heads, no_head, HoldingValue, asks_number, index_in, is_complete, is_equality, patterns_asked, register_of, values_held, check, clash_check, first_that_applies, index_check, index_near, number_checks, one_of, term_checks, words_check, find_checks, Operand, operand_of, parameter_checks, operand_checks, operands_checks, proximity_checks, checks_in, Refusal, PlanValue, TermPlanValue, OrderedOf, asked_with, words_asked, joined_words, entries_asked, subject_asked, texts_asked, near_asked, tree_asked, plan_of}
use Rattle.std.specs.Prelude.{chars}
use Rattle.zeb_text.specs.Words.{words_of}
use Rattle.zeb_profile.specs.declared.Profile.{Profile}
use Rattle.zeb_keys.specs.declared.Register.{Register}
use Rattle.zeb_query.specs.declared.attributes.Structure.{Structure}
use Rattle.zeb_query.specs.declared.attributes.Structure.TheVariants.{Phrase, WordList, FreeForm, Numeric}
use Rattle.zeb_query.specs.declared.attributes.Asked.{Asked}
use Rattle.zeb_query.specs.declared.attributes.Asked.TheVariants.{Compared, Always}
use Rattle.zeb_query.specs.declared.attributes.Completeness.{Completeness}
use Rattle.zeb_query.specs.declared.attributes.Completeness.TheVariants.{Complete, Incomplete}
use Rattle.zeb_query.specs.declared.values.Subject.{Subject}
use Rattle.zeb_query.specs.declared.values.Subject.TheVariants.{Record, Entries}
use Rattle.zeb_query.specs.declared.values.Values.{Values}
use Rattle.zeb_query.specs.declared.values.Purpose.TheVariants.{Find, Near}
use Rattle.zeb_query.specs.declared.plans.Relation.{Relation}
use Rattle.zeb_query.specs.declared.keywords.OperatorWord.TheVariants.{Proximity}
use Rattle.zeb_profile.specs.Indexes.{has_pair}
use Rattle.zeb_query.specs.Grammar.{operator_word}
use Rattle.zeb_query.specs.Attributes.{is_equal, is_first, is_list, is_local, is_numeric, is_ordered, is_truncated}
use Rattle.zeb_query.specs.Checks.{attribute_checks, clashes, clashes_with, is_beyond, lacks_register}
use Rattle.zeb_lower_laws.specs.PlanRegisters.{plan_register, held_in, looked_into, AllLookInto, LooksInto}
use Rattle.std.proofs.lemmas.Bool.{or_parts}
use Rattle.zeb_keys.specs.declared.Register.TheVariants as register
use Rattle.zeb_query.specs.declared.values.Purpose.{Purpose}
use Rattle.zeb_query.specs.Attributes.{holding_of}
use Rattle.zeb_query.specs.Plans.{plan_asked}
use Rattle.zeb_query.proofs.CheckLemmas.{answered_ok, none-cons, none-append, true_of_not}

-- ---- what is known of a term that is taken

pub record IsTaken (purpose : Purpose) (profile : Profile) (v : Values) : Type 0 where
  pub beyond : is_beyond purpose v ≡ false
  pub has_register : lacks_register profile (register_of v) v.subject ≡ false

pub is_taken : (purpose : Purpose) (profile : Profile) (place : ℕ) (h : HoldingValue) (text : List ℕ) → first_that_applies (term_checks purpose profile place h text) ≡ None → IsTaken purpose profile (values_held profile h)
is_taken purpose profile place h text e =
    let v : Values = values_held profile h in
    let clash = clash_check purpose profile place v in
    let last = none-cons (words_check place v text) (clash ∷ []) (none-append (attribute_checks profile place h) (words_check place v text ∷ clash ∷ []) e).1 in
    let parts = or_parts (clashes purpose v) (lacks_register profile (register_of v) v.subject) (none-cons clash [] last.1).0 in
    let order = is_ordered v.relation && (is_first v.position || is_truncated v.truncation) in
    record { beyond = (or_parts order (is_beyond purpose v) (or_parts (clashes_with v.subject v) (order || is_beyond purpose v) parts.0).1).1; has_register = parts.1 }

-- ---- the plan of a term

-- the same values, but for these
abbrev valued : Values → Subject → Completeness → Values
valued v subject whole = record v { subject = subject; completeness = whole }

asked_look : {A : Type 0} (words : List A) (index : ℕ) (r : Register) (asked : TermPlanValue) → plan_register asked ≡ Some (index, r) → plan_register (asked_with words index r asked) ≡ Some (index, r)
asked_look [] index r asked e = refl
asked_look (word ∷ words) index r asked e = e

words_look : (v : Values) (index : ℕ) (structure : Structure) (patterns : List (List Symbol)) (whole : Completeness) → asks_number structure ≡ false
    → plan_register (words_asked index structure v.position whole patterns) ≡ Some (index, register_of (valued v (Entries index structure) whole))
words_look v index Numeric patterns whole e = absurd cc
words_look v index Phrase patterns Complete e = refl
words_look v index WordList patterns Complete e = refl
words_look v index FreeForm patterns Complete e = refl
words_look v index Phrase patterns Incomplete e = refl
words_look v index WordList patterns Incomplete e = refl
words_look v index FreeForm patterns Incomplete e = refl

texts_look : (v : Values) (index : ℕ) (structure : Structure) (text : List ℕ) (patterns : List (List Symbol)) (relation : Relation) (whole : Completeness) → asks_number structure ≡ false
    → plan_register (texts_asked (valued v (Entries index structure) whole) index structure text patterns relation) ≡ Some (index, register_of (valued v (Entries index structure) whole))
texts_look v index structure text patterns relation whole e =
    let r = register_of (valued v (Entries index structure) whole) in
    let matched = asked_with patterns index r (words_asked index structure v.position whole patterns) in
    let ordered = asked_with (words_of (chars text)) index r (OrderedOf index r relation (joined_words text)) in
    elim (is_equality relation) as (λ b. plan_register (cond b matched ordered) ≡ Some (index, r)) [
      | true ↦ asked_look patterns index r (words_asked index structure v.position whole patterns) (words_look v index structure patterns whole e)
      | false ↦ asked_look (words_of (chars text)) index r (OrderedOf index r relation (joined_words text)) refl
    ]

entries_look : (v : Values) (index : ℕ) (structure : Structure) (text : List ℕ) (patterns : List (List Symbol)) (asked : Asked) (whole : Completeness)
    → plan_register (entries_asked (valued v (Entries index structure) whole) index structure text patterns asked) ≡ Some (index, register_of (valued v (Entries index structure) whole))
entries_look v index structure text patterns Always whole = refl
entries_look v index Numeric text patterns (Compared relation) whole = refl
entries_look v index Phrase text patterns (Compared relation) whole = texts_look v index Phrase text patterns relation whole refl
entries_look v index WordList text patterns (Compared relation) whole = texts_look v index WordList text patterns relation whole refl
entries_look v index FreeForm text patterns (Compared relation) whole = texts_look v index FreeForm text patterns relation whole refl

has_target : (profile : Profile) (index : ℕ) (structure : Structure) (r : Register) → lacks_register profile r (Entries index structure) ≡ false → has_pair profile (index, r) ≡ true
has_target profile index structure r e = true_of_not (has_pair profile (index, r)) e

subject_looks : (profile : Profile) (v : Values) (subject : Subject) (whole : Completeness) (text : List ℕ) (patterns : List (List Symbol))
    → lacks_register profile (register_of (valued v subject whole)) subject ≡ false → LooksInto profile (valued v subject whole) (plan_register (subject_asked (valued v subject whole) text patterns subject))
subject_looks profile v Record whole text patterns e = record { none = λ _. refl; one = λ index structure is. absurd cc; found = λ index structure is. absurd cc }
subject_looks profile v (Entries index structure) whole text patterns e = record {
  none = λ is. absurd cc;
  one = λ other form is. entries_look v index structure text patterns v.relation whole ∙ ap (λ i. Some (i, register_of (valued v (Entries index structure) whole))) (same other form is);
  found = λ other form is. ap (λ i. has_pair profile (i, register_of (valued v (Entries index structure) whole))) (sym (same other form is))
      ∙ has_target profile index structure (register_of (valued v (Entries index structure) whole)) e;
}
  where
    same : (other : ℕ) (form : Structure) → ◌≡◌ {A = Subject} (Entries index structure) (Entries other form) → index ≡ other
    same other form is = cc

looks_into : (profile : Profile) (h : HoldingValue) (place : ℕ) (text : List ℕ) → first_that_applies (find_checks profile place h text) ≡ None
    → LooksInto profile (values_held profile h) (plan_register (plan_asked profile h text))
unfolding plan_asked
looks_into profile h place text none =
    let v : Values = values_held profile h in
    let taken : IsTaken Find profile v = is_taken Find profile place h text (none-append (term_checks Find profile place h text) (number_checks place text v.subject v.relation) none).0 in
    subject_looks profile v v.subject v.completeness text (patterns_asked v text) taken.has_register

-- ---- whole plans

AllLookInto-append : (profile : Profile) (xs : List HoldingValue) (ps : List (Option (ℕ × Register))) (ys : List HoldingValue) (qs : List (Option (ℕ × Register)))
    → AllLookInto profile xs ps → AllLookInto profile ys qs → AllLookInto profile (xs ++ ys) (ps ++ qs)
AllLookInto-append profile [] [] ys qs left right = right
AllLookInto-append profile (x ∷ xs) (p ∷ ps) ys qs left right = (left.0, AllLookInto-append profile xs ps ys qs left.1 right)
AllLookInto-append profile [] (p ∷ ps) ys qs left right = absurd left
AllLookInto-append profile (x ∷ xs) [] ys qs left right = absurd left

-- ---- two words near each other

-- an operand looks into the words of its index
operand_looks : (profile : Profile) (o : Operand) → first_that_applies (operand_checks profile o) ≡ None → LooksInto profile (values_held profile o.held) (Some (index_near profile o, register.Word))
operand_looks profile o e =
    let v : Values = values_held profile o.held in
    let one = check o.place 123 [] (is_none (one_of (patterns_asked v o.text))) in
    let parts = none-append (term_checks Near profile o.place o.held o.text) (index_check o.place v.subject ∷ one ∷ []) e in
    let taken : IsTaken Near profile v = is_taken Near profile o.place o.held o.text parts.0 in
    let after_complete = is_list v.subject || is_numeric v.subject in
    let after_first = is_complete v.completeness || after_complete in
    let whole = or_parts (is_complete v.completeness) after_complete (or_parts (is_first v.position) after_first (or_parts (not (is_equal v.relation)) (is_first v.position || after_first) taken.beyond).1).1 in
    at v v.subject v.completeness (none-cons (index_check o.place v.subject) (one ∷ []) parts.1).0 (or_parts (is_list v.subject) (is_numeric v.subject) whole.1).1 whole.0 taken.has_register
  where
    at : (v : Values) (subject : Subject) (whole : Completeness) → is_local subject ≡ false → is_numeric subject ≡ false → is_complete whole ≡ false
        → lacks_register profile (register_of (valued v subject whole)) subject ≡ false → LooksInto profile (valued v subject whole) (Some (index_in subject, register.Word))
    at v Record whole l n c r = absurd cc
    at v (Entries index structure) Complete l n c r = absurd cc
    at v (Entries index structure) Incomplete l n c r =
        let searched : register_of (valued v (Entries index structure) Incomplete) ≡ register.Word = ap (λ b. cond b register.Number register.Word) n in
        record {
          none = λ is. absurd cc;
          one = λ other form is. let same : index ≡ other = cc in ap (λ i. Some (i, register.Word)) same ∙ ap (λ r. Some (other, r)) (sym searched);
          found = λ other form is. let same : index ≡ other = cc in ap (λ i. has_pair profile (i, register_of (valued v (Entries index structure) Incomplete))) (sym same) ∙ true_of_not _ r;
        }

near_look : (profile : Profile) (place : ℕ) (parameters : ParametersValue) (left right : Operand)
    → first_that_applies (proximity_checks profile place parameters (Some left) (Some right)) ≡ None
    → AllLookInto profile (left.held ∷ right.held ∷ []) (looked_into (near_asked profile parameters (Some left) (Some right)))
near_look profile place parameters left right none =
    let one = index_near profile left in
    let other = index_near profile right in
    let index_check = check place 123 [] (not (eqb one other)) in
    let operands = none-append (parameter_checks place parameters) (operands_checks profile place (Some left) (Some right)) none in
    let lefts = none-append (operand_checks profile left) (operand_checks profile right ++ index_check ∷ []) operands.1 in
    let rights = none-append (operand_checks profile right) (index_check ∷ []) lefts.1 in
    let same : one ≡ other = eqb-true one other (true_of_not (eqb one other) (none-cons index_check [] rights.1).0) in
    (operand_looks profile left lefts.0, (subst (λ i. LooksInto profile (values_held profile right.held) (Some (i, register.Word))) (sym same) (operand_looks profile right rights.0), tt))

-- some check of `@prox` applies unless both operands are terms
no_near : (profile : Profile) (place : ℕ) (parameters : ParametersValue) (left right : Option Operand)
    → first_that_applies (operands_checks profile place left right) ≡ Some (check place 110 (operator_word Proximity) true).refusal
    → first_that_applies (proximity_checks profile place parameters left right) ≡ None → ⊥
no_near profile place parameters left right applies none =
    let never : ◌≡◌ {A = Option Refusal} (Some (check place 110 (operator_word Proximity) true).refusal) None = sym applies ∙ (none-append (parameter_checks place parameters) (operands_checks profile place left right) none).1 in
    absurd cc

all_look : (profile : Profile) (set : Option (List ℕ)) (outer : HeadValue) (tree : TreeValue) → first_that_applies (checks_in profile set outer tree) ≡ None
    → AllLookInto profile (held_in set outer tree) (looked_into (tree_asked profile set outer tree))
all_look profile set outer (TermValue place head text) none = (looks_into profile (holding_of set (heads outer head)) place text none, tt)
all_look profile set outer (NamedValue place head name) none = absurd cc
all_look profile set outer (PairValue place head (ProximityOf parameters) (TermValue p h t) (TermValue q i u)) none =
    near_look profile place parameters (record { place = p; held = holding_of set (heads (heads outer head) h); text = t }) (record { place = q; held = holding_of set (heads (heads outer head) i); text = u }) none
all_look profile set outer (PairValue place head (ProximityOf parameters) (TermValue p h t) (NamedValue q i u)) none =
    absurd (no_near profile place parameters (operand_of set (heads outer head) (TermValue p h t)) None refl none)
all_look profile set outer (PairValue place head (ProximityOf parameters) (TermValue p h t) (PairValue q i c l r)) none =
    absurd (no_near profile place parameters (operand_of set (heads outer head) (TermValue p h t)) None refl none)
all_look profile set outer (PairValue place head (ProximityOf parameters) (NamedValue p h t) right) none =
    absurd (no_near profile place parameters None (operand_of set (heads outer head) right) refl none)
all_look profile set outer (PairValue place head (ProximityOf parameters) (PairValue p h c l r) right) none =
    absurd (no_near profile place parameters None (operand_of set (heads outer head) right) refl none)
all_look profile set outer (PairValue place head (BooleanOf op) left right) none =
    let inner : HeadValue = heads outer head in
    let both = none-append (checks_in profile set inner left) (checks_in profile set inner right) none in
    AllLookInto-append profile (held_in set inner left) (looked_into (tree_asked profile set inner left)) (held_in set inner right) (looked_into (tree_asked profile set inner right))
    (all_look profile set inner left both.0) (all_look profile set inner right both.1)

pub plan_looks : (profile : Profile) (query : QueryValue) (plan : PlanValue) → plan_of profile query ≡ Ok plan
    → AllLookInto profile (held_in query.attrset no_head query.tree) (looked_into plan)
plan_looks profile query plan e =
    let answer = answered_ok (first_that_applies (checks_in profile query.attrset no_head query.tree)) (tree_asked profile query.attrset no_head query.tree) plan e in
    subst (λ p. AllLookInto profile (held_in query.attrset no_head query.tree) (looked_into p)) answer.1 (all_look profile query.attrset no_head query.tree answer.0)
