-- The checks of `@prox` and of a whole query, and what it asks for, are those of its parts.
use Rattle.zeb_query.proofs.Cited.{◌≡◌, ℕ, false, List, [], ◌∷◌, ◌++◌, Option, Some, None, refl, ap, ◌∙◌, Ok, not, ◌==◌, ◌||◌, is_none, bytes_eq, eqb_refl, eqb-true, T, Bool, true, sym, ◌≢◌, Symbol, Result, QueryFault, Diagnostic, Memory, IsDiagnostic, Fails, Refusal, refused, Separation, NearOf, passed, Profile, BooleanOf, ParametersValue, ProximityOf, HeadValue, TreeValue, TermValue, NamedValue, PairValue, heads, few, Check, check, checked_by, checks_in, distance_relations, find_checks, first_that_applies, index_near, kept_text, near_asked, Operand, operand_checks, operand_of, operand_pattern, operands_checks, orderings, parameter_checks, separation_of, tree_asked, PairOf, PlanValue, TermOf, ◌>>=◌, operands_plan, tree_plan, is_number}
use Rattle.std.specs.Prelude.{codes}
use Rattle.zeb_query.specs.declared.plans.DistanceRelation.TheVariants as in_distance
use Rattle.zeb_query.specs.declared.plans.Operator.{Operator}
use Rattle.zeb_query.specs.Attributes.{holding_of}
use Rattle.zeb_query.specs.Plans.{plan_asked}
use Rattle.zeb_query.specs.PrivatePlanning.{near_plan, separation_read, word_near}
use Rattle.zeb_query.proofs.CheckLemmas.{answered_then, kept_then, number_then, passed_then, then_checks}
use Rattle.zeb_query.proofs.TermCheckLemmas.{leaf_steps, near_steps}

-- ---- proximity

separation_steps : (place : ℕ) (p : ParametersValue) → separation_read place p ≡ checked_by (parameter_checks place p) (separation_of p)
unfolding separation_read
separation_steps place p =
    let y = separation_of p in
    let distance = check place 110 p.distance (not (is_number few p.distance)) in
    let ordered = check place 110 p.ordered (is_none (kept_text orderings p.ordered)) in
    let relation = check place 110 p.relation (is_none (kept_text distance_relations p.relation)) in
    let which_code = check place 110 p.which_code (not (bytes_eq p.which_code (codes "k") || bytes_eq p.which_code (codes "known"))) in
    let unit_code = check place 110 p.unit_code (not (bytes_eq p.unit_code (codes "2"))) in
    passed_then (check place 110 p.exclusion (not (bytes_eq p.exclusion (codes "0")))) _ (distance ∷ ordered ∷ relation ∷ which_code ∷ unit_code ∷ []) y
    (number_then 110 place few p.distance _ (ordered ∷ relation ∷ which_code ∷ unit_code ∷ []) y
    (kept_then 110 place (Some p.ordered) (kept_text orderings p.ordered) false _ (relation ∷ which_code ∷ unit_code ∷ []) y
    (kept_then 110 place (Some p.relation) (kept_text distance_relations p.relation) in_distance.Equal _ (which_code ∷ unit_code ∷ []) y
    (passed_then which_code _ (unit_code ∷ []) y
    (passed_then unit_code _ [] y refl)))))

operands_steps : (profile : Profile) (place : ℕ) (parameters : ParametersValue) (left right : Option Operand)
    → operands_plan profile place (separation_of parameters) left right ≡ checked_by (operands_checks profile place left right) (near_asked profile parameters left right)
operands_steps profile place parameters None right = refl
operands_steps profile place parameters (Some left) None = refl
operands_steps profile place parameters (Some left) (Some right) =
    let index_check = check place 123 [] (not (index_near profile left == index_near profile right)) in
    let y = near_asked profile parameters (Some left) (Some right) in
    then_checks (word_near profile left) _ (operand_checks profile left) (operand_checks profile right ++ index_check ∷ []) (index_near profile left, operand_pattern profile left) y (near_steps profile left)
    (then_checks (word_near profile right) _ (operand_checks profile right) (index_check ∷ []) (index_near profile right, operand_pattern profile right) y (near_steps profile right)
    (passed_then index_check _ [] y refl))

-- the plan, where all parts are read
near_parts : (profile : Profile) (place : ℕ) (parameters : ParametersValue) (left right : Operand) (separation : Separation) (index other : ℕ) (one second : List Symbol)
    → separation_read place parameters ≡ Ok separation → word_near profile left ≡ Ok (index, one) → word_near profile right ≡ Ok (other, second)
    → near_plan profile place parameters (Some left) (Some right) ≡ (passed (check place 123 [] (not (index == other))) >>= λ _. Ok (NearOf index one second separation))
unfolding near_plan
near_parts profile place parameters left right separation index other one second e f g =
    ap (λ q. q >>= λ read. operands_plan profile place read (Some left) (Some right)) e
    ∙ ap (λ q. q >>= λ x. (word_near profile right >>= λ y. (passed (check place 123 [] (not (x.0 == y.0))) >>= λ _. Ok (NearOf x.0 x.1 y.1 separation)))) f
    ∙ ap (λ q. q >>= λ y. (passed (check place 123 [] (not (index == y.0))) >>= λ _. Ok (NearOf index one y.1 separation))) g

pub near_read : (profile : Profile) (place : ℕ) (parameters : ParametersValue) (left right : Operand) (separation : Separation) (index other : ℕ) (one second : List Symbol)
    → separation_read place parameters ≡ Ok separation → word_near profile left ≡ Ok (index, one) → word_near profile right ≡ Ok (other, second) → index ≡ other
    → near_plan profile place parameters (Some left) (Some right) ≡ Ok (NearOf index one second separation)
near_read profile place parameters left right separation index other one second e f g same =
    near_parts profile place parameters left right separation index other one second e f g
    ∙ ap (λ b. passed (check place 123 [] (not b)) >>= λ _. Ok (NearOf index one second separation)) (ap (λ i. index == i) (sym same) ∙ true_from_T (index == index) (eqb_refl index))
  where
    true_from_T : (b : Bool) → T b → b ≡ true
    true_from_T true holds = refl
    true_from_T false holds = absurd holds

pub near_apart : (profile : Profile) (place : ℕ) (parameters : ParametersValue) (left right : Operand) (separation : Separation) (index other : ℕ) (one second : List Symbol)
    → separation_read place parameters ≡ Ok separation → word_near profile left ≡ Ok (index, one) → word_near profile right ≡ Ok (other, second) → index ≢ other
    → (fault : QueryFault) → IsDiagnostic fault 123 place [] → Fails fault (near_plan profile place parameters (Some left) (Some right))
near_apart profile place parameters left right separation index other one second e f g differ fault is =
    fails fault 123 place [] _ is (near_parts profile place parameters left right separation index other one second e f g
    ∙ ap (λ b. passed (check place 123 [] (not b)) >>= λ _. Ok (NearOf index one second separation)) (apart (index == other) refl))
  where
    apart : (b : Bool) → (index == other) ≡ b → b ≡ false
    apart true same = absurd (differ (eqb-true index other same))
    apart false same = refl

    fails : {Y : Type 0} (fault : QueryFault) (n p : ℕ) (a : List ℕ) (expected : Result Y Refusal) → IsDiagnostic fault n p a → expected ≡ refused n p a → Fails fault expected
    fails Memory n p a expected is same = tt
    fails (Diagnostic m q b) n p a expected is same =
        same ∙ ap (λ x. refused x p a) (sym is.0) ∙ ap (λ x. refused m x a) (sym is.1) ∙ ap (λ x. refused m q x) (sym is.2)

-- ---- whole queries

-- an operator on sets: the checks of its left side, then those of its right side
sides : (op : Operator) (left right : List Check) (one other : PlanValue)
    → (checked_by left one >>= λ x. (checked_by right other >>= λ y. Ok (PairOf op x y))) ≡ checked_by (left ++ right) (PairOf op one other)
sides op left right one other =
    then_checks (checked_by left one) (λ x. (checked_by right other >>= λ y. Ok (PairOf op x y))) left right one (PairOf op one other) refl
    (answered_then (first_that_applies right) other (λ y. PairOf op one y))

pub tree_steps : (profile : Profile) (set : Option (List ℕ)) (outer : HeadValue) (tree : TreeValue)
    → tree_plan profile set outer tree ≡ checked_by (checks_in profile set outer tree) (tree_asked profile set outer tree)
unfolding near_plan
tree_steps profile set outer (TermValue place head text) =
    let h = holding_of set (heads outer head) in
    ap (λ q. q >>= λ plan. Ok (TermOf plan)) (leaf_steps profile h place text)
    ∙ answered_then (first_that_applies (find_checks profile place h text)) (plan_asked profile h text) (λ plan. TermOf plan)
tree_steps profile set outer (NamedValue place head name) = refl
tree_steps profile set outer (PairValue place head (BooleanOf op) left right) =
    let h = heads outer head in
    ap (λ q. q >>= λ x. (tree_plan profile set h right >>= λ y. Ok (PairOf op x y))) (tree_steps profile set h left)
    ∙ ap (λ q. checked_by (checks_in profile set h left) (tree_asked profile set h left) >>= λ x. (q >>= λ y. Ok (PairOf op x y))) (tree_steps profile set h right)
    ∙ sides op (checks_in profile set h left) (checks_in profile set h right) (tree_asked profile set h left) (tree_asked profile set h right)
tree_steps profile set outer (PairValue place head (ProximityOf parameters) left right) =
    let one = operand_of set (heads outer head) left in
    let other = operand_of set (heads outer head) right in
    then_checks (separation_read place parameters) _ (parameter_checks place parameters) (operands_checks profile place one other) (separation_of parameters) (near_asked profile parameters one other)
    (separation_steps place parameters) (operands_steps profile place parameters one other)
