-- The numbers of names, each at its key.
use Rattle.zeb_profile.proofs.Cited.{◌≡◌, ℕ, ◌+◌, ◌<◌, List, [], ◌∷◌, ◌++◌, true, false, cond, String, Option, Some, None, length, drop, get_or, suc, zero, add-one, drop-cons, refl, sym, ◌∙◌, ap, subst, inl, inr, Bool, arith, BTreeMap, get_by_text, AllByRecursion, All, map, list_any, position, position_from, position_or_len, is_some, option_or, bytes_eq, string_cmp, cases_Bool, cases_lt, lt-ltb, le-ltb, position_from-zero, btree_map_updates_text, bytes_eq-Decides, AreIndexes, Directive, Placed, Target, first_spelling, index_names, pair_of, NumbersNames, name_key, all_targets, directives_in, targets_in, distinct_names, same_name}
use Rattle.std.specs.BTreeMap.{Updates}
use Rattle.std.specs.String.{string_bytes}
use Rattle.zeb_profile.specs.declared.indexes.Indexes.{Indexes}
use Rattle.zeb_profile.proofs.KnownKeys.{bytes_eq-sym}
use Rattle.zeb_profile.proofs.Numbering.{first_spelling-same, same_lower}
use Rattle.zeb_profile.proofs.TargetsOnce.{all_back, all_front, all_known, any_distinct, any_spelled}

pub drop-next : {X : Type 0} (xs : List X) (i : ℕ) (x : X) → i < length xs → x ≡ get_or xs i x → drop i xs ≡ x ∷ drop (i + 1) xs
drop-next xs i x h is = let e : i + 1 ≡ suc i = add-one i in rw (e, drop-cons xs i x) (ap (λ y. y ∷ drop (suc i) xs) (sym is))

place_is : {X : Type 0} (p : X → Bool) (xs : List X) (n : ℕ) → position p xs ≡ Some n → (n ≡ position_or_len p xs) × (n < length xs)
place_is p xs n h =
    elim (cases_lt (position_or_len p xs) (length xs)) [
      | inl b ↦
          let here : Some (position_or_len p xs) ≡ Some n = rw (lt-ltb (position_or_len p xs) (length xs) b) at h in
          let same : position_or_len p xs ≡ n = cc in
          (sym same, subst (λ m. m < length xs) same b)
      | inr b ↦ let none : None ≡ Some n = rw (le-ltb (position_or_len p xs) (length xs) b) at h in absurd cc
    ]

some_from : {X : Type 0} (p : X → Bool) (i : ℕ) (xs : List X) → is_some (position_from p i xs) ≡ list_any p xs
some_from p i [] = refl
some_from p i (x ∷ xs) =
    elim (cases_Bool (p x)) [
      | inl e ↦ rw e refl
      | inr e ↦ rw e (some_from p (i + 1) xs)
    ]

both_same : {X : Type 0} (b : Bool) (x : Option X) → x ≡ cond b x x
both_same true x = refl
both_same false x = refl

no_place : {X : Type 0} (o : Option X) → is_some o ≡ false → o ≡ None
no_place None h = refl
no_place (Some x) h = absurd (cc)

from_push : {X : Type 0} (p : X → Bool) (i : ℕ) (xs : List X) (x : X)
    → position_from p i (xs ++ x ∷ []) ≡ cond (p x) (option_or (position_from p i xs) (Some (i + length xs))) (position_from p i xs)
from_push p i [] x = let e : i ≡ i + 0 = omega arith in rw (← e) refl
from_push p i (y ∷ ys) x =
    elim (cases_Bool (p y)) [
      | inl e ↦ rw e (both_same (p x) (Some i))
      | inr e ↦ let n : i + 1 + length ys ≡ i + suc (length ys) = omega arith in rw (e, ← n) (from_push p (i + 1) ys x)
    ]

-- a directive's targets are among those of all
targets_at : (P : Target → Type 0) (before after : List Placed) (line : Placed)
    → AllByRecursion P (all_targets (directives_in (before ++ line ∷ after))) → AllByRecursion P (targets_in line.directive)
targets_at P [] after line all = all_front P (targets_in line.directive) (all_targets (directives_in after)) all
targets_at P (x ∷ before) after line all =
    targets_at P before after line (all_back P (targets_in x.directive) (all_targets (directives_in (before ++ line ∷ after))) all)

all_at : (names : List (List ℕ)) (targets : List Target)
    → AllByRecursion (λ target. list_any (same_name target.name) names ≡ true) targets → All (λ target. list_any (same_name target.name) names ≡ true) targets
all_at names [] known k d h = absurd (omega arith)
all_at names (target ∷ targets) known zero d h = known.0
all_at names (target ∷ targets) known (suc k) d h = all_at names targets known.1 k d (omega arith)

-- the name of each target of a line is among those of the indexes
pub line_known : (names : List (List ℕ)) (placed before after : List Placed) (line : Placed) → names ≡ index_names (directives_in placed)
    → placed ≡ before ++ line ∷ after → All (λ target. list_any (same_name target.name) names ≡ true) (targets_in line.directive)
line_known names placed before after line are is =
    let known : AllByRecursion (λ target. list_any (same_name target.name) names ≡ true) (all_targets (directives_in placed)) = rw are (all_known (directives_in placed)) in
    let there : AllByRecursion (λ target. list_any (same_name target.name) names ≡ true) (all_targets (directives_in (before ++ line ∷ after))) =
    subst (λ (lines : List Placed). AllByRecursion (λ target. list_any (same_name target.name) names ≡ true) (all_targets (directives_in lines))) is known in
    all_at names (targets_in line.directive) (targets_at (λ target. list_any (same_name target.name) names ≡ true) before after line there)

any_named : (name : List ℕ) (targets : List Target) → list_any (same_name name) (map (λ target. target.name) targets) ≡ list_any (λ target. same_name name target.name) targets
any_named name [] = refl
any_named name (x ∷ xs) = rw (any_named name xs) refl

module _ {Y : Type 0} where
  -- a name has a number at its key just where it is among the names
  pub has_number : (numbers : BTreeMap (String Y) ℕ) (names : List (List ℕ)) (name : List ℕ) → NumbersNames numbers names
      → is_some (get_by_text numbers (name_key name)) ≡ list_any (same_name name) names
  has_number numbers names name all =
      ap is_some (all (name_key name) ∙ position_from-zero (same_name name) names) ∙ some_from (same_name name) 0 names

  -- and a name that has none gets the next
  pub numbers_push : (old new : BTreeMap (String Y) ℕ) (names : List (List ℕ)) (name spelling : List ℕ) (of : String Y) → NumbersNames old names
      → string_bytes of ≡ name_key name → list_any (same_name name) names ≡ false → same_name spelling name ≡ true
      → Updates string_cmp old new of (Some (length names)) → NumbersNames new (names ++ spelling ∷ [])
  numbers_push old new names name spelling of all is unknown same updates = λ key.
      let keyed : name_key spelling ≡ name_key name = same_lower spelling name same in
      let now : get_by_text new key ≡ cond (bytes_eq (name_key name) key) (Some (length names)) (get_by_text old key) = rw is at (btree_map_updates_text (string_bytes of) old new (Some (length names)) updates key) in
      let pushed = from_push (λ other. bytes_eq key (name_key other)) 0 names spelling in
      let place : position (λ other. bytes_eq key (name_key other)) (names ++ spelling ∷ []) ≡ position_from (λ other. bytes_eq key (name_key other)) 0 (names ++ spelling ∷ []) =
      position_from-zero (λ other. bytes_eq key (name_key other)) (names ++ spelling ∷ []) in
      let before : get_by_text old key ≡ position_from (λ other. bytes_eq key (name_key other)) 0 names = all key ∙ position_from-zero (λ other. bytes_eq key (name_key other)) names in
      elim (cases_Bool (bytes_eq key (name_key name))) [
        | inl e ↦
            let at : key ≡ name_key name = (bytes_eq-Decides key (name_key name)).0 e in
            let none : position_from (λ other. bytes_eq key (name_key other)) 0 names ≡ None =
            no_place (position_from (λ other. bytes_eq key (name_key other)) 0 names) (rw at (some_from (same_name name) 0 names ∙ unknown)) in
            let many : 0 + length names ≡ length names = omega arith in
            rw (now, place, pushed, keyed, bytes_eq-sym (name_key name) key, e, none, many) refl
        | inr e ↦ rw (now, place, pushed, keyed, bytes_eq-sym (name_key name) key, e) before
      ]

  -- the number at a target's key makes its pair
  pub pair_numbered : (numbers : BTreeMap (String Y) ℕ) (names : List (List ℕ)) (target : Target) (number : ℕ) → NumbersNames numbers names
      → get_by_text numbers (name_key target.name) ≡ Some number → ((number, target.register) ≡ pair_of names target) × (number < length names)
  pair_numbered numbers names target number all found =
      let place : position (same_name target.name) names ≡ Some number = sym (all (name_key target.name)) ∙ found in
      let is = place_is (same_name target.name) names number place in
      (ap (λ n. (n, target.register)) is.0, is.1)

-- with the numbers of all indexes a name has one just where some line has it as a target
pub index_known : (indexes : Indexes) (directives : List Directive) (name : List ℕ) → AreIndexes indexes directives
    → is_some (get_by_text indexes.numbers (name_key name)) ≡ list_any (λ target. same_name name target.name) (all_targets directives)
index_known indexes directives name are =
    let names = map (λ (target : Target). target.name) (all_targets directives) in
    has_number indexes.numbers indexes.names.items name are.numbers
    ∙ ap (list_any (same_name name)) are.names
    ∙ any_spelled (first_spelling directives) (first_spelling-same directives) name (distinct_names names)
    ∙ any_distinct name names
    ∙ any_named name (all_targets directives)
