-- Names of targets get their numbers as they first come.
use Rattle.zeb_profile.proofs.Cited.{◌≡◌, ℕ, ◌<◌, List, [], ◌∷◌, ◌++◌, length, map, filter, Bool, true, false, not, Some, refl, sym, ap, ◌∙◌, arith, inl, inr, or_parts, cases_Bool, lt-ltb, append-nil, map-append, length-map, length-append, filter-append, list_any, AllByRecursion, position_or_len, all_targets, same_name, distinct_names, first_spelling, index_names, index_by_name, pair_of}
use Rattle.zeb_profile.specs.declared.directives.Directive.{Directive}
use Rattle.zeb_profile.specs.declared.directives.Target.{Target}
use Rattle.zeb_profile.proofs.Numbering.{first_spelling-same, same_name-sym}
use Rattle.zeb_profile.proofs.TargetsOnce.{any_distinct, any_spelled, all_known}
use Rattle.zeb_lower_laws.specs.ProfileLaws.{HasNumberedNames, spelled_names}

-- ---- the first of a list that passes
module _ {X : Type 0} (p : X → Bool) where
  any_within : (xs : List X) → list_any p xs ≡ true → position_or_len p xs < length xs
  any_within [] some = absurd (cc)
  any_within (x ∷ xs) some =
      elim (cases_Bool (p x)) [
        | inl e ↦ rw e (omega arith)
        | inr e ↦ let later = any_within xs (rw e at some) in rw e (omega (arith, later))
      ]

  first_behind : (xs : List X) (y : X) (ys : List X) → list_any p xs ≡ false → p y ≡ true → position_or_len p (xs ++ y ∷ ys) ≡ length xs
  first_behind [] y ys none here = rw here refl
  first_behind (x ∷ xs) y ys none here =
      let parts = or_parts (p x) (list_any p xs) none in
      let later = first_behind xs y ys parts.1 here in
      rw parts.0 (omega (arith, later))

-- ---- names behind others
is_new : List (List ℕ) → List ℕ → Bool
is_new names name = not (list_any (same_name name) names)

filter_twice : (x : List ℕ) (xs names : List (List ℕ)) → filter (λ other. not (same_name x other)) (filter (is_new xs) names) ≡ filter (is_new (x ∷ xs)) names
unfolding is_new
filter_twice x xs [] = refl
filter_twice x xs (n ∷ names) = by_tests (same_name x n) (list_any (same_name n) xs) refl refl (filter_twice x xs names)
  where
    by_tests : (first other : Bool) → same_name x n ≡ first → list_any (same_name n) xs ≡ other
        → filter (λ o. not (same_name x o)) (filter (is_new xs) names) ≡ filter (is_new (x ∷ xs)) names
        → filter (λ o. not (same_name x o)) (filter (is_new xs) (n ∷ names)) ≡ filter (is_new (x ∷ xs)) (n ∷ names)
    by_tests true true e f rest = let turned : same_name n x ≡ true = same_name-sym n x ∙ e in rw (f, turned) rest
    by_tests true false e f rest = let turned : same_name n x ≡ true = same_name-sym n x ∙ e in rw (f, turned, e) rest
    by_tests false true e f rest = let turned : same_name n x ≡ false = same_name-sym n x ∙ e in rw (f, turned) rest
    by_tests false false e f rest = let turned : same_name n x ≡ false = same_name-sym n x ∙ e in rw (f, turned, e) (ap (λ l. n ∷ l) rest)

all_new : (names : List (List ℕ)) → filter (is_new []) names ≡ names
unfolding is_new
all_new [] = refl
all_new (n ∷ names) = ap (λ l. n ∷ l) (all_new names)

-- the names of two lists are those of the first, and then those of the second that aren't there yet
distinct_joined : (xs ys : List (List ℕ)) → distinct_names (xs ++ ys) ≡ distinct_names xs ++ filter (is_new xs) (distinct_names ys)
distinct_joined [] ys = sym (all_new (distinct_names ys))
distinct_joined (x ∷ xs) ys =
    let others = λ (names : List (List ℕ)). filter (λ other. not (same_name x other)) names in
    ap (λ l. x ∷ l)
    (ap others (distinct_joined xs ys)
    ∙ filter-append (λ other. not (same_name x other)) (distinct_names xs) (filter (is_new xs) (distinct_names ys))
    ∙ ap (λ l. others (distinct_names xs) ++ l) (filter_twice x xs (distinct_names ys)))

pub new_comes_last : (names : List (List ℕ)) (name : List ℕ) → list_any (same_name name) names ≡ false → distinct_names (names ++ name ∷ []) ≡ distinct_names names ++ name ∷ []
unfolding is_new
new_comes_last names name new = distinct_joined names (name ∷ []) ∙ rw new refl

pub known_adds_nothing : (names : List (List ℕ)) (name : List ℕ) → list_any (same_name name) names ≡ true → distinct_names (names ++ name ∷ []) ≡ distinct_names names
unfolding is_new
known_adds_nothing names name known = distinct_joined names (name ∷ []) ∙ rw known (append-nil (distinct_names names))

-- ---- of a profile
module _ (directives : List Directive) where
  abbrev spell : List ℕ → List ℕ
  spell = first_spelling directives

  first_is : (before after : List (List ℕ)) (name : List ℕ) → spelled_names directives ≡ before ++ name ∷ after → list_any (same_name name) before ≡ false
      → index_by_name directives name ≡ Some (length (distinct_names before))
  unfolding is_new
  first_is before after name are new =
      let rest : List (List ℕ) = filter (is_new before) (filter (λ other. not (same_name name other)) (distinct_names after)) in
      let distinct : distinct_names (spelled_names directives) ≡ distinct_names before ++ name ∷ rest =
      ap distinct_names are ∙ distinct_joined before (name ∷ after) ∙ rw new refl in
      let names : index_names directives ≡ map spell (distinct_names before) ++ spell name ∷ map spell rest =
      ap (map spell) distinct ∙ map-append spell (distinct_names before) (name ∷ rest) in
      let none : list_any (same_name name) (map spell (distinct_names before)) ≡ false =
      any_spelled spell (first_spelling-same directives) name (distinct_names before) ∙ any_distinct name before ∙ new in
      let here : same_name name (spell name) ≡ true = same_name-sym name (spell name) ∙ first_spelling-same directives name in
      let place : position_or_len (same_name name) (index_names directives) ≡ length (distinct_names before) =
      ap (position_or_len (same_name name)) names
      ∙ first_behind (same_name name) (map spell (distinct_names before)) (spell name) (map spell rest) none here
      ∙ length-map (distinct_names before) spell in
      let within : position_or_len (same_name name) (index_names directives) < length (index_names directives) =
      omega (arith, place, ap length names, length-append (map spell (distinct_names before)) (spell name ∷ map spell rest), length-map (distinct_names before) spell) in
      rw (lt-ltb (position_or_len (same_name name) (index_names directives)) (length (index_names directives)) within) (ap Some place)

  target_is : (target : Target) → list_any (same_name target.name) (index_names directives) ≡ true
      → (index_by_name directives target.name ≡ Some (pair_of (index_names directives) target).0) × ((pair_of (index_names directives) target).0 < length (index_names directives))
  target_is target known =
      let within = any_within (same_name target.name) (index_names directives) known in
      (rw (lt-ltb (position_or_len (same_name target.name) (index_names directives)) (length (index_names directives)) within) refl, within)

  targets_are : (targets : List Target) → AllByRecursion (λ target. list_any (same_name target.name) (index_names directives) ≡ true) targets
      → AllByRecursion (λ target. (index_by_name directives target.name ≡ Some (pair_of (index_names directives) target).0) × ((pair_of (index_names directives) target).0 < length (index_names directives))) targets
  targets_are [] known = tt
  targets_are (target ∷ targets) known = (target_is target known.0, targets_are targets known.1)

  pub are_numbered : HasNumberedNames directives
  are_numbered = record { first = first_is; targets = targets_are (all_targets directives) (all_known directives) }
