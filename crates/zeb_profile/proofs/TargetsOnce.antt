-- The targets of a unit are each there once.
use Rattle.zeb_profile.proofs.Cited.{◌≡◌, ℕ, ◌+◌, ◌==◌, List, [], ◌∷◌, ◌++◌, Bool, true, false, not, ◌&&◌, ◌||◌, Option, Ok, Err, refl, ap, arith, sym, ◌∙◌, append_assoc, cond, map, inl, inr, subst, if◌then◌else◌, AllByRecursion, filter, list_any, position_or_len, slice_split, and_from, and_parts, cases_Bool, eq-eqb, eqb-false, eqb-true, false_from_ne_true, ne_eqb, or_parts, list_any-append, any-filter_same, Directive, Store, Identifier, Att, Melm, AllUnits, Target, DuplicateTarget, Register, Word, Phrase, Number, targets_text, all_line_targets, first_spelling, fits, further_pairs, index_names, is_control, melm_targets, pair_of, same_pair, unit_targets, IsProfile, all_targets, distinct_names, is_comma, same_name, same_register, same_target, target_of, targets_after, targets_of}
use Rattle.std.specs.List.{IsDistinct}
use Rattle.zeb_profile.proofs.Numbering.{first_spelling-same, same_name-along, same_name-refl, same_name-sym}
use Rattle.zeb_profile.proofs.ProfilesBack.{profile_sound}
use Rattle.zeb_profile.proofs.TargetsBack.{step_ok, unless_ok}
use Rattle.zeb_profile.proofs.WrittenLines.{AllRead}

-- ---- what holds of each element
module _ {X : Type 0} where
  all_weaker : {P Q : X → Type 0} → ((x : X) → P x → Q x) → (xs : List X) → AllByRecursion P xs → AllByRecursion Q xs
  all_weaker f [] h = tt
  all_weaker f (x ∷ xs) h = (f x h.0, all_weaker f xs h.1)

  all_joined : (P : X → Type 0) (xs ys : List X) → AllByRecursion P xs → AllByRecursion P ys → AllByRecursion P (xs ++ ys)
  all_joined P [] ys h k = k
  all_joined P (x ∷ xs) ys h k = (h.0, all_joined P xs ys h.1 k)

  pub all_front : (P : X → Type 0) (xs ys : List X) → AllByRecursion P (xs ++ ys) → AllByRecursion P xs
  all_front P [] ys h = tt
  all_front P (x ∷ xs) ys h = (h.0, all_front P xs ys h.1)

  pub all_back : (P : X → Type 0) (xs ys : List X) → AllByRecursion P (xs ++ ys) → AllByRecursion P ys
  all_back P [] ys h = h
  all_back P (x ∷ xs) ys h = all_back P xs ys h.1

  all_kept : (P : X → Type 0) (p : X → Bool) (xs : List X) → AllByRecursion P xs → AllByRecursion P (filter p xs)
  all_kept P p [] h = tt
  all_kept P p (x ∷ xs) h =
      elim (cases_Bool (p x)) [
        | inl e ↦ rw e (h.0, all_kept P p xs h.1)
        | inr e ↦ rw e (all_kept P p xs h.1)
      ]

  all_lost : (p : X → Bool) (xs : List X) → AllByRecursion (λ x. p x ≡ false) (filter (λ x. not (p x)) xs)
  all_lost p [] = tt
  all_lost p (x ∷ xs) =
      elim (cases_Bool (p x)) [
        | inl e ↦ rw e (all_lost p xs)
        | inr e ↦ rw e (e, all_lost p xs)
      ]

-- ---- lists without repeats
module _ {X : Type 0} (same : X → X → Bool) (both : (x y : X) → same x y ≡ same y x) where
  distinct_joined : (xs ys : List X) → IsDistinct same xs → IsDistinct same ys → AllByRecursion (λ y. list_any (same y) xs ≡ false) ys → IsDistinct same (xs ++ ys)
  unfolding IsDistinct
  distinct_joined [] ys d e fresh = e
  distinct_joined (x ∷ xs) ys d e fresh = (
    all_joined (λ y. same x y ≡ false) xs ys d.0 (all_weaker (λ y none. both x y ∙ (or_parts (same y x) (list_any (same y) xs) none).0) ys fresh),
    distinct_joined xs ys d.1 e (all_weaker (λ y none. (or_parts (same y x) (list_any (same y) xs) none).1) ys fresh),
  )

  distinct_kept : (p : X → Bool) (xs : List X) → IsDistinct same xs → IsDistinct same (filter p xs)
  unfolding IsDistinct
  distinct_kept p [] d = tt
  distinct_kept p (x ∷ xs) d =
      elim (cases_Bool (p x)) [
        | inl e ↦ rw e (all_kept (λ y. same x y ≡ false) p xs d.0, distinct_kept p xs d.1)
        | inr e ↦ rw e (distinct_kept p xs d.1)
      ]

  distinct_push : (xs : List X) (x : X) → IsDistinct same xs → list_any (same x) xs ≡ false → IsDistinct same (xs ++ x ∷ [])
  unfolding IsDistinct
  distinct_push xs x d none = distinct_joined xs (x ∷ []) d (tt, tt) (none, tt)

-- ---- the same registers, targets and pairs
same_register-sym : (a b : Register) → same_register a b ≡ same_register b a
same_register-sym Word Word = refl
same_register-sym Word Phrase = refl
same_register-sym Word Number = refl
same_register-sym Phrase Word = refl
same_register-sym Phrase Phrase = refl
same_register-sym Phrase Number = refl
same_register-sym Number Word = refl
same_register-sym Number Phrase = refl
same_register-sym Number Number = refl

same_target-sym : (a b : Target) → same_target a b ≡ same_target b a
same_target-sym a b = ap (λ t. t && same_register a.register b.register) (same_name-sym a.name b.name) ∙ ap (λ t. same_name b.name a.name && t) (same_register-sym a.register b.register)

same_number-sym : (m n : ℕ) → (m == n) ≡ (n == m)
same_number-sym m n =
    elim (cases_Bool (m == n)) [
      | inl e ↦ e ∙ sym (eq-eqb n m (sym (eqb-true m n e)))
      | inr e ↦ e ∙ sym (ne_eqb n m (λ h. eqb-false m n e (sym h)))
    ]

same_pair-sym : (a b : ℕ × Register) → same_pair a b ≡ same_pair b a
same_pair-sym a b = ap (λ t. t && same_register a.1 b.1) (same_number-sym a.0 b.0) ∙ ap (λ t. (b.0 == a.0) && t) (same_register-sym a.1 b.1)

-- two tests that pass first at one place pass there both
same_place : (p q : List ℕ → Bool) (xs : List (List ℕ)) → list_any p xs ≡ true → position_or_len p xs ≡ position_or_len q xs → (x : List ℕ) × (p x ≡ true) × (q x ≡ true)
same_place p q [] some h = absurd (cc)
same_place p q (x ∷ xs) some h =
    elim (cases_Bool (p x)) [
      | inl e ↦ elim (cases_Bool (q x)) [
        | inl f ↦ (x, e, f)
        | inr f ↦ let bad : 0 ≡ 1 + position_or_len q xs = rw (e, f) at h in absurd (omega (arith, bad))
      ]
      | inr e ↦ elim (cases_Bool (q x)) [
        | inl f ↦ let bad : 1 + position_or_len p xs ≡ 0 = rw (e, f) at h in absurd (omega (arith, bad))
        | inr f ↦
            let next : 1 + position_or_len p xs ≡ 1 + position_or_len q xs = rw (e, f) at h in
            same_place p q xs (rw e at some) (omega (arith, next))
      ]
    ]

-- ---- targets whose names are known, and their pairs
abbrev pub Known : List (List ℕ) → List Target → Type 0
Known names targets = AllByRecursion (λ target. list_any (same_name target.name) names ≡ true) targets

apart_pair : (names : List (List ℕ)) (a b : Target) → list_any (same_name a.name) names ≡ true → same_target a b ≡ false → same_pair (pair_of names a) (pair_of names b) ≡ false
apart_pair names a b known apart =
    false_from_ne_true (same_pair (pair_of names a) (pair_of names b)) (λ same.
    let parts = and_parts _ (same_register a.register b.register) same in
    let there = same_place (same_name a.name) (same_name b.name) names known (eqb-true _ _ parts.0) in
    let name : same_name a.name b.name ≡ true = same_name-along b.name there.0 a.name there.2 ∙ there.1 in
    let bad : same_target a b ≡ true = and_from (same_name a.name b.name) (same_register a.register b.register) name parts.1 in
    absurd (cc))

apart_pairs : (names : List (List ℕ)) (a : Target) (targets : List Target) → list_any (same_name a.name) names ≡ true → AllByRecursion (λ b. same_target a b ≡ false) targets
    → AllByRecursion (λ pair. same_pair (pair_of names a) pair ≡ false) (map (pair_of names) targets)
apart_pairs names a [] known h = tt
apart_pairs names a (b ∷ targets) known h = (apart_pair names a b known h.0, apart_pairs names a targets known h.1)

distinct_pairs : (names : List (List ℕ)) (targets : List Target) → Known names targets → IsDistinct same_target targets → IsDistinct same_pair (map (pair_of names) targets)
unfolding IsDistinct
distinct_pairs names [] known d = tt
distinct_pairs names (a ∷ targets) known d = (apart_pairs names a targets known.0 d.0, distinct_pairs names targets known.1 d.1)

-- ---- the targets of a line
distinct_after : (left : List Target) (parts : List (List ℕ)) (targets : List Target) → IsDistinct same_target left → targets_after left parts ≡ Ok targets → IsDistinct same_target targets
distinct_after left [] targets d h = let same : left ≡ targets = cc in subst (λ (ts : List Target). IsDistinct same_target ts) same d
distinct_after left (part ∷ parts) targets d h =
    let read = step_ok (target_of part) (λ target. cond (list_any (same_target target) left) (Err DuplicateTarget) (targets_after (left ++ target ∷ []) parts)) targets h in
    let fresh = unless_ok (list_any (same_target read.0) left) DuplicateTarget (targets_after (left ++ read.0 ∷ []) parts) targets read.2 in
    distinct_after (left ++ read.0 ∷ []) parts targets (distinct_push same_target same_target-sym left read.0 d fresh.0) fresh.1

distinct_line : (word : List ℕ) (targets : List Target) → targets_of word ≡ Ok targets → IsDistinct same_target targets
unfolding IsDistinct
distinct_line word targets h = distinct_after [] (slice_split is_comma word) targets tt h

-- the targets of one line, or none
record IsLine (names : List (List ℕ)) (targets : List Target) : Type 0 where
  known : Known names targets
  apart : IsDistinct same_target targets

no_line : (names : List (List ℕ)) → IsLine names []
unfolding IsDistinct
no_line names = record { known = tt; apart = tt }

melm_line : (names : List (List ℕ)) (tag : List ℕ) (code : Option ℕ) (ds : List Directive) → AllRead ds → Known names (all_targets ds) → IsLine names (melm_targets tag code ds)
melm_line names tag code [] read known = no_line names
melm_line names tag code (Store path ∷ ds) read known = melm_line names tag code ds read.1 known
melm_line names tag code (Identifier pattern ∷ ds) read known = melm_line names tag code ds read.1 known
melm_line names tag code (Att number name ∷ ds) read known = melm_line names tag code ds read.1 known
melm_line names tag code (AllUnits targets ∷ ds) read known = melm_line names tag code ds read.1 (all_back (λ target. list_any (same_name target.name) names ≡ true) targets (all_targets ds) known)
melm_line names tag code (Melm pattern targets ∷ ds) read known =
    elim (cases_Bool (fits pattern tag code)) [
      | inl e ↦ rw e (record { known = all_front (λ target. list_any (same_name target.name) names ≡ true) targets (all_targets ds) known; apart = distinct_line (targets_text targets) targets read.0.2 })
      | inr e ↦ rw e (melm_line names tag code ds read.1 (all_back (λ target. list_any (same_name target.name) names ≡ true) targets (all_targets ds) known))
    ]

all_line : (names : List (List ℕ)) (ds : List Directive) → AllRead ds → Known names (all_targets ds) → IsLine names (all_line_targets ds)
all_line names [] read known = no_line names
all_line names (Store path ∷ ds) read known = all_line names ds read.1 known
all_line names (Identifier pattern ∷ ds) read known = all_line names ds read.1 known
all_line names (Att number name ∷ ds) read known = all_line names ds read.1 known
all_line names (Melm pattern targets ∷ ds) read known = all_line names ds read.1 (all_back (λ target. list_any (same_name target.name) names ≡ true) targets (all_targets ds) known)
all_line names (AllUnits targets ∷ ds) read known =
    record { known = all_front (λ target. list_any (same_name target.name) names ≡ true) targets (all_targets ds) known; apart = distinct_line (targets_text targets) targets read.0.0 }

further_line : (names : List (List ℕ)) (control : Bool) (targets : List Target) → IsLine names targets → IsLine names (if control then [] else targets)
further_line names true targets line = no_line names
further_line names false targets line = line

-- ---- the names of targets are names of indexes
or_true : (b : Bool) → (b || true) ≡ true
or_true true = refl
or_true false = refl

pub any_distinct : (n : List ℕ) (names : List (List ℕ)) → list_any (same_name n) (distinct_names names) ≡ list_any (same_name n) names
any_distinct n [] = refl
any_distinct n (m ∷ names) =
    elim (cases_Bool (same_name n m)) [
      | inl e ↦ rw e refl
      | inr e ↦
          let other : (k : List ℕ) → same_name n k ≡ true → not (same_name m k) ≡ true =
          λ k same. ap not (sym (same_name-along n k m same) ∙ same_name-sym m n ∙ e) in
          rw e (any-filter_same (same_name n) (λ o. not (same_name m o)) true other (distinct_names names) ∙ any_distinct n names)
    ]

pub any_spelled : (spell : List ℕ → List ℕ) → ((n : List ℕ) → same_name (spell n) n ≡ true) → (n : List ℕ) (names : List (List ℕ)) → list_any (same_name n) (map spell names) ≡ list_any (same_name n) names
any_spelled spell same n [] = refl
any_spelled spell same n (m ∷ names) = rw (same_name-along (spell m) m n (same m)) (ap (λ rest. same_name n m || rest) (any_spelled spell same n names))

named_behind : (before : List (List ℕ)) (targets : List Target) → Known (before ++ map (λ target. target.name) targets) targets
named_behind before [] = tt
named_behind before (first ∷ targets) =
    let names = map (λ (target : Target). target.name) targets in (
      list_any-append (same_name first.name) before (first.name ∷ names)
          ∙ rw (same_name-refl first.name) (or_true (list_any (same_name first.name) before)),
      subst (λ (all : List (List ℕ)). Known all targets) (append_assoc before (first.name ∷ []) names) (named_behind (before ++ first.name ∷ []) targets),
    )

pub all_known : (ds : List Directive) → Known (index_names ds) (all_targets ds)
all_known ds =
    let names = map (λ (target : Target). target.name) (all_targets ds) in
    all_weaker (λ target known. any_spelled (first_spelling ds) (first_spelling-same ds) target.name (distinct_names names) ∙ any_distinct target.name names ∙ known)
    (all_targets ds) (named_behind [] (all_targets ds))

-- ---- a unit's pairs
joined_once : (names : List (List ℕ)) (first further : List Target) → IsLine names first → IsLine names further
    → IsDistinct same_pair (map (pair_of names) first ++ further_pairs (map (pair_of names) first) (map (pair_of names) further))
joined_once names first further one other =
    let pairs = map (pair_of names) first in
    let others = map (pair_of names) further in
    distinct_joined same_pair same_pair-sym pairs (further_pairs pairs others)
    (distinct_pairs names first one.known one.apart)
    (distinct_kept same_pair same_pair-sym (λ pair. not (list_any (same_pair pair) pairs)) others (distinct_pairs names further other.known other.apart))
    (all_lost (λ pair. list_any (same_pair pair) pairs) others)

pub each_target_once : (ds : List Directive) (tag : List ℕ) (code : Option ℕ) → IsProfile ds → IsDistinct same_pair (unit_targets ds tag code)
each_target_once ds tag code profile =
    let sound = profile_sound ds profile in
    let names = index_names ds in
    let known = all_known ds in
    joined_once names (melm_targets tag code ds) (if is_control tag then [] else all_line_targets ds)
    (melm_line names tag code ds sound.read known)
    (further_line names (is_control tag) (all_line_targets ds) (all_line names ds sound.read known))
