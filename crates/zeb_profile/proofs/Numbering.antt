-- Names get their numbers one after another.
use Rattle.zeb_profile.proofs.Cited.{◌≡◌, ℕ, ◌+◌, ◌<◌, ◌≤◌, List, [], ◌∷◌, ◌++◌, length, drop, get_or, map, suc, add-one, drop-cons, refl, sym, ◌∙◌, ap, append_assoc, Bool, true, false, not, ◌||◌, cond, inl, inr, unwrap_or, fold, list_any, filter, find, flat_map, bytes_eq, str_to_ascii_lowercase, bytes_eq-Decides, cases_Bool, not-false, false_from_ne_true, list_any-append, map-append, append-nil, drop_all, Placed, Directive, first_spelling, index_names, names_in, numbered, all_targets, directives_in, targets_in, distinct_names, same_name}

-- ---- names are the same by their lower case
pub same_lower : (a b : List ℕ) → same_name a b ≡ true → str_to_ascii_lowercase a ≡ str_to_ascii_lowercase b
same_lower a b h = (bytes_eq-Decides (str_to_ascii_lowercase a) (str_to_ascii_lowercase b)).0 h

lower_same : (a b : List ℕ) → str_to_ascii_lowercase a ≡ str_to_ascii_lowercase b → same_name a b ≡ true
lower_same a b h = (bytes_eq-Decides (str_to_ascii_lowercase a) (str_to_ascii_lowercase b)).1 h

pub same_name-refl : (a : List ℕ) → same_name a a ≡ true
same_name-refl a = lower_same a a refl

-- what is the same as one of two same names is the same as the other
pub same_name-along : (a b c : List ℕ) → same_name a b ≡ true → same_name c a ≡ same_name c b
same_name-along a b c h = ap (bytes_eq (str_to_ascii_lowercase c)) (same_lower a b h)

pub same_name-from : (a b c : List ℕ) → same_name a b ≡ true → same_name a c ≡ same_name b c
same_name-from a b c h = ap (λ (x : List ℕ). bytes_eq x (str_to_ascii_lowercase c)) (same_lower a b h)

pub same_name-sym : (a b : List ℕ) → same_name a b ≡ same_name b a
same_name-sym a b =
    elim (cases_Bool (same_name a b)) [
      | inl e ↦ e ∙ sym (lower_same b a (sym (same_lower a b e)))
      | inr e ↦ e ∙ sym (false_from_ne_true (same_name b a) (λ h. absurd (cc (e, lower_same a b (sym (same_lower b a h))))))
    ]

-- ---- the loop over names
-- the names of the targets of the lines from the i-th on
abbrev pub names_after : ℕ → List Placed → List (List ℕ)
names_after i placed = map (λ target. target.name) (all_targets (directives_in (drop i placed)))

pub names_after-next : (i : ℕ) (placed : List Placed) (d : Placed) → i < length placed
    → names_after i placed ≡ map (λ target. target.name) (targets_in (get_or placed i d).directive) ++ names_after (i + 1) placed
names_after-next i placed d h =
    let e : i + 1 ≡ suc i = add-one i in
    rw (e, drop-cons placed i d) (map-append (λ target. target.name) (targets_in (get_or placed i d).directive) (all_targets (directives_in (drop (suc i) placed))))

pub names_after-end : (i : ℕ) (placed : List Placed) → length placed ≤ i → names_after i placed ≡ []
names_after-end i placed h = rw (drop_all i placed h) refl

-- ---- one after another they are the distinct names
filter_filter : {X : Type 0} (p q : X → Bool) (xs : List X) → ((x : X) → q x ≡ false → p x ≡ false) → filter p (filter q xs) ≡ filter p xs
filter_filter p q [] h = refl
filter_filter p q (x ∷ xs) h =
    elim (cases_Bool (q x)) [
      | inl e ↦ rw e (ap (λ rest. cond (p x) (x ∷ rest) rest) (filter_filter p q xs h))
      | inr e ↦ rw (e, h x e) (filter_filter p q xs h)
    ]

filter_both : {X : Type 0} (p q r : X → Bool) (xs : List X) → ((x : X) → r x ≡ cond (q x) (p x) false) → filter r xs ≡ filter p (filter q xs)
filter_both p q r [] h = refl
filter_both p q r (x ∷ xs) h =
    elim (cases_Bool (q x)) [
      | inl e ↦ rw (h x, e) (ap (λ rest. cond (p x) (x ∷ rest) rest) (filter_both p q r xs h))
      | inr e ↦ rw (h x, e) (filter_both p q r xs h)
    ]

-- whether a name is none of the names
is_new : List (List ℕ) → List ℕ → Bool
is_new names name = not (list_any (same_name name) names)

not_new_along : (names : List (List ℕ)) (n m : List ℕ) → list_any (same_name n) names ≡ true → not (same_name n m) ≡ false → is_new names m ≡ false
unfolding is_new
not_new_along names n m among same =
    let e : str_to_ascii_lowercase n ≡ str_to_ascii_lowercase m = same_lower n m (not-false (same_name n m) same) in
    let f : list_any (same_name m) names ≡ true = ap (λ (low : List ℕ). list_any (λ x. bytes_eq low (str_to_ascii_lowercase x)) names) (sym e) ∙ among in
    rw f refl

de_morgan : (a b : Bool) → not (a || (b || false)) ≡ cond (not b) (not a) false
de_morgan true true = refl
de_morgan true false = refl
de_morgan false true = refl
de_morgan false false = refl

new_behind : (names : List (List ℕ)) (n s m : List ℕ) → same_name s n ≡ true → is_new (names ++ s ∷ []) m ≡ cond (not (same_name n m)) (is_new names m) false
unfolding is_new
new_behind names n s m same =
    let e : same_name m s ≡ same_name n m = same_name-along s n m same ∙ same_name-sym m n in
    rw (list_any-append (same_name m) names (s ∷ []), e) (de_morgan (list_any (same_name m) names) (same_name n m))

all_new : (names : List (List ℕ)) → filter (is_new []) names ≡ names
unfolding is_new
all_new [] = refl
all_new (n ∷ ns) = ap (λ rest. n ∷ rest) (all_new ns)

numbered_all : (spell : List ℕ → List ℕ) → ((n : List ℕ) → same_name (spell n) n ≡ true) → (done names : List (List ℕ))
    → fold (numbered spell) done names ≡ done ++ map spell (filter (is_new done) (distinct_names names))
unfolding is_new
numbered_all spell same done [] = sym (append-nil done)
numbered_all spell same done (n ∷ ns) =
    elim (cases_Bool (list_any (same_name n) done)) [
      | inl e ↦
          let kept : filter (is_new done) (filter (λ m. not (same_name n m)) (distinct_names ns)) ≡ filter (is_new done) (distinct_names ns) =
          filter_filter (is_new done) (λ m. not (same_name n m)) (distinct_names ns) (λ m h. not_new_along done n m e h) in
          rw e (numbered_all spell same done ns ∙ ap (λ rest. done ++ map spell rest) (sym kept))
      | inr e ↦
          let behind : filter (is_new (done ++ spell n ∷ [])) (distinct_names ns) ≡ filter (is_new done) (filter (λ m. not (same_name n m)) (distinct_names ns)) =
          filter_both (is_new done) (λ m. not (same_name n m)) (is_new (done ++ spell n ∷ [])) (distinct_names ns) (λ m. new_behind done n (spell n) m (same n)) in
          rw e (numbered_all spell same (done ++ spell n ∷ []) ns ∙ ap (λ rest. (done ++ spell n ∷ []) ++ map spell rest) behind ∙ append_assoc done (spell n ∷ []) (map spell (filter (is_new done) (filter (λ m. not (same_name n m)) (distinct_names ns)))))
    ]

-- ---- a name is the same as its first spelling
find_passes : (p : List ℕ → Bool) (names : List (List ℕ)) (d : List ℕ) → p d ≡ true → p (unwrap_or (find p names) d) ≡ true
find_passes p [] d h = h
find_passes p (x ∷ xs) d h =
    elim (cases_Bool (p x)) [
      | inl e ↦ rw e e
      | inr e ↦ rw e (find_passes p xs d h)
    ]

pub first_spelling-same : (directives : List Directive) (name : List ℕ) → same_name (first_spelling directives name) name ≡ true
first_spelling-same directives name =
    same_name-sym (first_spelling directives name) name ∙ find_passes (same_name name) (flat_map names_in directives) name (same_name-refl name)

-- numbered one after another, the names of targets are the names of the indexes
pub index_names-numbered : (placed : List Placed) → fold (numbered (first_spelling (directives_in placed))) [] (names_after 0 placed) ≡ index_names (directives_in placed)
index_names-numbered placed =
    let spell = first_spelling (directives_in placed) in
    numbered_all spell (first_spelling-same (directives_in placed)) [] (names_after 0 placed) ∙ ap (map spell) (all_new (distinct_names (names_after 0 placed)))
