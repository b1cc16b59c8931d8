-- What the directives of a profile meet together, and that it stays where the store is moved to their end.
use Rattle.zeb_profile.proofs.Cited.{◌≡◌, ℕ, List, [], ◌∷◌, ◌++◌, Bool, true, false, ◌||◌, not, length, nat_le, Option, Some, None, refl, ap, subst, sym, ◌∙◌, append_assoc, inl, inr, filter, list_any, cases_Bool, append-nil, flat_map-append, filter-append, list_any-append, Directive, Store, Identifier, Att, Melm, AllUnits, Target, ProfileFaultKind, store_path, without_store, all_targets, clash, first_clash, first_of, has_room, is_identifier, is_store, most_indexes, targets_in, ties_unknown, same_name, target_names}
use Rattle.zeb_profile.proofs.DirectivesBack.{IsRead}
use Rattle.zeb_profile.proofs.StoreLaws.{all_targets-without_store, stays}
use Rattle.zeb_profile.proofs.WrittenLines.{AllRead}

-- none of the directives may not stand behind those before it
abbrev pub Behind : List Directive → List Directive → Type 0
Behind earlier [] = Unit {0}
Behind earlier (directive ∷ others) = (first_clash earlier directive ≡ None) × Behind (earlier ++ directive ∷ []) others

-- ---- clashes
none_of : (one other : Option ProfileFaultKind) → first_of one other ≡ None → (one ≡ None) × (other ≡ None)
none_of (Some kind) other h = absurd (cc)
none_of None other h = (refl, h)

-- the clash with one more, where it doesn't clash itself
clash_more : (first : Directive) (all some : List Directive) (directive : Directive) → first_clash (first ∷ all) directive ≡ None → first_clash some directive ≡ None → first_clash (first ∷ some) directive ≡ None
clash_more first all some directive h rest =
    let none = none_of (clash first directive) (first_clash all directive) h in
    rw (none.0) rest

-- fewer earlier directives clash with no more
clash_without_store : (earlier : List Directive) (directive : Directive) → first_clash earlier directive ≡ None → first_clash (without_store earlier) directive ≡ None
clash_without_store [] directive h = h
clash_without_store (first ∷ ds) directive h =
    let rest : first_clash (without_store ds) directive ≡ None = clash_without_store ds directive (none_of (clash first directive) (first_clash ds directive) h).1 in
    elim (cases_Bool (is_store first)) [
      | inl e ↦ rw e rest
      | inr e ↦ rw e (clash_more first ds (without_store ds) directive h rest)
    ]

no_clash_with_store : (ds : List Directive) (path : List ℕ) → first_clash (without_store ds) (Store path) ≡ None
no_clash_with_store [] path = refl
no_clash_with_store (Store other ∷ ds) path = no_clash_with_store ds path
no_clash_with_store (Identifier pattern ∷ ds) path = no_clash_with_store ds path
no_clash_with_store (Att number name ∷ ds) path = no_clash_with_store ds path
no_clash_with_store (Melm pattern targets ∷ ds) path = no_clash_with_store ds path
no_clash_with_store (AllUnits targets ∷ ds) path = no_clash_with_store ds path

-- without the store the rest stands as it stood
behind_kept : (earlier : List Directive) (directive : Directive) (ds : List Directive) → first_clash earlier directive ≡ None → Behind (earlier ++ without_store (directive ∷ [])) ds
    → Behind earlier (filter (λ d. not (is_store d)) (directive ∷ []) ++ ds)
behind_kept earlier directive ds none h =
    elim (cases_Bool (is_store directive)) [
      | inl e ↦ rw e (subst (λ (front : List Directive). Behind front ds) (append-nil earlier) (rw e at h))
      | inr e ↦ rw e (none, rw e at h)
    ]

behind_without_store : (earlier ds : List Directive) → Behind earlier ds → Behind (without_store earlier) (without_store ds)
behind_without_store earlier [] h = tt
behind_without_store earlier (directive ∷ ds) h =
    let rest : Behind (without_store (earlier ++ directive ∷ [])) (without_store ds) = behind_without_store (earlier ++ directive ∷ []) ds h.1 in
    let joined : without_store (earlier ++ directive ∷ []) ≡ without_store earlier ++ without_store (directive ∷ []) = filter-append (λ d. not (is_store d)) earlier (directive ∷ []) in
    let moved : Behind (without_store earlier ++ without_store (directive ∷ [])) (without_store ds) = subst (λ (front : List Directive). Behind front (without_store ds)) joined rest in
    subst (λ (kept : List Directive). Behind (without_store earlier) kept) (sym (filter-append (λ d. not (is_store d)) (directive ∷ []) ds))
    (behind_kept (without_store earlier) directive (without_store ds) (clash_without_store earlier directive h.0) moved)

-- and a store may stand behind it
behind_store : (earlier ds : List Directive) (path : List ℕ) → Behind earlier ds → first_clash (earlier ++ ds) (Store path) ≡ None → Behind earlier (ds ++ Store path ∷ [])
behind_store earlier [] path h none = (rw (← append-nil earlier) none, tt)
behind_store earlier (directive ∷ ds) path h none =
    (h.0, behind_store (earlier ++ directive ∷ []) ds path h.1 (ap (λ ds. first_clash ds (Store path)) (append_assoc earlier (directive ∷ []) ds) ∙ none))

pub store_moved_behind : (ds : List Directive) (path : List ℕ) → Behind [] ds → Behind [] (without_store ds ++ Store path ∷ [])
store_moved_behind ds path h = behind_store [] (without_store ds) path (behind_without_store [] ds h) (no_clash_with_store ds path)

-- ---- what was read
read_without_store : (ds : List Directive) → AllRead ds → AllRead (without_store ds)
read_without_store [] h = tt
read_without_store (Store path ∷ ds) h = read_without_store ds h.1
read_without_store (Identifier pattern ∷ ds) h = (h.0, read_without_store ds h.1)
read_without_store (Att number name ∷ ds) h = (h.0, read_without_store ds h.1)
read_without_store (Melm pattern targets ∷ ds) h = (h.0, read_without_store ds h.1)
read_without_store (AllUnits targets ∷ ds) h = (h.0, read_without_store ds h.1)

read_push : (ds : List Directive) (directive : Directive) → AllRead ds → IsRead directive → AllRead (ds ++ directive ∷ [])
read_push [] directive h one = (one, tt)
read_push (first ∷ ds) directive h one = (h.0, read_push ds directive h.1 one)

pub store_moved_read : (ds : List Directive) (path : List ℕ) → AllRead ds → IsRead (Store path) → AllRead (without_store ds ++ Store path ∷ [])
store_moved_read ds path h one = read_push (without_store ds) (Store path) (read_without_store ds h) one

-- the path of a store that was read
pub path_read : (ds : List Directive) (path : List ℕ) → AllRead ds → store_path ds ≡ Some path → IsRead (Store path)
path_read [] path h e = absurd (cc)
path_read (Store other ∷ ds) path h e = let same : other ≡ path = cc in subst (λ (p : List ℕ). IsRead (Store p)) same (h.0)
path_read (Identifier pattern ∷ ds) path h e = path_read ds path h.1 e
path_read (Att number name ∷ ds) path h e = path_read ds path h.1 e
path_read (Melm pattern targets ∷ ds) path h e = path_read ds path h.1 e
path_read (AllUnits targets ∷ ds) path h e = path_read ds path h.1 e

-- ---- tests of some directive
or_nothing : (b : Bool) → (b || (false || false)) ≡ b
or_nothing true = refl
or_nothing false = refl

any_moved : (p : Directive → Bool) → ((path : List ℕ) → p (Store path) ≡ false) → (ds : List Directive) (path : List ℕ) → list_any p (without_store ds ++ Store path ∷ []) ≡ list_any p ds
any_moved p none ds path =
    list_any-append p (without_store ds) (Store path ∷ [])
    ∙ ap (λ last. list_any p (without_store ds) || (last || false)) (none path)
    ∙ or_nothing (list_any p (without_store ds))
    ∙ stays (list_any p) (λ d rest. p d || rest) (λ d rest. refl) (λ other rest. ap (λ b. b || rest) (none other)) ds

pub identified_moved : (ds : List Directive) (path : List ℕ) → list_any is_identifier (without_store ds ++ Store path ∷ []) ≡ list_any is_identifier ds
identified_moved ds path = any_moved is_identifier (λ p. refl) ds path

targets_moved : (ds : List Directive) (path : List ℕ) → all_targets (without_store ds ++ Store path ∷ []) ≡ all_targets ds
targets_moved ds path = flat_map-append targets_in (without_store ds) (Store path ∷ []) ∙ append-nil (all_targets (without_store ds)) ∙ all_targets-without_store ds

-- whether a use attribute is tied to no target, by the targets
ties_none : List Target → Directive → Bool
ties_none targets (Att number name) = not (list_any (λ target. same_name name target.name) targets)
ties_none targets _ = false

ties_by_targets : (ds : List Directive) (directive : Directive) → ties_unknown ds directive ≡ ties_none (all_targets ds) directive
unfolding ties_none
ties_by_targets ds (Store path) = refl
ties_by_targets ds (Identifier pattern) = refl
ties_by_targets ds (Att number name) = refl
ties_by_targets ds (Melm pattern targets) = refl
ties_by_targets ds (AllUnits targets) = refl

any_agrees : (p q : Directive → Bool) → ((d : Directive) → p d ≡ q d) → (ds : List Directive) → list_any p ds ≡ list_any q ds
any_agrees p q same [] = refl
any_agrees p q same (d ∷ ds) = rw (same d, any_agrees p q same ds) refl

pub tied_moved : (ds : List Directive) (path : List ℕ) → list_any (ties_unknown (without_store ds ++ Store path ∷ [])) (without_store ds ++ Store path ∷ []) ≡ list_any (ties_unknown ds) ds
tied_moved ds path =
    let moved : List Directive = without_store ds ++ Store path ∷ [] in
    any_agrees (ties_unknown moved) (ties_unknown ds) (λ d. ties_by_targets moved d ∙ ap (λ targets. ties_none targets d) (targets_moved ds path) ∙ sym (ties_by_targets ds d)) moved
    ∙ any_moved (ties_unknown ds) (λ p. refl) ds path

pub room_moved : (ds : List Directive) (path : List ℕ) → has_room (without_store ds ++ Store path ∷ []) ≡ has_room ds
room_moved ds path = ap (λ targets. nat_le (length (target_names targets)) most_indexes) (targets_moved ds path)

pub stored_moved : (ds : List Directive) (path : List ℕ) → list_any is_store (ds ++ Store path ∷ []) ≡ true
stored_moved [] path = refl
stored_moved (d ∷ ds) path =
    elim (cases_Bool (is_store d)) [
      | inl e ↦ rw e refl
      | inr e ↦ rw e (stored_moved ds path)
    ]
