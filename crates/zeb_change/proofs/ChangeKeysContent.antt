-- The content in which the changed keys of a record, one after the other, have the newer places.
use Rattle.zeb_change.proofs.Cited.{◌≡◌, ◌≢◌, ◌↔◌, ◌⊎◌, ◌∙◌, ℕ, ℤ, List, [], ◌∷◌, ◌++◌, map, refl, sym, subst, inl, inr, Contains, nat_cmp_total, int_cmp_total, Has, has_contained, contains_had, all_has, has_mapped, mapped_has, Key, Occurrence, key_order, key_total, keys_apart, numbers_apart, Place, Content, HasRisingLists, posting_at, ArePlacesOf, Posting, Trees, KeepsLists, never_itself, told_by, changed_at, change_is, same_content, integers_apart, ChangedKey, ArePostingsOf, IsReposted, occurrence_at, AreChangedKeys, key_in, new_in, old_in}
use Rattle.std.proofs.Common.{Less}
use Rattle.std.specs.List.Sorted.{IsStrictlySortedBy}

pub moved : ℤ → ℕ → List ChangedKey → Content → Content
moved db sysno [] content = content
moved db sysno (c ∷ changed) content = moved db sysno changed (changed_at db (key_in c) sysno (new_in c) content)

pub moved_none : (db : ℤ) (sysno : ℕ) (content : Content) → moved db sysno [] content ≡ content
unfolding moved
moved_none db sysno content = refl

pub moved_more : (db : ℤ) (sysno : ℕ) (changed : List ChangedKey) (c : ChangedKey) (content : Content)
    → moved db sysno (changed ++ c ∷ []) content ≡ changed_at db (key_in c) sysno (new_in c) (moved db sysno changed content)
unfolding moved
moved_more db sysno [] c content = refl
moved_more db sysno (first ∷ changed) c content = moved_more db sysno changed c (changed_at db (key_in first) sysno (new_in first) content)

pub moved_rises : (db : ℤ) (sysno : ℕ) (changed : List ChangedKey) (content : Content) → HasRisingLists content → HasRisingLists (moved db sysno changed content)
unfolding moved
moved_rises db sysno [] content up = up
moved_rises db sysno (c ∷ changed) content up = moved_rises db sysno changed _ (change_is db (key_in c) sysno (new_in c) content up).rising

-- what is no posting of the record in the database is as it was
pub moved_others : (db : ℤ) (sysno : ℕ) (changed : List ChangedKey) (content : Content) → HasRisingLists content → (d : ℤ) (key : Key) (p : Posting) → ¬ ((d ≡ db) × (p.sysno ≡ sysno))
    → Has (moved db sysno changed content d key) p ↔ Has (content d key) p
unfolding moved
moved_others db sysno [] content up d key p other = (λ h. h, λ h. h)
moved_others db sysno (c ∷ changed) content up d key p other =
    let change = change_is db (key_in c) sysno (new_in c) content up in
    let here = change.others d key p (λ h. other (h.0, h.2)) in
    let later = moved_others db sysno changed (changed_at db (key_in c) sysno (new_in c) content) change.rising d key p other in
    (λ h. here.0 (later.0 h), λ h. later.1 (here.1 h))

-- a key that isn't changed has the postings that it had
pub moved_beside : (db : ℤ) (sysno : ℕ) (changed : List ChangedKey) (content : Content) → HasRisingLists content → (key : Key) → ¬ Has (map key_in changed) key → (p : Posting)
    → Has (moved db sysno changed content db key) p ↔ Has (content db key) p
unfolding moved
moved_beside db sysno [] content up key none p = (λ h. h, λ h. h)
moved_beside db sysno (c ∷ changed) content up key none p =
    let change = change_is db (key_in c) sysno (new_in c) content up in
    let here = change.others db key p (λ h. none (inl h.1)) in
    let later = moved_beside db sysno changed (changed_at db (key_in c) sysno (new_in c) content) change.rising key (λ h. none (inr h)) p in
    (λ h. here.0 (later.0 h), λ h. later.1 (here.1 h))

-- the first of rising keys is no later one
first_alone : (first : Key) (keys : List Key) → IsStrictlySortedBy key_order (first ∷ keys) → ¬ Has keys first
unfolding IsStrictlySortedBy
first_alone first keys up there = never_itself key_total first (all_has (λ k. key_order first k ≡ Less) keys first up.0 there)

later_rise : (first : Key) (keys : List Key) → IsStrictlySortedBy key_order (first ∷ keys) → IsStrictlySortedBy key_order keys
unfolding IsStrictlySortedBy
later_rise first keys up = up.1

-- a changed key has its newer places
pub moved_part : (db : ℤ) (sysno : ℕ) (changed : List ChangedKey) (content : Content) → HasRisingLists content → IsStrictlySortedBy key_order (map key_in changed)
    → (c : ChangedKey) → Has changed c → ArePlacesOf sysno (new_in c) (moved db sysno changed content db (key_in c))
unfolding moved
moved_part db sysno [] content up once c there = absurd there
moved_part db sysno (first ∷ changed) content up once c (inl same) = subst (λ (z : ChangedKey). ArePlacesOf sysno (new_in z) (moved db sysno changed now db (key_in z))) (sym same) here
  where
    now : Content
    now = changed_at db (key_in first) sysno (new_in first) content

    here : ArePlacesOf sysno (new_in first) (moved db sysno changed now db (key_in first))
    here place =
        let change = change_is db (key_in first) sysno (new_in first) content up in
        let still = moved_beside db sysno changed now change.rising (key_in first) (first_alone (key_in first) (map key_in changed) once) (posting_at sysno place) in
        let part = change.part place in
        (λ h. still.1 (part.0 h), λ h. part.1 (still.0 h))
moved_part db sysno (first ∷ changed) content up once c (inr later) =
    moved_part db sysno changed (changed_at db (key_in first) sysno (new_in first) content) (change_is db (key_in first) sysno (new_in first) content up).rising
    (later_rise (key_in first) (map key_in changed) once) c later

-- whether a key is one of these
pub told_key : (keys : List Key) (key : Key) → Has keys key ⊎ ¬ Has keys key
told_key [] key = inr (λ h. h)
told_key (first ∷ keys) key = elim (told_by key_total keys_apart key first) [
  | inl same ↦ inl (inl same)
  | inr other ↦ elim (told_key keys key) [ inl there ↦ inl (inr there) | inr none ↦ inr (λ h. elim h [ inl same ↦ other same | inr later ↦ none later ]) ]
]

pub moved_is : (db : ℤ) (sysno : ℕ) (elder newer : List Occurrence) (changed : List ChangedKey) (content : Content) → HasRisingLists content → AreChangedKeys elder newer changed
    → ArePostingsOf sysno elder (content db) → IsReposted db sysno newer content (moved db sysno changed content)
moved_is db sysno elder newer changed content up are was = record {
  rising = moved_rises db sysno changed content up;
  part = λ key place. part key place (told_key (map key_in changed) key);
  others = λ d key p other. moved_others db sysno changed content up d key p other;
}
  where
    part : (key : Key) (place : Place) → Has (map key_in changed) key ⊎ ¬ Has (map key_in changed) key
        → Has (moved db sysno changed content db key) (posting_at sysno place) ↔ Contains newer (occurrence_at key place)
    part key place (inl there) =
        let from = has_mapped key_in changed key there in
        let places = moved_part db sysno changed content up are.once from.0 from.1 in
        let told = (are.new from.0 (contains_had changed from.0 from.1)).each place in
        subst (λ k. Has (moved db sysno changed content db k) (posting_at sysno place) ↔ Contains newer (occurrence_at k place)) (sym from.2)
        (λ h. told.0 ((places place).1 h), λ h. (places place).0 (told.1 h))
    part key place (inr none) =
        let still = moved_beside db sysno changed content up key none (posting_at sysno place) in
        let before = was key place in
        let same = are.others key (λ h. none (has_contained (map key_in changed) key h)) place in
        (λ h. same.0 (before.0 (still.0 h)), λ h. still.1 (before.1 (same.1 h)))

-- there is one content in which the record has just these occurrences
pub one_reposted : (db : ℤ) (sysno : ℕ) (newer : List Occurrence) (before a b : Content) → IsReposted db sysno newer before a → IsReposted db sysno newer before b → a ≡ b
one_reposted db sysno newer before a b left right = same_content a b left.rising right.rising (λ d key p. by d key p (told_by int_cmp_total integers_apart d db) (told_by nat_cmp_total numbers_apart p.sysno sysno))
  where
    by_others : (d : ℤ) (key : Key) (p : Posting) → ¬ ((d ≡ db) × (p.sysno ≡ sysno)) → Has (a d key) p ↔ Has (b d key) p
    by_others d key p other =
        let one = left.others d key p other in
        let two = right.others d key p other in
        (λ h. two.1 (one.0 h), λ h. one.1 (two.0 h))

    place_of : Posting → Place
    place_of p = record { seq = p.seq; pos = p.pos }

    same_posting : (p : Posting) → p.sysno ≡ sysno → p ≡ posting_at sysno (place_of p)
    same_posting p number i = record { sysno = number i; seq = p.seq; pos = p.pos }

    by_part : (d : ℤ) (key : Key) (p : Posting) → d ≡ db → p ≡ posting_at sysno (place_of p) → Has (a d key) p ↔ Has (b d key) p
    by_part d key p same is =
        let one = left.part key (place_of p) in
        let two = right.part key (place_of p) in
        let both : Has (a db key) (posting_at sysno (place_of p)) ↔ Has (b db key) (posting_at sysno (place_of p)) = (λ h. two.1 (one.0 h), λ h. one.1 (two.0 h)) in
        let line : (Has (a db key) (posting_at sysno (place_of p)) ↔ Has (b db key) (posting_at sysno (place_of p))) ≡ (Has (a d key) p ↔ Has (b d key) p) =
        λ i. Has (a (sym same i) key) (sym is i) ↔ Has (b (sym same i) key) (sym is i) in
        subst (λ (X : Type 0). X) line both

    by : (d : ℤ) (key : Key) (p : Posting) → (d ≡ db) ⊎ (d ≢ db) → (p.sysno ≡ sysno) ⊎ (p.sysno ≢ sysno) → Has (a d key) p ↔ Has (b d key) p
    by d key p (inl same) (inl number) = by_part d key p same (same_posting p number)
    by d key p (inl same) (inr differs) = by_others d key p (λ h. differs h.1)
    by d key p (inr other) number = by_others d key p (λ h. other h.0)

-- a key that is still to be changed has its elder places
pub still_old : (db : ℤ) (sysno : ℕ) (elder newer : List Occurrence) (done rest : List ChangedKey) (c : ChangedKey) (content : Content) → HasRisingLists content
    → AreChangedKeys elder newer (done ++ c ∷ rest) → ArePostingsOf sysno elder (content db) → ArePlacesOf sysno (old_in c) (moved db sysno done content db (key_in c))
still_old db sysno elder newer done rest c content up are was place =
    let still = moved_beside db sysno done content up (key_in c) (not_yet done are.once) (posting_at sysno place) in
    let told = (are.old c (contains_had (done ++ c ∷ rest) c (in_middle done))).each place in
    let before = was (key_in c) place in
    (λ h. still.1 (before.1 (told.0 h)), λ h. told.1 (before.0 (still.0 h)))
  where
    in_middle : (done : List ChangedKey) → Has (done ++ c ∷ rest) c
    in_middle [] = inl refl
    in_middle (first ∷ done) = inr (in_middle done)

    not_yet : (done : List ChangedKey) → IsStrictlySortedBy key_order (map key_in (done ++ c ∷ rest)) → ¬ Has (map key_in done) (key_in c)
    not_yet [] once there = there
    not_yet (first ∷ done) once (inl same) = first_alone (key_in first) (map key_in (done ++ c ∷ rest)) once (subst (Has (map key_in (done ++ c ∷ rest))) same (mapped_has key_in (done ++ c ∷ rest) c (in_middle done)))
    not_yet (first ∷ done) once (inr later) = not_yet done (later_rise (key_in first) (map key_in (done ++ c ∷ rest)) once) later

pub keeps_then : (old mid new : Trees) → KeepsLists old mid → KeepsLists mid new → KeepsLists old new
keeps_then old mid new one two = (two.0 ∙ one.0, two.1 ∙ one.1, two.2 ∙ one.2)
