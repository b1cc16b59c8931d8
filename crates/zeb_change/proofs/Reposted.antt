-- The content in which one record has other occurrences.
use Rattle.zeb_change.proofs.Cited.{◌≡◌, ◌≢◌, ◌⊎◌, ◌↔◌, ℕ, ℤ, List, [], ◌∷◌, inl, inr, refl, sym, ap, subst, Contains, Has, has_contained, contains_had, Key, Occurrence, key_total, keys_apart, Place, Content, HasRisingLists, posting_at, posting_cmp, IsChangedAt, Posting, told_by, changed_at, change_is, occurrence_at, IsReposted, IsStrictlySortedBy}
use Rattle.zeb_register.proofs.ContentChanges.{choose}
use Rattle.zeb_change.proofs.StoredLemmas.{told_id}

place_of : Occurrence → Place
place_of o = record { seq = o.seq; pos = o.pos }

-- the places of the key
pick : (o : Occurrence) (key : Key) → (o.key ≡ key) ⊎ (o.key ≢ key) → List Place → List Place
pick o key (inl same) more = place_of o ∷ more
pick o key (inr differs) more = more

pub places_in : List Occurrence → Key → List Place
places_in [] key = []
places_in (o ∷ rest) key = pick o key (told_by key_total keys_apart o.key key) (places_in rest key)

placed : (o : Occurrence) (rest : List Occurrence) (key : Key) (place : Place) → Has (places_in rest key) place ↔ Has rest (occurrence_at key place) → (told : (o.key ≡ key) ⊎ (o.key ≢ key))
    → Has (pick o key told (places_in rest key)) place ↔ ((occurrence_at key place ≡ o) ⊎ Has rest (occurrence_at key place))
unfolding pick place_of
placed o rest key place more (inl same) = (
  λ h. elim h [
    | inl is ↦ inl (λ i. record { key = sym same i; seq = (is i).seq; pos = (is i).pos })
    | inr later ↦ inr (more.0 later)
  ],
  λ h. elim h [
    | inl is ↦ inl (λ i. record { seq = (is i).seq; pos = (is i).pos })
    | inr later ↦ inr (more.1 later)
  ],
)
placed o rest key place more (inr differs) = (
  λ h. inr (more.0 h),
  λ h. elim h [
    | inl is ↦ absurd (differs (ap (λ (x : Occurrence). x.key) (sym is)))
    | inr later ↦ more.1 later
  ],
)

pub has_place : (occurrences : List Occurrence) (key : Key) (place : Place) → Has (places_in occurrences key) place ↔ Has occurrences (occurrence_at key place)
unfolding places_in
has_place [] key place = (λ h. h, λ h. h)
has_place (o ∷ rest) key place = placed o rest key place (has_place rest key place) (told_by key_total keys_apart o.key key)

pub reposted : ℤ → ℕ → List Occurrence → Content → Content
reposted db sysno newer before d key = choose (told_id d db) (changed_at db key sysno (places_in newer key) before db key) (before d key)

pub reposted_is : (db : ℤ) (sysno : ℕ) (newer : List Occurrence) (before : Content) → HasRisingLists before → IsReposted db sysno newer before (reposted db sysno newer before)
unfolding reposted choose
reposted_is db sysno newer before rising = record {
  rising = λ d key. rises d key (told_id d db);
  part = λ key place. part key place (told_id db db);
  others = λ d key p differs. others d key p (told_id d db) differs;
}
  where
    change : (key : Key) → IsChangedAt db key sysno (places_in newer key) before (changed_at db key sysno (places_in newer key) before)
    change key = change_is db key sysno (places_in newer key) before rising

    rises : (d : ℤ) (key : Key) (told : (d ≡ db) ⊎ (d ≢ db)) → IsStrictlySortedBy posting_cmp (choose told (changed_at db key sysno (places_in newer key) before db key) (before d key))
    rises d key (inl here) = (change key).rising db key
    rises d key (inr other) = rising d key

    part : (key : Key) (place : Place) (told : (db ≡ db) ⊎ (db ≢ db))
        → Has (choose told (changed_at db key sysno (places_in newer key) before db key) (before db key)) (posting_at sysno place) ↔ Contains newer (occurrence_at key place)
    part key place (inl here) =
        let is = (change key).part place in
        let there = has_place newer key place in (
          λ h. contains_had newer (occurrence_at key place) (there.0 (is.1 h)),
          λ h. is.0 (there.1 (has_contained newer (occurrence_at key place) h)),
        )
    part key place (inr other) = absurd (other refl)

    others : (d : ℤ) (key : Key) (p : Posting) (told : (d ≡ db) ⊎ (d ≢ db)) → ¬ ((d ≡ db) × (p.sysno ≡ sysno))
        → Has (choose told (changed_at db key sysno (places_in newer key) before db key) (before d key)) p ↔ Has (before d key) p
    others d key p (inl here) differs =
        let is = (change key).others db key p (λ h. differs (here, h.2)) in (
          λ h. subst (λ x. Has (before x key) p) (sym here) (is.0 h),
          λ h. is.1 (subst (λ x. Has (before x key) p) here h),
        )
    others d key p (inr other) differs = (λ h. h, λ h. h)
