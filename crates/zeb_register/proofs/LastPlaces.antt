-- The places of a record put behind all postings of a list: nothing else of it is changed.
use Rattle.zeb_register.proofs.Cited.{◌≡◌, ◌∙◌, ◌<◌, ◌≤◌, ◌/◌, ◌++◌, ◌∷◌, ℕ, true, false, List, [], map, filter, refl, sym, ap, ap₂, subst, inl, inr, arith, Ordering, Less, Equal, Greater, nat_cmp, nat_tests, ordering_then, all_has, has_right, Has, numbers_apart, LiesIn, Posting, posting_cmp, ◌==◌, Bool, cond, nat_lt, append-nil, posting_at, RecordChange, places_in, ComesLast, IsStorableChange, TurnsPlaces}
use Rattle.zeb_register.proofs.CountLemmas.{is_less}
use Rattle.zeb_register.proofs.KeyPlaces.{place_of}
use Rattle.std.specs.List.Sorted.{IsStrictlySortedBy}
use Rattle.zeb_register.proofs.RecordParts.{IsPutTogether, next_lies, places_turned}

-- ---- what a test keeps

kept_all : {X : Type 0} (p : X → Bool) (xs : List X) → ((x : X) → Has xs x → p x ≡ true) → filter p xs ≡ xs
kept_all p [] each = refl
kept_all p (x ∷ xs) each = ap (λ b. cond b (x ∷ filter p xs) (filter p xs)) (each x (inl refl)) ∙ ap (λ l. x ∷ l) (kept_all p xs (λ y h. each y (inr h)))

kept_none : {X : Type 0} (p : X → Bool) (xs : List X) → ((x : X) → Has xs x → p x ≡ false) → filter p xs ≡ []
kept_none p [] each = refl
kept_none p (x ∷ xs) each = ap (λ b. cond b (x ∷ filter p xs) (filter p xs)) (each x (inl refl)) ∙ kept_none p xs (λ y h. each y (inr h))

-- ---- the last of rising postings has the greatest number

no_greater : (p q : Posting) → posting_cmp p q ≡ Less → p.sysno ≤ q.sysno
no_greater p q low = from (nat_cmp p.sysno q.sysno) refl low
  where
    from : (o : Ordering) → nat_cmp p.sysno q.sysno ≡ o → ordering_then o (ordering_then (nat_cmp p.seq q.seq) (nat_cmp p.pos q.pos)) ≡ Less → p.sysno ≤ q.sysno
    from Less is h = omega (arith, is_less p.sysno q.sysno is)
    from Equal is h = omega (arith, numbers_apart p.sysno q.sysno is)
    from Greater is h = absurd (let e : Greater ≡ Less = h in cc)

up_to_last : (front : List Posting) (last : Posting) → IsStrictlySortedBy posting_cmp (front ++ last ∷ []) → (p : Posting) → Has (front ++ last ∷ []) p → p.sysno ≤ last.sysno
unfolding IsStrictlySortedBy
up_to_last [] last up p (inl same) = omega (arith, ap (λ (q : Posting). q.sysno) same)
up_to_last [] last up p (inr none) = absurd none
up_to_last (q ∷ front) last up p (inl same) =
    let low = no_greater q last (all_has (λ r. posting_cmp q r ≡ Less) (front ++ last ∷ []) last up.0 (has_right front (last ∷ []) last (inl refl))) in
    omega (arith, low, ap (λ (r : Posting). r.sysno) same)
up_to_last (q ∷ front) last up p (inr deep) = up_to_last front last up.1 p deep

-- ---- the tests of a list that is put together, where all postings are below the record

is_lower : (m n : ℕ) → m < n → nat_lt m n ≡ true
is_lower m n low = grind (arith, nat_tests)

not_higher : (m n : ℕ) → m < n → nat_lt n m ≡ false
not_higher m n low = grind (arith, nat_tests)

not_level : (m n : ℕ) → m < n → (m == n) ≡ false
not_level m n low = grind (arith, nat_tests)

module _ (change : RecordChange) (list : List Posting) (lies : LiesIn (change.sysno / 256) list) (stored : IsStorableChange change) (last : ComesLast change list) where
  below : (p : Posting) → Has list p → p.sysno < change.sysno
  below p there =
      let end = last.1 in
      let up = subst (IsStrictlySortedBy posting_cmp) end.2 lies.rising in
      omega (arith, up_to_last end.0 end.1 up p (subst (λ l. Has l p) end.2 there), end.3)

  found : places_in change.sysno list ≡ change.old.now
  found = ap (map place_of) (kept_none (λ p. p.sysno == change.sysno) list (λ p h. not_level p.sysno change.sysno (below p h))) ∙ sym last.0

  module _ (next : List Posting) (is : next ≡ list ++ map (posting_at change.sysno) change.new.now) where
    together : IsPutTogether change list next
    together =
        is ∙ ap₂ (λ (a b : List Posting). a ++ b) (sym (kept_all (λ p. nat_lt p.sysno change.sysno) list (λ p h. is_lower p.sysno change.sysno (below p h))))
        (sym (append-nil (map (posting_at change.sysno) change.new.now))
        ∙ ap (λ (b : List Posting). map (posting_at change.sysno) change.new.now ++ b) (sym (kept_none (λ p. nat_lt change.sysno p.sysno) list (λ p h. not_higher p.sysno change.sysno (below p h)))))

    pub last_turned : TurnsPlaces change list next
    last_turned = places_turned change list next lies stored together found

    pub last_lies : LiesIn (change.sysno / 256) next
    last_lies = next_lies change list next lies stored together
