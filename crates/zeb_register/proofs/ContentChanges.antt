-- Contents that differ in one place: a content that is changed at one key, or from which a database is taken, is there, and there is one; and a content is told by its postings.
use Rattle.zeb_register.proofs.Cited.{has_filtered, has_kept, has_mapped, mapped_has, Has, ◌≡◌, ◌≢◌, ◌↔◌, ◌⊎◌, ℕ, ℤ, Bool, true, not, List, [], map, filter, refl, sym, ap, subst, inl, inr, Equal, nat_eq, int_cmp, arith, nat_tests, int_ranked, IsTotalOrder, then_total, on_total, nat_cmp_total, int_cmp_total, Key, Place, Posting, key_total, keys_apart, both_equal, numbers_apart, Content, posting_cmp, HasRisingLists, posting_at, ArePlacesOf, IsChangedAt, IsWithout, place_cmp}
use Rattle.std.specs.List.Sorted.{IsStrictlySortedBy}
use Rattle.zeb_register.proofs.RisingLists.{same_list, kept_rises, told_by, with_all, all_there, all_rise}

-- ---- orders that tell apart

pub posting_total : IsTotalOrder posting_cmp
posting_total =
    then_total (on_total (λ (p : Posting). p.sysno) nat_cmp_total)
    (then_total (on_total (λ (p : Posting). p.seq) nat_cmp_total) (on_total (λ (p : Posting). p.pos) nat_cmp_total))

pub place_total : IsTotalOrder place_cmp
place_total = then_total (on_total (λ (p : Place). p.seq) nat_cmp_total) (on_total (λ (p : Place). p.pos) nat_cmp_total)

pub integers_apart : (m n : ℤ) → int_cmp m n ≡ Equal → m ≡ n
integers_apart m n e = int_ranked m n Equal (sym e)

pub postings_apart : (p q : Posting) → posting_cmp p q ≡ Equal → p ≡ q
postings_apart p q e =
    let first = both_equal _ _ e in
    let second = both_equal _ _ first.1 in
    same p q (numbers_apart _ _ first.0) (numbers_apart _ _ second.0) (numbers_apart _ _ second.1)
  where
    same : (p q : Posting) → p.sysno ≡ q.sysno → p.seq ≡ q.seq → p.pos ≡ q.pos → p ≡ q
    same p q a b c i = record { sysno = a i; seq = b i; pos = c i }

-- the list of this key in this database, or another
pub told_spot : (d db : ℤ) (k key : Key) → ((d ≡ db) × (k ≡ key)) ⊎ ¬ ((d ≡ db) × (k ≡ key))
told_spot d db k key = elim (told_by int_cmp_total integers_apart d db) [
  | inr other ↦ inr (λ h. other h.0)
  | inl one ↦ elim (told_by key_total keys_apart k key) [ inr other ↦ inr (λ h. other h.1) | inl two ↦ inl (one, two) ]
]

-- ---- contents

-- a content is told by its postings
pub same_content : (a b : Content) → HasRisingLists a → HasRisingLists b → ((d : ℤ) (k : Key) (p : Posting) → Has (a d k) p ↔ Has (b d k) p) → a ≡ b
same_content a b up down same = λ i d k. same_list posting_total (a d k) (b d k) (up d k) (down d k) (λ p. (same d k p).0) (λ p. (same d k p).1) i

-- ---- one key changed

other_record : ℕ → Posting → Bool
other_record sysno p = not (nat_eq p.sysno sysno)

is_other : (sysno : ℕ) (p : Posting) → other_record sysno p ≡ true → p.sysno ≢ sysno
unfolding other_record
is_other sysno p passes same = grind (arith, nat_tests)

other_is : (sysno : ℕ) (p : Posting) → p.sysno ≢ sysno → other_record sysno p ≡ true
unfolding other_record
other_is sysno p differs = grind (arith, nat_tests)

-- the list with these places of the record in place of its own
pub at_sysno : ℕ → List Place → List Posting → List Posting
at_sysno sysno places list = with_all posting_total postings_apart (map (posting_at sysno) places) (filter (other_record sysno) list)

-- one list or the other, as it was told
unfoldable pub choose : {A B : Type 0} → A ⊎ B → List Posting → List Posting → List Posting
choose (inl here) new old = new
choose (inr other) new old = old

-- the content with these places of the key in the record
pub changed_at : ℤ → Key → ℕ → List Place → Content → Content
changed_at db key sysno places old d k = choose (told_spot d db k key) (at_sysno sysno places (old d k)) (old d k)

pub at_sysno_rises : (sysno : ℕ) (places : List Place) (list : List Posting) → IsStrictlySortedBy posting_cmp list → IsStrictlySortedBy posting_cmp (at_sysno sysno places list)
unfolding at_sysno
at_sysno_rises sysno places list up = all_rise posting_total postings_apart (map (posting_at sysno) places) (filter (other_record sysno) list) (kept_rises posting_total (other_record sysno) list up)

pub at_sysno_part : (sysno : ℕ) (places : List Place) (list : List Posting) → ArePlacesOf sysno places (at_sysno sysno places list)
unfolding at_sysno
at_sysno_part sysno places list place =
    let there = all_there posting_total postings_apart (map (posting_at sysno) places) (filter (other_record sysno) list) (posting_at sysno place) in (
      λ h. there.1 (inr (mapped_has (posting_at sysno) places place h)),
      λ h. elim (there.0 h) [
        | inl left ↦ absurd (is_other sysno (posting_at sysno place) (has_filtered (other_record sysno) list (posting_at sysno place) left).1 refl)
        | inr put ↦ let q = has_mapped (posting_at sysno) places (posting_at sysno place) put in
            let same : place ≡ q.0 = λ i. record { seq = (q.2 i).seq; pos = (q.2 i).pos } in
            subst (Has places) (sym same) q.1
      ],
    )

pub at_sysno_others : (sysno : ℕ) (places : List Place) (list : List Posting) (p : Posting) → p.sysno ≢ sysno → Has (at_sysno sysno places list) p ↔ Has list p
unfolding at_sysno
at_sysno_others sysno places list p differs =
    let there = all_there posting_total postings_apart (map (posting_at sysno) places) (filter (other_record sysno) list) p in (
      λ h. elim (there.0 h) [
        | inl left ↦ (has_filtered (other_record sysno) list p left).0
        | inr put ↦ let q = has_mapped (posting_at sysno) places p put in absurd (differs (ap (λ (r : Posting). r.sysno) q.2))
      ],
      λ h. there.1 (inl (has_kept (other_record sysno) list p h (other_is sysno p differs))),
    )

pub change_is : (db : ℤ) (key : Key) (sysno : ℕ) (places : List Place) (content : Content) → HasRisingLists content → IsChangedAt db key sysno places content (changed_at db key sysno places content)
unfolding changed_at choose
change_is db key sysno places content up = record {
  rising = λ d k. rises d k (told_spot d db k key);
  part = here (told_spot db db key key);
  others = λ d k p differs. there d k p (told_spot d db k key) differs;
}
  where
    rises : (d : ℤ) (k : Key) (at : ((d ≡ db) × (k ≡ key)) ⊎ ¬ ((d ≡ db) × (k ≡ key))) → IsStrictlySortedBy posting_cmp (choose at (at_sysno sysno places (content d k)) (content d k))
    rises d k (inl same) = at_sysno_rises sysno places (content d k) (up d k)
    rises d k (inr other) = up d k

    here : (at : ((db ≡ db) × (key ≡ key)) ⊎ ¬ ((db ≡ db) × (key ≡ key))) → ArePlacesOf sysno places (choose at (at_sysno sysno places (content db key)) (content db key))
    here (inl same) = at_sysno_part sysno places (content db key)
    here (inr other) = absurd (other (refl, refl))

    there : (d : ℤ) (k : Key) (p : Posting) (at : ((d ≡ db) × (k ≡ key)) ⊎ ¬ ((d ≡ db) × (k ≡ key))) → ¬ ((d ≡ db) × (k ≡ key) × (p.sysno ≡ sysno))
        → Has (choose at (at_sysno sysno places (content d k)) (content d k)) p ↔ Has (content d k) p
    there d k p (inl same) differs = at_sysno_others sysno places (content d k) p (λ number. differs (same.0, same.1, number))
    there d k p (inr other) differs = (λ h. h, λ h. h)

-- a content is changed in one way
pub one_change : (db : ℤ) (key : Key) (sysno : ℕ) (places : List Place) (content a b : Content) → IsChangedAt db key sysno places content a → IsChangedAt db key sysno places content b → a ≡ b
one_change db key sysno places content a b left right = same_content a b left.rising right.rising (λ d k p. by d k p (told_spot d db k key) (told_by nat_cmp_total numbers_apart p.sysno sysno))
  where
    by_others : (d : ℤ) (k : Key) (p : Posting) → ¬ ((d ≡ db) × (k ≡ key) × (p.sysno ≡ sysno)) → Has (a d k) p ↔ Has (b d k) p
    by_others d k p differs =
        let one = left.others d k p differs in
        let two = right.others d k p differs in
        (λ h. two.1 (one.0 h), λ h. one.1 (two.0 h))

    by_part : (q : Place) → Has (a db key) (posting_at sysno q) ↔ Has (b db key) (posting_at sysno q)
    by_part q = (λ h. (right.part q).0 ((left.part q).1 h), λ h. (left.part q).0 ((right.part q).1 h))

    place_of : Posting → Place
    place_of p = record { seq = p.seq; pos = p.pos }

    same_posting : (p : Posting) → p.sysno ≡ sysno → p ≡ posting_at sysno (place_of p)
    same_posting p number i = record { sysno = number i; seq = p.seq; pos = p.pos }

    at_part : (d : ℤ) (k : Key) (p : Posting) → (d ≡ db) × (k ≡ key) → p ≡ posting_at sysno (place_of p) → Has (a d k) p ↔ Has (b d k) p
    at_part d k p same is =
        let moved : (Has (a db key) (posting_at sysno (place_of p)) ↔ Has (b db key) (posting_at sysno (place_of p))) ≡ (Has (a d k) p ↔ Has (b d k) p) =
        λ i. Has (a (sym same.0 i) (sym same.1 i)) (sym is i) ↔ Has (b (sym same.0 i) (sym same.1 i)) (sym is i) in
        subst (λ (X : Type 0). X) moved (by_part (place_of p))

    by : (d : ℤ) (k : Key) (p : Posting) → ((d ≡ db) × (k ≡ key)) ⊎ ¬ ((d ≡ db) × (k ≡ key)) → (p.sysno ≡ sysno) ⊎ (p.sysno ≢ sysno) → Has (a d k) p ↔ Has (b d k) p
    by d k p (inl same) (inl number) = at_part d k p same (same_posting p number)
    by d k p (inl same) (inr differs) = by_others d k p (λ h. differs h.2)
    by d k p (inr other) number = by_others d k p (λ h. other (h.0, h.1))

-- ---- one list changed

-- the content with another list of the key
pub with_list : ℤ → Key → List Posting → Content → Content
with_list db key list old d k = choose (told_spot d db k key) list (old d k)

pub with_list_here : (db : ℤ) (key : Key) (list : List Posting) (old : Content) → with_list db key list old db key ≡ list
unfolding with_list choose
with_list_here db key list old = at (told_spot db db key key)
  where
    at : (spot : ((db ≡ db) × (key ≡ key)) ⊎ ¬ ((db ≡ db) × (key ≡ key))) → choose spot list (old db key) ≡ list
    at (inl same) = refl
    at (inr other) = absurd (other (refl, refl))

pub with_list_there : (db : ℤ) (key : Key) (list : List Posting) (old : Content) (d : ℤ) (k : Key) → ¬ ((d ≡ db) × (k ≡ key)) → with_list db key list old d k ≡ old d k
unfolding with_list choose
with_list_there db key list old d k differs = at (told_spot d db k key)
  where
    at : (spot : ((d ≡ db) × (k ≡ key)) ⊎ ¬ ((d ≡ db) × (k ≡ key))) → choose spot list (old d k) ≡ old d k
    at (inl same) = absurd (differs same)
    at (inr other) = refl

-- ---- a database taken

-- the content without the lists of the database
pub without : ℤ → Content → Content
without db old d k = choose (told_by int_cmp_total integers_apart d db) [] (old d k)

pub without_is : (db : ℤ) (content : Content) → HasRisingLists content → IsWithout db content (without db content)
unfolding without choose IsStrictlySortedBy
without_is db content up = record { rising = λ d k. rises d k (told_by int_cmp_total integers_apart d db); left = λ d k p. there d k p (told_by int_cmp_total integers_apart d db) }
  where
    rises : (d : ℤ) (k : Key) (at : (d ≡ db) ⊎ (d ≢ db)) → IsStrictlySortedBy posting_cmp (choose at [] (content d k))
    rises d k (inl same) = tt
    rises d k (inr other) = up d k

    there : (d : ℤ) (k : Key) (p : Posting) (at : (d ≡ db) ⊎ (d ≢ db)) → Has (choose at [] (content d k)) p ↔ (Has (content d k) p × (d ≢ db))
    there d k p (inl same) = (λ h. absurd h, λ h. absurd (h.1 same))
    there d k p (inr other) = (λ h. (h, other), λ h. h.0)

-- a database is taken in one way
pub one_without : (db : ℤ) (content a b : Content) → IsWithout db content a → IsWithout db content b → a ≡ b
one_without db content a b left right =
    same_content a b left.rising right.rising (λ d k p. (λ h. (right.left d k p).1 ((left.left d k p).0 h), λ h. (left.left d k p).1 ((right.left d k p).0 h)))
