-- Lists that a sort and a `dedup` put in order.
use Rattle.zeb_search.proofs.Cited.{◌≡◌, ◌∙◌, ℕ, zero, suc, ◌+◌, ◌&&◌, Bool, false, get_or, List, [], ◌∷◌, map, Ordering, Less, Greater, refl, sym, ap, subst, arith, nat_eq, IsTotalOrder, nat_cmp_total, IsFiltered, DiffersFromLast, IsPermutation, IsSorted, nat_cmp, ordering_then, eq_by_cmp, is_lt, nat_tests, IsPermutation-refl, Has, has_contained, contains_had, has_mapped, mapped_has, TellsApart, rising_from_dedup, members_from_dedup, numbers_apart, posting_cmp, Posting, posting_total, postings_apart, AreJust, AreNumbers, ArePostings, HasPosting}
use Rattle.std.specs.List.Sorted.{IsStrictlySortedBy}

-- ---- after a sort

module _ {X : Type 0} {E : X → X → Bool} {R : X → X → Ordering} (o : IsTotalOrder R) (ties : (x y : X) → E x y ≡ eq_by_cmp R x y) (apart : TellsApart R) where
  just_members : (xs ys zs : List X) → IsPermutation xs ys → IsSorted R ys → IsFiltered (DiffersFromLast E) [] ys zs → AreJust R (Has xs) zs
  just_members xs ys zs moved sorted filtered =
      let same = members_from_dedup o ties apart xs ys zs moved filtered in
      record {
        rising = rising_from_dedup o ties ys zs sorted filtered;
        each = λ x. (
          λ h. has_contained xs x ((same x).0 (contains_had zs x h)),
          λ h. has_contained zs x ((same x).1 (contains_had xs x h)),
        );
      }

number_ties : (m n : ℕ) → nat_eq m n ≡ eq_by_cmp nat_cmp m n
number_ties m n = grind (arith, nat_tests)

pub numbers_in_order : (xs ys zs : List ℕ) → IsPermutation xs ys → IsSorted nat_cmp ys → IsFiltered (DiffersFromLast nat_eq) [] ys zs → AreNumbers (Has xs) zs
numbers_in_order = just_members nat_cmp_total number_ties numbers_apart

abbrev pub posting_eq : Posting → Posting → Bool
posting_eq p q = nat_eq p.sysno q.sysno && (nat_eq p.seq q.seq && nat_eq p.pos q.pos)

posting_ties : (p q : Posting) → posting_eq p q ≡ eq_by_cmp posting_cmp p q
posting_ties p q = grind (arith, nat_tests)

pub postings_sorted : (xs ys zs : List Posting) → IsPermutation xs ys → IsSorted posting_cmp ys → IsFiltered (DiffersFromLast posting_eq) [] ys zs → ArePostings (Has xs) zs
postings_sorted = just_members posting_total posting_ties postings_apart

then_groups : (a b c : Ordering) → ordering_then (ordering_then a b) c ≡ ordering_then a (ordering_then b c)
then_groups Less b c = refl
then_groups _ b c = refl

abbrev pub tuple_cmp : Posting → Posting → Ordering
tuple_cmp p q = ordering_then (ordering_then (nat_cmp p.sysno q.sysno) (nat_cmp p.seq q.seq)) (nat_cmp p.pos q.pos)

same_order : (p q : Posting) → is_lt (posting_cmp p q) ≡ is_lt (tuple_cmp p q)
same_order p q = sym (ap is_lt (then_groups (nat_cmp p.sysno q.sysno) (nat_cmp p.seq q.seq) (nat_cmp p.pos q.pos)))

-- sorted by the tuple of the three numbers
pub tuples_sorted : (ys : List Posting) → IsSorted tuple_cmp ys → IsSorted posting_cmp ys
tuples_sorted ys sorted k d from within = same_order (get_or ys (k + 1) d) (get_or ys k d) ∙ sorted k d from within

-- ---- the numbers of postings

-- numbers in order, of those that a first `dedup` left
pub numbers_from_any : (postings : List Posting) (all fewer numbers : List ℕ) → all ≡ map (λ (p : Posting). p.sysno) postings → IsFiltered (DiffersFromLast nat_eq) [] all fewer
    → AreNumbers (Has fewer) numbers → AreNumbers (HasPosting postings) numbers
numbers_from_any postings all fewer numbers mapped filtered are =
    let number = λ (p : Posting). p.sysno in
    let same = members_from_dedup nat_cmp_total number_ties numbers_apart all all fewer (IsPermutation-refl all) filtered in
    record {
      rising = are.rising;
      each = λ n. (
        λ h. let of = has_mapped number postings n (rw mapped at (has_contained all n ((same n).0 (contains_had fewer n ((are.each n).0 h))))) in (of.0, of.1, sym of.2),
        λ h. (are.each n).1 (has_contained fewer n ((same n).1 (contains_had all n (rw mapped (subst (Has (map number postings)) h.2 (mapped_has number postings h.0 h.1)))))),
      );
    }

first_less : (x y : Ordering) → ordering_then x y ≡ Less → (x ≡ Greater → ⊥)
first_less Less y h is = cc
first_less _ y h is = cc

turned_less : (a b : ℕ) → (nat_cmp a b ≡ Greater → ⊥) → is_lt (nat_cmp b a) ≡ false
turned_less a b = grind (arith, nat_tests)

numbers_sorted : (postings : List Posting) → IsStrictlySortedBy posting_cmp postings → IsSorted nat_cmp (map (λ (p : Posting). p.sysno) postings)
unfolding IsStrictlySortedBy
numbers_sorted [] up k d from within = absurd (omega (arith, within))
numbers_sorted (p ∷ []) up k d from within = absurd (omega (arith, within))
numbers_sorted (p ∷ (q ∷ rest)) up zero d from within =
    turned_less p.sysno q.sysno (first_less (nat_cmp p.sysno q.sysno) (ordering_then (nat_cmp p.seq q.seq) (nat_cmp p.pos q.pos)) up.0.0)
numbers_sorted (p ∷ (q ∷ rest)) up (suc k) d from within = (let next : suc k + 1 ≡ suc (k + 1) = omega arith in rw next (numbers_sorted (q ∷ rest) up.1 k d (omega arith) (omega (arith, within))))

pub numbers_from_dedup : (postings : List Posting) (all numbers : List ℕ) → all ≡ map (λ (p : Posting). p.sysno) postings → IsFiltered (DiffersFromLast nat_eq) [] all numbers
    → IsStrictlySortedBy posting_cmp postings → AreNumbers (HasPosting postings) numbers
numbers_from_dedup postings all numbers mapped filtered up =
    let number = λ (p : Posting). p.sysno in
    let sorted : IsSorted nat_cmp all = rw mapped (numbers_sorted postings up) in
    let are = numbers_in_order all all numbers (IsPermutation-refl all) sorted filtered in
    record {
      rising = are.rising;
      each = λ n. (
        λ h. let of = has_mapped number postings n (rw mapped at ((are.each n).0 h)) in (of.0, of.1, sym of.2),
        λ h. (are.each n).1 (rw mapped (subst (Has (map number postings)) h.2 (mapped_has number postings h.0 h.1))),
      );
    }
