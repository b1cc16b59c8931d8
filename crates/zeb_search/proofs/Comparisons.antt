-- Texts compared by their bytes.
use Rattle.zeb_search.proofs.Cited.{◌≡◌, ◌↔◌, ◌⊎◌, ◌∙◌, ◌++◌, ◌<◌, ℕ, List, [], ◌∷◌, IsTrue, true, false, refl, sym, ap, subst, inl, inr, Ordering, Less, Equal, Greater, arith, slice_cmp, nat_list_cmp_total, nat_cmp, is_lt, is_le, is_eq, is_ge, is_gt, ordering_reverse, ordering_then, nat_tests, tied_itself, never_back, never_itself, same_bytes, above_least, least_above, Precedes, StandsInOrder}
use Rattle.zeb_query.specs.declared.plans.Relation.TheVariants as relation

pub turned : (a b : List ℕ) → slice_cmp nat_cmp a b ≡ Greater → Precedes b a
turned a b h = nat_list_cmp_total.antisymm b a ∙ ap ordering_reverse h

pub turned_back : (a b : List ℕ) → Precedes b a → slice_cmp nat_cmp a b ≡ Greater
turned_back a b h = nat_list_cmp_total.antisymm a b ∙ ap ordering_reverse h

pub tied_back : (a b : List ℕ) → a ≡ b → slice_cmp nat_cmp a b ≡ Equal
tied_back a b e = ap (slice_cmp nat_cmp a) (sym e) ∙ tied_itself nat_list_cmp_total a

-- ---- a test of how two texts compare, and how they stand

pub le_stands : (a b : List ℕ) (o : Ordering) → o ≡ slice_cmp nat_cmp a b → IsTrue (is_le o) ↔ StandsInOrder relation.LessOrEqual a b
le_stands a b Less e = (λ _. inl (sym e), λ _. refl)
le_stands a b Equal e = (λ _. inr (same_bytes a b (sym e)), λ _. refl)
le_stands a b Greater e = (λ h. absurd (cc), λ h. elim h [ inl less ↦ absurd (cc) | inr same ↦ absurd (let t = tied_back a b same in cc) ])

pub eq_stands : (a b : List ℕ) (o : Ordering) → o ≡ slice_cmp nat_cmp a b → IsTrue (is_eq o) ↔ StandsInOrder relation.Equal a b
eq_stands a b Equal e = (λ _. same_bytes a b (sym e), λ _. refl)
eq_stands a b _ e = (λ h. absurd (cc), λ h. absurd (let t = tied_back a b h in cc))

pub ge_stands : (a b : List ℕ) (o : Ordering) → o ≡ slice_cmp nat_cmp a b → IsTrue (is_ge o) ↔ StandsInOrder relation.GreaterOrEqual a b
ge_stands a b Less e = (λ h. absurd (cc), λ h. elim h [ inl more ↦ absurd (let t = turned_back a b more in cc) | inr same ↦ absurd (let t = tied_back a b same in cc) ])
ge_stands a b Equal e = (λ _. inr (same_bytes a b (sym e)), λ _. refl)
ge_stands a b Greater e = (λ _. inl (turned a b (sym e)), λ _. refl)

pub gt_stands : (a b : List ℕ) (o : Ordering) → o ≡ slice_cmp nat_cmp a b → IsTrue (is_gt o) ↔ StandsInOrder relation.Greater a b
gt_stands a b Greater e = (λ _. turned a b (sym e), λ _. refl)
gt_stands a b _ e = (λ h. absurd (cc), λ h. absurd (let t = turned_back a b h in cc))

-- ---- the first numbers and bytes that differ decide

pub ranked_numbers : (a b : ℕ) (rest : Ordering) → ordering_then (nat_cmp a b) rest ≡ Less → (a < b) ⊎ ((a ≡ b) × (rest ≡ Less))
ranked_numbers a b rest h = go (nat_cmp a b) refl h
  where
    go : (o : Ordering) → nat_cmp a b ≡ o → ordering_then o rest ≡ Less → (a < b) ⊎ ((a ≡ b) × (rest ≡ Less))
    go Less is said = inl (grind (arith, nat_tests))
    go Equal is said = inr ((let e : a ≡ b = grind (arith, nat_tests) in e), said)
    go Greater is said = absurd (cc)

-- ---- texts in order

pub never_after : (a b : List ℕ) → Precedes a b → ¬ Precedes b a
never_after = never_back nat_list_cmp_total

pub never_before_itself : (a : List ℕ) → ¬ Precedes a a
never_before_itself = never_itself nat_list_cmp_total

pub precedes_then : (a b c : List ℕ) → Precedes a b → Precedes b c → Precedes a c
precedes_then = nat_list_cmp_total.trans

-- what comes before a text comes before each that doesn't
pub below_others : (a b s : List ℕ) → Precedes a s → ¬ Precedes b s → Precedes a b
below_others a b s up low = by (slice_cmp nat_cmp b s) refl
  where
    by : (o : Ordering) → slice_cmp nat_cmp b s ≡ o → Precedes a b
    by Less is = absurd (low is)
    by Equal is = subst (Precedes a) (sym (same_bytes b s is)) up
    by Greater is = precedes_then a s b up (turned b s is)

-- a text comes before the one with a NUL behind it
pub below_next : (a : List ℕ) → Precedes a (a ++ 0 ∷ [])
below_next a = by (slice_cmp nat_cmp a (a ++ 0 ∷ [])) refl
  where
    by : (o : Ordering) → slice_cmp nat_cmp a (a ++ 0 ∷ []) ≡ o → Precedes a (a ++ 0 ∷ [])
    by Less is = is
    by _ is = absurd (never_before_itself a (least_above a a (ap is_lt is)))

-- the empty text comes first
pub none_before : (a : List ℕ) → ¬ Precedes a []
none_before [] h = let e : Equal ≡ Less = h in cc
none_before (x ∷ xs) h = let e : Greater ≡ Less = h in cc

-- between a text and the one with a NUL behind it there is none
pub none_between : (a b : List ℕ) → Precedes a b → ¬ Precedes b (a ++ 0 ∷ [])
none_between a b up h = let e : true ≡ false = sym (ap is_lt h) ∙ above_least b a up in cc

-- a text doesn't come before what it begins with
pub not_before_front : (front rest : List ℕ) → ¬ Precedes (front ++ rest) front
not_before_front [] rest h = none_before rest h
not_before_front (c ∷ front) rest h = elim (ranked_numbers c c (slice_cmp nat_cmp (front ++ rest) front) h) [ inl low ↦ omega (arith, low) | inr same ↦ not_before_front front rest same.1 ]

-- what stands between a text and one that begins with it begins with it too
pub begins_between : (front between rest : List ℕ) → Precedes front between → Precedes between (front ++ rest) → (more : List ℕ) × (between ≡ front ++ more)
begins_between [] between rest up down = (between, refl)
begins_between (c ∷ front) [] rest up down = absurd (let e : Greater ≡ Less = up in cc)
begins_between (c ∷ front) (d ∷ between) rest up down =
    elim (ranked_numbers c d (slice_cmp nat_cmp front between) up) [
      | inl low ↦ elim (ranked_numbers d c (slice_cmp nat_cmp between (front ++ rest)) down) [ inl back ↦ absurd (omega (arith, low, back)) | inr same ↦ absurd (omega (arith, low, same.0)) ]
      | inr same ↦ elim (ranked_numbers d c (slice_cmp nat_cmp between (front ++ rest)) down) [
        | inl back ↦ absurd (omega (arith, same.0, back))
        | inr alike ↦
            let inner = begins_between front between rest same.1 alike.1 in
            (inner.0, ap (λ x. x ∷ between) (sym same.0) ∙ ap (λ l. c ∷ l) inner.1)
      ]
    ]
