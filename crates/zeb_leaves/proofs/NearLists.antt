-- Terms nearest to a text, counted until there are enough: how many there are.
use Rattle.zeb_leaves.proofs.Cited.{Has, has_either, has_left, has_right, ◌≡◌, ◌≢◌, ◌↔◌, ◌∙◌, ◌+◌, ◌<◌, ◌≤◌, ◌++◌, ◌∷◌, ℕ, List, [], length, refl, sym, ap, subst, inl, inr, arith, length-append, sum_by, Ordering, Less, never_itself, IsTotalOrder, Entry, TermCount, cases_lt, AreEnough, CountsIn, cut_rises, never_back, snoc_of, term_with}
use Rattle.std.proofs.lemmas.List.{append_assoc, append-nil}
use Rattle.std.specs.List.Sorted.{IsStrictlySortedBy}

last_of : {X : Type 0} (xs : List X) → 1 ≤ length xs → (front : List X) × (last : X) × (xs ≡ front ++ last ∷ [])
last_of [] some = absurd (omega arith)
last_of (x ∷ xs) some = snoc_of x xs

pub some_entry : (own : List Entry) → 1 ≤ sum_by (λ (e : Entry). e.records) own → (e : Entry) × Has own e
some_entry [] some = absurd (let none : sum_by (λ (e : Entry). e.records) [] ≡ 0 = refl in omega (arith, some, none))
some_entry (e ∷ own) some = (e, inl refl)

-- what stands in front of an item of a list in order is what comes before it
pub in_front : {E : Entry → Entry → Ordering} (entries : IsTotalOrder E) (front rest : List Entry) (e : Entry) → IsStrictlySortedBy E (front ++ e ∷ rest) → (x : Entry)
    → Has front x ↔ (Has (front ++ e ∷ rest) x × (E x e ≡ Less))
in_front {E} entries front rest e up x = (
  λ h. (has_left front (e ∷ rest) x h, cut_rises E front (e ∷ rest) up x e h (inl refl)),
  λ it. elim (has_either front (e ∷ rest) x it.0) [
    | inl first ↦ first
    | inr here ↦ absurd (elim here [
      | inl same ↦ never_itself entries e (subst (λ (y : Entry). E y e ≡ Less) same it.1)
      | inr later ↦ never_back entries x e it.1 (cut_rises E (front ++ e ∷ []) rest (subst (IsStrictlySortedBy E) (sym (append_assoc front (e ∷ []) rest)) up) e x (has_right front (e ∷ []) e (inl refl)) later)
    ])
  ],
)

module _ (n : ℕ) (one : 1 ≤ n) where
  -- there aren't enough of none
  pub none_enough : (term : List ℕ) → ¬ AreEnough n [] term
  none_enough term enough = omega (arith, one, enough.0)

  -- an entry that there aren't enough for makes no more than n of them
  pub still_fits : (old new : List TermCount) (e : Entry) → length old ≤ n → (¬ AreEnough n old e.term) → CountsIn e old new → length new ≤ n
  still_fits old new e fits less (inl it) =
      omega (arith, fits, ap length it.2, ap length it.4, length-append it.0 (it.1 ∷ []), length-append it.0 (term_with it.1.term (it.1.records + e.records) ∷ []))
  still_fits old new e fits less (inr it) = elim (cases_lt (length old) n) [
    | inl low ↦ omega (arith, low, ap length it.2, length-append old (term_with e.term e.records ∷ []))
    | inr full ↦ (let last = last_of old (omega (arith, one, full)) in absurd (less (omega (arith, fits, full), last.0, last.1, last.2, it.0 last.0 last.1 last.2)))
  ]

  -- where there aren't enough for a term, fewer than n of them are of other terms
  pub few_others : (old some : List TermCount) (term : List ℕ) → length old ≤ n → (¬ AreEnough n old term)
      → ((xs ys : List TermCount) → xs ++ ys ≡ old → ((t : TermCount) → Has some t → Has xs t) → length some ≤ length xs)
      → ((t : TermCount) → Has some t → Has old t × (t.term ≢ term)) → length some < n
  few_others old some term fits less bound near = elim (cases_lt (length old) n) [
    | inl low ↦ omega (arith, low, bound old [] (append-nil old) (λ t h. (near t h).0))
    | inr full ↦
        let last = last_of old (omega (arith, one, full)) in
        let front = bound last.0 (last.1 ∷ []) (sym last.2) (λ t h. elim (has_either last.0 (last.1 ∷ []) t (subst (λ (l : List TermCount). Has l t) last.2 (near t h).0)) [
          | inl there ↦ there
          | inr it ↦ elim it [
            | inl same ↦ absurd (less (omega (arith, fits, full), last.0, last.1, last.2, λ equal. (near t h).1 (ap (λ (x : TermCount). x.term) same ∙ equal)))
            | inr none ↦ absurd none
          ]
        ]) in
        omega (arith, fits, front, ap length last.2, length-append last.0 (last.1 ∷ []))
  ]
