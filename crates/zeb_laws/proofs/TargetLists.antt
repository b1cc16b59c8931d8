-- The registers that a stat counts: just those that some line of the profile has as a target, each once, in order.
use Rattle.zeb_laws.proofs.Cited.{if◌then◌else◌, ranked, MatchOrdering, Greater, nat_cmp, ◌≡◌, ◌↔◌, ◌∙◌, ◌<◌, ◌⊎◌, ◌∷◌, ℕ, Bool, true, false, List, [], Ordering, Less, zero, suc, refl, sym, ap, ap₂, subst, inl, inr, arith, Has, has_left, has_right, has_either, nat_cmp_total, Directive, Target, target_in, targets_of_index, targets_below, target_cmp, has_pair, Register, Word, Phrase, Number, register_code, joined_rises, IsTotalOrder, nat_tests, ordering_then, then_total, on_total, tied_itself, Equal}
use Rattle.std.specs.List.Sorted.{IsStrictlySortedBy}

pub target_total : IsTotalOrder target_cmp
target_total = then_total (on_total (λ (t : Target). t.0) nat_cmp_total) (on_total (λ (t : Target). register_code t.1) nat_cmp_total)

-- ---- which targets are listed

in_one : (profile : List Directive) (index : ℕ) (register : Register) (t : Target) → Has (target_in profile index register) t ↔ ((has_pair profile t ≡ true) × (t ≡ (index, register)))
in_one profile index register t = from (has_pair profile (index, register)) refl
  where
    from : (b : Bool) → has_pair profile (index, register) ≡ b → Has (if b then (index, register) ∷ [] else []) t ↔ ((has_pair profile t ≡ true) × (t ≡ (index, register)))
    from true is = (
      λ h. elim h [ inl same ↦ (subst (λ (p : Target). has_pair profile p ≡ true) (sym same) is, same) | inr none ↦ absurd none ],
      λ h. inl h.1,
    )
    from false is = (
      λ h. absurd h,
      λ h. absurd (let e : false ≡ true = sym is ∙ subst (λ (p : Target). has_pair profile p ≡ true) h.1 h.0 in cc),
    )

in_index : (profile : List Directive) (index : ℕ) (t : Target) → Has (targets_of_index profile index) t ↔ ((has_pair profile t ≡ true) × (t.0 ≡ index))
in_index profile index t = (
  λ h. elim (has_either (target_in profile index Word) _ t h) [
    | inl word ↦ told Word word
    | inr more ↦ elim (has_either (target_in profile index Phrase) _ t more) [ inl phrase ↦ told Phrase phrase | inr number ↦ told Number number ]
  ],
  λ h. there t.1 refl h.0 h.1,
)
  where
    told : (register : Register) → Has (target_in profile index register) t → (has_pair profile t ≡ true) × (t.0 ≡ index)
    told register h = let is = (in_one profile index register t).0 h in (is.0, ap (λ (p : Target). p.0) is.1)

    put : (register : Register) → Has (target_in profile index register) t → Has (targets_of_index profile index) t
    put Word h = has_left (target_in profile index Word) _ t h
    put Phrase h = has_right (target_in profile index Word) _ t (has_left (target_in profile index Phrase) _ t h)
    put Number h = has_right (target_in profile index Word) _ t (has_right (target_in profile index Phrase) _ t h)

    there : (register : Register) → t.1 ≡ register → has_pair profile t ≡ true → t.0 ≡ index → Has (targets_of_index profile index) t
    there register is has same =
        let whole : t ≡ (index, register) = ap₂ (λ (n : ℕ) (r : Register). (n, r)) same is in
        put register ((in_one profile index register t).1 (has, whole))

pub in_below : (profile : List Directive) (indexes : ℕ) (t : Target) → Has (targets_below profile indexes) t ↔ ((has_pair profile t ≡ true) × (t.0 < indexes))
in_below profile zero t = ((λ h. absurd h), (λ h. omega (arith, h.1)))
in_below profile (suc index) t = (
  λ h. elim (has_either (targets_below profile index) _ t h) [
    | inl before ↦ let is = (in_below profile index t).0 before in (is.0, omega (arith, is.1))
    | inr last ↦ let is = (in_index profile index t).0 last in (is.0, omega (arith, is.1))
  ],
  λ h. elim (split t.0 index h.1) [
    | inl lower ↦ has_left (targets_below profile index) _ t ((in_below profile index t).1 (h.0, lower))
    | inr same ↦ has_right (targets_below profile index) _ t ((in_index profile index t).1 (h.0, same))
  ],
)
  where
    split : (n index : ℕ) → n < suc index → (n < index) ⊎ (n ≡ index)
    split n index low = from (nat_cmp n index) (ranked n index _ refl)
      where
        from : (o : Ordering) → MatchOrdering o (n < index) (n ≡ index) (index < n) → (n < index) ⊎ (n ≡ index)
        from Less is = inl is
        from Equal is = inr is
        from Greater is = absurd (let no : ⊥ = omega (arith, low, is) in no)

-- ---- they rise

one_rises : (profile : List Directive) (index : ℕ) (register : Register) → IsStrictlySortedBy target_cmp (target_in profile index register)
unfolding IsStrictlySortedBy
one_rises profile index register = from (has_pair profile (index, register))
  where
    from : (b : Bool) → IsStrictlySortedBy target_cmp (if b then (index, register) ∷ [] else [])
    from true = (tt, tt)
    from false = tt

-- of one index by the register, of several by the index
by_register : (one other : Target) → one.0 ≡ other.0 → register_code one.1 < register_code other.1 → target_cmp one other ≡ Less
by_register one other same lower =
    let high : nat_cmp (register_code one.1) (register_code other.1) ≡ Less = grind (arith, nat_tests) in
    let tied : nat_cmp one.0 other.0 ≡ Equal = subst (λ n. nat_cmp one.0 n ≡ Equal) same (tied_itself nat_cmp_total one.0) in
    ap (λ o. ordering_then o (nat_cmp (register_code one.1) (register_code other.1))) tied ∙ high

by_index : (one other : Target) → one.0 < other.0 → target_cmp one other ≡ Less
by_index one other lower =
    let high : nat_cmp one.0 other.0 ≡ Less = grind (arith, nat_tests) in
    ap (λ o. ordering_then o (nat_cmp (register_code one.1) (register_code other.1))) high

index_rises : (profile : List Directive) (index : ℕ) → IsStrictlySortedBy target_cmp (targets_of_index profile index)
index_rises profile index =
    joined_rises target_total (target_in profile index Word) _ (one_rises profile index Word)
    (joined_rises target_total (target_in profile index Phrase) _ (one_rises profile index Phrase) (one_rises profile index Number) (λ x y h k. apart Phrase Number x y h k (omega arith)))
    (λ x y h k. elim (has_either (target_in profile index Phrase) _ y k) [ inl phrase ↦ apart Word Phrase x y h phrase (omega arith) | inr number ↦ apart Word Number x y h number (omega arith) ])
  where
    apart : (a b : Register) (x y : Target) → Has (target_in profile index a) x → Has (target_in profile index b) y → register_code a < register_code b → target_cmp x y ≡ Less
    apart a b x y h k lower =
        let left = (in_one profile index a x).0 h in
        let right = (in_one profile index b y).0 k in
        subst (λ (p : Target). target_cmp p y ≡ Less) (sym left.1) (subst (λ (q : Target). target_cmp (index, a) q ≡ Less) (sym right.1) (by_register (index, a) (index, b) refl lower))

pub below_rises : (profile : List Directive) (indexes : ℕ) → IsStrictlySortedBy target_cmp (targets_below profile indexes)
unfolding IsStrictlySortedBy
below_rises profile zero = tt
below_rises profile (suc index) =
    joined_rises target_total (targets_below profile index) _ (below_rises profile index) (index_rises profile index) (λ x y h k.
    let left = (in_below profile index x).0 h in
    let right = (in_index profile index y).0 k in
    by_index x y (omega (arith, left.1, right.1)))
