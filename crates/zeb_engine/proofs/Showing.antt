-- The hits that are shown: their records by number, and what stays known of the tables while they are read.
use Rattle.zeb_engine.proofs.Cited.{◌≡◌, ◌∙◌, ◌<◌, ◌≤◌, ◌^◌, nat_lt, arith, ℕ, ℤ, pos, ◌+◌, List, [], ◌∷◌, ◌++◌, length, get_or, take, String, string_bytes, Option, Some, None, sym, ap, ap₂, subst, inl, inr, Global, take_more, map-append, get_or_default, cases_Bool, nat_tests, Trees, Has, has_at, has_either, IsIdentOf, AreReadableIdents, has_ident_in, CanBeShown, HidesOne, AreShown}

-- a record of each of the numbers is kept, its identifier is UTF-8, and a column stores the number
abbrev pub KeepsEach : Trees → ℤ → List ℕ → Type 0
KeepsEach trees db numbers = (n : ℕ) → Has numbers n → CanBeShown trees db n × (n < 2 ^ 63)

module _ (trees : Trees) (db : ℤ) where
  -- one record more
  pub shown_more : (numbers : List ℕ) (index number : ℕ) (shown : List (ℕ × List ℕ)) (ident : String Global) → index < length numbers → number ≡ get_or numbers index 0 → IsIdentOf trees db (pos number) (Some ident)
      → AreShown (has_ident_in trees db) (take index numbers) shown → AreShown (has_ident_in trees db) (take (index + 1) numbers) (shown ++ (number, string_bytes ident) ∷ [])
  shown_more numbers index number shown ident within is named are =
      let hit : ℕ × List ℕ = (number, string_bytes ident) in
      record {
        in_order = map-append (λ (h : ℕ × List ℕ). h.0) shown (hit ∷ []) ∙ ap₂ (λ (front back : List ℕ). front ++ back) are.in_order (ap (λ n. n ∷ []) is) ∙ sym (take_more numbers index 0 within);
        named = λ h there. elim (has_either shown (hit ∷ []) h there) [
          | inl before ↦ are.named h before
          | inr last ↦ elim last [ inl same ↦ subst (λ (x : ℕ × List ℕ). has_ident_in trees db x.0 x.1) (sym same) named | inr none ↦ absurd none ]
        ];
      }

  -- no identifier is found under a number that no column stores
  pub ident_stored : (number : ℕ) (found : Option (String Global)) (ident : String Global) → (number < 2 ^ 63 → IsIdentOf trees db (pos number) found) → (2 ^ 63 ≤ number → found ≡ None) → found ≡ Some ident
      → IsIdentOf trees db (pos number) (Some ident)
  ident_stored number found ident value large is = elim (cases_Bool (nat_lt number (2 ^ 63))) [
    | inl less ↦ subst (IsIdentOf trees db (pos number)) is (value (grind (arith, nat_tests)))
    | inr more ↦ absurd (let none : found ≡ None = large (grind (arith, nat_tests)) in cc)
  ]

  -- ---- a record that can't be shown

  -- one of the numbers that are looked up has no identifier
  pub none_shown : (numbers : List ℕ) (index number : ℕ) (found : Option (String Global)) → index < length numbers → number ≡ get_or numbers index 0 → ((n : ℕ) → Has numbers n → n < 2 ^ 63)
      → (number < 2 ^ 63 → IsIdentOf trees db (pos number) found) → found ≡ None → HidesOne trees db numbers
  none_shown numbers index number None within is small none same =
      let there = has_at numbers index number within (is ∙ get_or_default numbers index 0 number within) in
      (number, there, λ shown. none (small number there) shown.0.0 shown.0.1.0 shown.0.1.1)
  none_shown numbers index number (Some ident) within is small named same = cc

  -- it has one that can't be read
  pub hidden_shown : (numbers : List ℕ) (index number : ℕ) → index < length numbers → number ≡ get_or numbers index 0 → (¬ AreReadableIdents trees db (pos number)) → HidesOne trees db numbers
  hidden_shown numbers index number within is hidden = (number, has_at numbers index number within (is ∙ get_or_default numbers index 0 number within), λ shown. hidden shown.1)
