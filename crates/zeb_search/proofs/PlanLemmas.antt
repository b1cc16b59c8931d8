-- Patterns, places and records by their number.
use Rattle.zeb_search.proofs.Cited.{◌≡◌, ◌≢◌, ◌==◌, ℕ, ℤ, pos, Some, None, String, string_bytes, List, [], ◌∷◌, filter, length, arith, refl, sym, subst, inl, inr, Global, Trees, IsStrictlySortedBy-filter, Symbol, posting_cmp, Posting, IsIdentOf, HasRecord, AreNumbers, is_kept_in}
use Rattle.std.specs.List.Sorted.{IsStrictlySortedBy}
use Rattle.zeb_search.proofs.JustLemmas.{just_none}

pub some_patterns : (pattern : List Symbol) (patterns : List (List Symbol)) → (pattern ∷ patterns) ≢ []
some_patterns pattern patterns same = cc

pub no_patterns : (patterns : List (List Symbol)) → length patterns ≡ 0 → patterns ≡ []
no_patterns [] none = refl
no_patterns (pattern ∷ patterns) none = absurd (omega arith)

pub firsts_rise : (places : List Posting) → IsStrictlySortedBy posting_cmp places → IsStrictlySortedBy posting_cmp (filter (λ p. p.pos == 1) places)
firsts_rise places rising = IsStrictlySortedBy-filter posting_cmp (λ (p : Posting). p.pos == 1) places rising

-- ---- a record by its number

module _ (trees : Trees) (db : ℤ) (number : ℕ) where
  pub kept_one : (found : String Global) (hits : List ℕ) → IsIdentOf trees db (pos number) (Some found) → hits ≡ number ∷ [] → AreNumbers (λ n. (n ≡ number) × is_kept_in trees db n) hits
  unfolding IsStrictlySortedBy
  kept_one found hits is one = subst (AreNumbers (λ n. (n ≡ number) × is_kept_in trees db n)) (sym one) (record {
    rising = (tt, tt);
    each = λ n. (
      λ there. elim there [ inl same ↦ (same, (string_bytes found, (is.0, subst (λ (m : ℕ). HasRecord trees db (pos m) (string_bytes found) is.0) (sym same) is.1))) | inr none ↦ absurd none ],
      λ kept. inl kept.0,
    );
  })

  pub kept_none : (hits : List ℕ) → IsIdentOf trees db (pos number) None → hits ≡ [] → AreNumbers (λ n. (n ≡ number) × is_kept_in trees db n) hits
  kept_none hits is none = subst (AreNumbers (λ n. (n ≡ number) × is_kept_in trees db n)) (sym none)
      (just_none (λ n. (n ≡ number) × is_kept_in trees db n) (λ n kept. is kept.1.0 kept.1.1.0 (subst (λ (m : ℕ). HasRecord trees db (pos m) kept.1.0 kept.1.1.0) kept.0 kept.1.1.1)))
