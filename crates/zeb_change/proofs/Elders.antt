-- What a change finds kept under a record's identifier.
use Rattle.zeb_change.proofs.Cited.{◌≡◌, ◌≢◌, ◌⊎◌, ◌∙◌, ℕ, ℤ, pos, List, Option, Some, None, Result, Ok, Err, inl, inr, sym, subst, State, first_fault, Directive, Elder, IsElderOf, IsStore, one_ident, Refusal, Damaged, IsSoOrDamaged, KeepsWhole, ident_in, GoesBy, IsWholeElder, why_of, IsFailing}

-- ---- answers

-- whatever comes, what is so is so
pub is_so : {T : Type 0} (Said : Type 0) (result : Result T Refusal) → Said → IsSoOrDamaged Said result
is_so Said (Ok x) so = so
is_so Said (Err refusal) so = inl so

-- an error is passed on
pub passed_error : {T : Type 0} (Said : Type 0) (refusal : Refusal) (result : Result T Refusal) → result ≡ Err refusal → Said ⊎ ((refusal ≡ Damaged) ⊎ IsFailing (why_of refusal))
    → IsSoOrDamaged Said result
passed_error {T} Said refusal result told so = subst (λ (r : Result T Refusal). IsSoOrDamaged Said r) (sym told) so

-- no failure is damage
no_damage : IsFailing (why_of Damaged) → ⊥
no_damage (inl store) = cc
no_damage (inr memory) = cc

-- an answer that is no damage, where it is so
pub so_undamaged : {T : Type 0} (Said : Type 0) (result : Result T Refusal) → Said → result ≢ Err Damaged → GoesBy Said result
so_undamaged Said result so sound = (is_so Said result so, λ is. absurd (sound is))

-- a failure
pub failed_so : {T : Type 0} (Said : Type 0) (result : Result T Refusal) (refusal : Refusal) → result ≡ Err refusal → IsFailing (why_of refusal) → GoesBy Said result
failed_so {T} Said result refusal told failing = (
  subst (λ (r : Result T Refusal). IsSoOrDamaged Said r) (sym told) (inr (inr failing)),
  λ is. let same : refusal ≡ Damaged = (let both = sym told ∙ is in cc) in absurd (no_damage (subst (λ r. IsFailing (why_of r)) same failing)),
)

-- ---- the row of an elder

module _ (profile : List Directive) (s : State) (store : IsStore s) (db : ℤ) (ident : List ℕ) where
  pub whole_kept : (found : Option Elder) → IsElderOf s.now.trees db ident found → IsWholeElder profile ident found → KeepsWhole profile s.now.trees db ident
  whole_kept None none whole sysno bytes there = absurd (none sysno bytes there)
  whole_kept (Some found) is whole sysno bytes there =
      let same = one_ident s store db sysno (pos found.sysno) ident bytes found.bytes.items there is in (
        found.sysno,
        same.0,
        record {
          whole = subst (λ b. first_fault b ≡ None) (sym same.1) whole.whole;
          named = subst (λ b. ident_in profile b ≡ Ok ident) (sym same.1) whole.named;
          text = whole.text;
        },
      )

  pub kept_whole : (found : Option Elder) → IsElderOf s.now.trees db ident found → KeepsWhole profile s.now.trees db ident → IsWholeElder profile ident found
  kept_whole None none kept = tt
  kept_whole (Some found) is kept =
      let it = (kept (pos found.sysno) found.bytes.items is).2 in record { whole = it.whole; named = it.named; text = it.text }

-- ---- a record that is sound is taken or fails
