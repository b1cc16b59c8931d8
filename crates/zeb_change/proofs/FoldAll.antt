-- Readers of files, of which one may have failed.
use Rattle.zeb_change.proofs.Cited.{◌≡◌, ◌⊎◌, ◌∙◌, ◌+◌, ◌<◌, ◌≤◌, ℕ, zero, suc, List, [], ◌∷◌, Bool, true, false, length, drop, get_or, set, length-set, get_or-set_other, get_or-set_same, arith, refl, sym, ap, inl, inr, AllByRecursion, AllZip, cases_order, HasFailedAt, NoneFailed}

pub drop_all : {A : Type 0} (xs : List A) (n : ℕ) → length xs ≤ n → drop n xs ≡ []
drop_all [] zero within = refl
drop_all [] (suc n) within = refl
drop_all (x ∷ xs) zero within = absurd (omega (arith, within))
drop_all (x ∷ xs) (suc n) within = drop_all xs n (omega (arith, within))

-- of readers of which none has failed, the one at a place hasn't
pub fine_at : {R : Type 0} (failed : R → Bool) (readers : List R) (i : ℕ) (d : R) → AllByRecursion (λ r. failed r ≡ false) readers → i < length readers → failed (get_or readers i d) ≡ false
fine_at failed [] i d all within = absurd (omega (arith, within))
fine_at failed (x ∷ xs) zero d all within = all.0
fine_at failed (x ∷ xs) (suc i) d all within = fine_at failed xs i d all.1 (omega (arith, within))

module _ {R : Type 0} (failed : R → Bool) (readers : List R) (index : ℕ) (fine : (j : ℕ) → j < index → (d : R) → failed (get_or readers j d) ≡ false) where
  -- none of those so far has failed, and they are all
  pub none_at : length readers ≤ index → (file : ℕ) → HasFailedAt failed readers file → ⊥
  none_at all file at = let no : true ≡ false = sym at.failed ∙ ap failed at.there ∙ fine at.index (omega (arith, at.within)) at.reader in absurd (cc)

  module _ (reader : R) (within : index < length readers) where
    -- the one after them hasn't either
    pub fine_more : failed reader ≡ false → (j : ℕ) → j < index + 1 → (d : R) → failed (get_or (set readers index reader) j d) ≡ false
    fine_more sound j below d = elim (cases_order j index) [
      | inl same ↦ ap failed (ap (λ k. get_or (set readers index reader) k d) same ∙ get_or-set_same readers index reader d within) ∙ sound
      | inr (inl less) ↦ ap failed (get_or-set_other readers index j reader d (omega (arith, less))) ∙ fine j less d
      | inr (inr more) ↦ absurd (omega (arith, below, more))
    ]

    -- the one after them is the first that can have failed, where those behind it are as they were
    pub failed_here : (first : List R) → length readers ≡ length first → NoneFailed failed first → ((j : ℕ) (d : R) → index ≤ j → get_or readers j d ≡ get_or first j d) → (file : ℕ) → HasFailedAt failed (set readers index reader) file
        → (file ≡ index + 1) × (failed reader ≡ true)
    failed_here first many none unread file at =
        let inside : at.index < length readers = omega (arith, at.within, length-set readers index reader) in
        elim (cases_order at.index index) [
          | inl same ↦ (at.numbered ∙ ap (λ n. n + 1) same, ap failed (sym (at.there ∙ ap (λ k. get_or (set readers index reader) k at.reader) same ∙ get_or-set_same readers index reader at.reader within)) ∙ at.failed)
          | inr (inl less) ↦
              let no : true ≡ false = sym at.failed ∙ ap failed (at.there ∙ get_or-set_other readers index at.index reader at.reader (omega (arith, less))) ∙ fine at.index less at.reader in
              absurd (cc)
          | inr (inr more) ↦
              let no : true ≡ false = sym at.failed ∙ ap failed (at.there ∙ get_or-set_other readers index at.index reader at.reader (omega (arith, more)) ∙ unread at.index at.reader (omega (arith, more)))
              ∙ fine_at failed first at.index at.reader none (omega (arith, inside, many)) in
              absurd (cc)
        ]

    pub failed_now : failed reader ≡ true → HasFailedAt failed (set readers index reader) (index + 1)
    failed_now is = record {
      index = index;
      reader = reader;
      within = omega (arith, within, length-set readers index reader);
      there = sym (get_or-set_same readers index reader reader within);
      numbered = refl;
      failed = is;
    }

-- some reader has failed, or none
pub one_failed : {R : Type 0} (failed : R → Bool) (readers : List R) → NoneFailed failed readers ⊎ ((file : ℕ) × HasFailedAt failed readers file)
one_failed failed [] = inl tt
one_failed failed (x ∷ xs) = by (failed x) refl (one_failed failed xs)
  where
    by : (b : Bool) → failed x ≡ b → NoneFailed failed xs ⊎ ((file : ℕ) × HasFailedAt failed xs file) → NoneFailed failed (x ∷ xs) ⊎ ((file : ℕ) × HasFailedAt failed (x ∷ xs) file)
    by true is rest = inr (1, record { index = 0; reader = x; within = omega arith; there = refl; numbered = refl; failed = is })
    by false is (inl none) = inl (is, none)
    by false is (inr some) = inr (
      some.0 + 1,
      record {
        index = suc some.1.index;
        reader = some.1.reader;
        within = omega (arith, some.1.within);
        there = some.1.there;
        numbered = omega (arith, some.1.numbered);
        failed = some.1.failed;
      },
    )

-- ---- readers that can't fail

pub all_same : {X : Type 0} (Q : X → X → Type 0) → ((x : X) → Q x x) → (xs : List X) → AllZip Q xs xs
all_same Q same [] = tt
all_same Q same (x ∷ xs) = (same x, all_same Q same xs)

-- one of them is set to what it leads to
pub all_zip_set : {X : Type 0} (Q : X → X → Type 0) (xs ys : List X) (i : ℕ) (d z : X) → AllZip Q xs ys → Q (get_or xs i d) z → AllZip Q xs (set ys i z)
all_zip_set Q [] [] i d z all leads = tt
all_zip_set Q [] (y ∷ ys) i d z all leads = absurd all
all_zip_set Q (x ∷ xs) [] i d z all leads = absurd all
all_zip_set Q (x ∷ xs) (y ∷ ys) zero d z all leads = (leads, all.1)
all_zip_set Q (x ∷ xs) (y ∷ ys) (suc i) d z all leads = (all.0, all_zip_set Q xs ys i d z all.1 leads)
