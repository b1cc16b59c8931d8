-- What calls that look for a leaf answer.
use Rattle.zeb_leaf_rows.proofs.Cited.{Row, Trees, ◌≡◌, ◌≢◌, ◌<◌, ◌+◌, ◌∷◌, ℕ, ℤ, pos, List, [], Option, None, refl, sym, subst, arith, HasBlockFrom, IsCovering, IsFirst, IsLeafAt, IsLeafIn, IsRest, IsStore, IsUncovered, Register, ShowsSome, State, blocks_tree, leaf_key, register_front}
use Rattle.std.proofs.Common.{◌+ℤ◌, ◌^◌, of_z, to_z, w64}
use Rattle.std.proofs.lemmas.Int.{ints}
use Rattle.zeb_leaf_rows.proofs.CoveringLeaves.{Leaves, leaf_some, some_leaf, uncovered}
use Rattle.zeb_register.specs.declared.registers.RegisterOf.{RegisterOf}

module _ (s : State) (store : IsStore s) (db : ℤ) (index : ℕ) (register : Register) where
  abbrev pub Shown : Row → Type 0
  Shown row = IsRest blocks_tree (register_front db index register) s.now.trees row × HasBlockFrom 0 row

  -- no row is shown of a register without a leaf, and some of one with a leaf
  pub no_leaf_shown : (rows : List Row) → rows ≡ [] → ShowsSome Shown rows → (leaf : Row) → ¬ Leaves s store db index register leaf
  no_leaf_shown [] is none leaf there = none leaf (leaf_some s store db index register leaf there)
  no_leaf_shown (row ∷ rows) is some leaf there = let e : row ∷ rows ≡ [] = is in cc

  pub some_leaf_shown : (rows : List Row) → rows ≢ [] → ShowsSome Shown rows → (leaf : Row) × Leaves s store db index register leaf
  some_leaf_shown [] is none = absurd (is refl)
  some_leaf_shown (row ∷ rows) is some = (some.0, some_leaf s store db index register some.0 some.1)

-- where no leaf is up to the key, there is none, or none covers it
module _ (trees : Trees) (at : RegisterOf) (term : List ℕ) (block : ℕ) (none : IsCovering (IsLeafIn trees at) (leaf_key term block) None) where
  pub still_uncovered : (leaf : Row) × IsLeafIn trees at leaf → IsUncovered (IsLeafIn trees at) (leaf_key term block)
  still_uncovered bad = uncovered (IsLeafIn trees at) (leaf_key term block) none bad.0 bad.1

  pub gone_at : (found : Option Row) → found ≡ None → ((leaf : Row) → ¬ IsLeafIn trees at leaf) → IsLeafAt (IsLeafIn trees at) (leaf_key term block) found
  gone_at found is gone = subst (λ (f : Option Row). IsLeafAt (IsLeafIn trees at) (leaf_key term block) f) (sym is) gone

-- ---- the end behind a block, as it is added in the code

abbrev pub next_number : ℕ → ℤ
next_number block = to_z w64 (of_z w64 (to_z w64 block +ℤ pos 1))

pub next_is : (block : ℕ) → block < 2 ^ 56 → next_number block ≡ pos (block + 1)
next_is block small = omega (arith, ints)

pub up_to_next : (P : ℤ → Row → Type 0) (Before : Row → Row → Type 0) (block : ℕ) (found : Option Row) → block < 2 ^ 56 → IsFirst Before (P (next_number block)) found → IsFirst Before (P (pos (block + 1))) found
up_to_next P Before block found small = subst (λ (z : ℤ). IsFirst Before (P z) found) (next_is block small)
