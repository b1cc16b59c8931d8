-- Where a text that rises is cut.
use Rattle.zeb_leaf.proofs.Cited.{ℕ, suc, ◌<◌, ◌≤◌, List, [], ◌∷◌, ◌++◌, length, take, drop, subst, inl, inr, arith, cases_lt, slice_index, drop-cons, Rises, IsAscii, IsCharBoundary, IsCharBoundary-before_ascii, IsUtf8, IsUtf8-append, IsUtf8-from_ascii, IsUtf8-take}

first_low : (x : ℕ) (xs suffix : List ℕ) (least block : ℕ) → Rises (x ∷ xs) suffix least block → IsAscii suffix → x < 128
first_low x xs [] least block up low = absurd up
first_low x xs (y ∷ ys) least block up low = let small : y < 128 = low 0 in omega (arith, up, small)

-- below a byte of ASCII, and at the end of a text, characters begin
boundary_below : (text suffix : List ℕ) (shared least block : ℕ) → shared ≤ length text → Rises (drop shared text) suffix least block → IsAscii suffix → IsCharBoundary text shared
boundary_below text suffix shared least block within up low = elim (cases_lt shared (length text)) [
  | inl inside ↦
      let at = subst (λ (xs : List ℕ). Rises xs suffix least block) (drop-cons text shared 0 inside) up in
      IsCharBoundary-before_ascii text shared inside (first_low (slice_index text shared) (drop (suc shared) text) suffix least block at low)
  | inr past ↦ (within, λ inside. absurd (omega (arith, inside, past)))
]

pub text_below : (text suffix : List ℕ) (shared least block : ℕ) → IsUtf8 text → shared ≤ length text → Rises (drop shared text) suffix least block → IsAscii suffix → IsUtf8 (take shared text ++ suffix)
text_below text suffix shared least block is within up low =
    IsUtf8-append (take shared text) suffix (IsUtf8-take text shared is (boundary_below text suffix shared least block within up low)) (IsUtf8-from_ascii suffix low)
