-- Places and first finds in a list.
use Rattle.zeb_profile.proofs.Cited.{◌≡◌, ℕ, ◌+◌, ◌<◌, List, ◌++◌, length, drop, get_or, suc, add-one, drop-cons, true, false, Bool, Some, None, unwrap_or, refl, arith, inl, inr, not, position, position_or_len, flat_map, position_or_len_is, prefix_len-le-length, cases_lt, lt-ltb, le-ltb, Placed, names_in, directives_in}

pub position_at : {X : Type 0} (p : X → Bool) (xs : List X) (i : ℕ) (d : X) → i < length xs → ((k : ℕ) → k < i → p (get_or xs k d) ≡ false) → p (get_or xs i d) ≡ true → Some i ≡ position p xs
position_at p xs i d within before at =
    let e : position_or_len p xs ≡ i = position_or_len_is p xs i d (omega arith) before (λ _. at) in
    rw (e, lt-ltb i (length xs) within) refl

pub position_none : {X : Type 0} (p : X → Bool) (xs : List X) (d : X) → ((k : ℕ) → k < length xs → p (get_or xs k d) ≡ false) → None ≡ position p xs
position_none p xs d before =
    let e : position_or_len p xs ≡ length xs = position_or_len_is p xs (length xs) d (omega arith) before (λ h. absurd (omega arith)) in
    rw (e, le-ltb (length xs) (length xs) (omega arith)) refl

pub unwrap_position : {X : Type 0} (p : X → Bool) (xs : List X) → unwrap_or (position p xs) (length xs) ≡ position_or_len p xs
unwrap_position p xs =
    elim (cases_lt (position_or_len p xs) (length xs)) [
      | inl h ↦ rw (lt-ltb (position_or_len p xs) (length xs) h) refl
      | inr h ↦
          let whole : length xs ≡ position_or_len p xs = omega (arith, prefix_len-le-length (λ x. not (p x)) xs) in
          rw (le-ltb (position_or_len p xs) (length xs) h) whole
    ]

-- the names of the lines from the i-th on
abbrev pub names_from : ℕ → List Placed → List (List ℕ)
names_from i placed = flat_map names_in (directives_in (drop i placed))

-- those of the i-th line come first
pub names_from-next : (i : ℕ) (placed : List Placed) (d : Placed) → i < length placed → names_from i placed ≡ names_in (get_or placed i d).directive ++ names_from (i + 1) placed
names_from-next i placed d h = let e : i + 1 ≡ suc i = add-one i in rw (e, drop-cons placed i d) refl
