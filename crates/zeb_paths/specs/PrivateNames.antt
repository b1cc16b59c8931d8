-- What only the contracts of private functions speak of; no public clause reaches it.
-- Names that are gathered one by one.
use Rattle.std.specs.Prelude.{◌≡◌, ◌≢◌, ◌⊎◌, ◌++◌, ◌∷◌, [], ℕ, Contains, List, Option, None, Some}

-- a name is put behind the others, unless it is among them
abbrev pub Adds : List ℕ → List (List ℕ) → List (List ℕ) → Type 0
Adds name old new = (Contains old name × (new ≡ old)) ⊎ ((¬ Contains old name) × (new ≡ old ++ name ∷ []))

-- so is one that may be none, and isn't empty
abbrev pub AddsAny : Option (List ℕ) → List (List ℕ) → List (List ℕ) → Type 0
AddsAny None old new = new ≡ old
AddsAny (Some name) old new = (name ≢ []) × Adds name old new
