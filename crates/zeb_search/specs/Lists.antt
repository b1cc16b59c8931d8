-- Lists that rise, and those that have just the members that are P.
use Rattle.std.specs.Prelude.{◌↔◌, ℕ, List, map}
use Rattle.std.specs.declared.cmp.Ordering.{Ordering}
use Rattle.std.specs.List.Sorted.{IsStrictlySortedBy}
use Rattle.std.specs.Ordering.{nat_cmp}
use Rattle.std.specs.Cmp.Lexicographic.{slice_cmp}
use Rattle.sqlite_rules.specs.Lists.{Has}

-- the texts of the elements rise, in the order of their bytes; so each element stands there once
abbrev pub Rise : {X : Type 0} → (X → List ℕ) → List X → Type 0
Rise text xs = IsStrictlySortedBy (slice_cmp nat_cmp) (map text xs)

-- a list rises and has just the members of a kind, each once
pub record AreJust {X : Type 0} (cmp : X → X → Ordering) (P : X → Type 0) (list : List X) : Type 0 where
  pub rising : IsStrictlySortedBy cmp list
  pub each : (x : X) → Has list x ↔ P x

-- a list of record numbers rises and has just those that are P
abbrev pub AreNumbers : (P : ℕ → Type 0) → List ℕ → Type 0
AreNumbers P = AreJust nat_cmp P
