-- What becomes of the records of an identifier, told from all slices of a change's files in their order.
use Rattle.std.specs.Prelude.{◌≡◌, ◌≢◌, List, [], ◌∷◌, ◌++◌, ℕ, Ok}
use Rattle.std.specs.List.{Contains}
use Rattle.zeb_profile.specs.declared.directives.Directive.{Directive}
use Rattle.zeb_marc.specs.Splits.{Split}
use Rattle.zeb_change.specs.Folding.{ident_in}
use Rattle.zeb_change.specs.Base.{Base, Kept}

-- all slices of files, in their order
abbrev pub slices_in : List Split → List (List ℕ)
slices_in [] = []
slices_in (file ∷ files) = file.slices ++ slices_in files

-- a record of this identifier is kept
abbrev pub KeepsIdent : Base → List ℕ → Type 0
KeepsIdent base ident = (kept : Kept) × Contains base.records kept × (kept.ident ≡ ident)

-- some slice has this identifier
abbrev pub SomeHas : List Directive → List ℕ → List (List ℕ) → Type 0
SomeHas profile ident slices = (slice : List ℕ) × Contains slices slice × (ident_in profile slice ≡ Ok ident)

-- no slice has it
abbrev pub NoneHas : List Directive → List ℕ → List (List ℕ) → Type 0
NoneHas profile ident slices = (slice : List ℕ) → Contains slices slice → ident_in profile slice ≢ Ok ident

-- the last of the slices that has this identifier
pub record IsLastOf (profile : List Directive) (ident : List ℕ) (slices : List (List ℕ)) (last : List ℕ) : Type 0 where
  pub before : List (List ℕ)
  pub behind : List (List ℕ)
  pub is : slices ≡ before ++ last ∷ behind
  pub named : ident_in profile last ≡ Ok ident
  pub none : NoneHas profile ident behind
