-- What it means that the spaces (U+0020) at the ends of a text, and no others, are taken off it (this project's own rule for an
-- identifier); and what examples of identifiers speak of.
use Rattle.std.specs.Prelude.{◌≡◌, ◌≢◌, ℕ, List, None, Ok, Err, [], ◌∷◌, ◌++◌, codes, replicate}
use Rattle.zeb_marc.specs.Contents.{UnitText}
use Rattle.zeb_extract.specs.declared.naming.IdentFault.{IdentFault}
use Rattle.zeb_extract.specs.Identifier.{identifier_of}
use Rattle.zeb_lower_laws.specs.Sample.{date_profile}

abbrev pub spaces : ℕ → List ℕ
spaces n = replicate n 32

-- the text is spaces, what is left, and spaces; and what is left neither begins nor ends with one
pub record IsStripped (text stripped : List ℕ) : Type 0 where
  pub before : ℕ
  pub after : ℕ
  pub whole : text ≡ spaces before ++ stripped ++ spaces after
  pub begins : (rest : List ℕ) → stripped ≢ 32 ∷ rest
  pub ends : (rest : List ℕ) → stripped ≢ rest ++ 32 ∷ []

-- a unit of field 001 with this text, and before it one of field 003
abbrev pub called : List ℕ → List UnitText
called text =
    record { seq = 1; tag = codes "003"; code = None; text = codes "x" }
    ∷ record { seq = 2; tag = codes "001"; code = None; text = text }
    ∷ []

-- under the rule `001` units are called so, or have this fault
abbrev pub IsCalled : List UnitText → List ℕ → Type 0
IsCalled units ident = identifier_of date_profile units ≡ Ok ident

-- under the rule `001` units have this fault of an identifier
abbrev pub HasIdentFault : List UnitText → IdentFault → Type 0
HasIdentFault units fault = identifier_of date_profile units ≡ Err fault
