-- What an accepted analysis has (this project's own rule), and what examples of analyses speak of.
use Rattle.std.specs.Prelude.{◌≡◌, ℕ, ◌≤◌, List, [], ◌∷◌, None, Some, codes, length}
use Rattle.std.specs.List.{AllByRecursion, flat_map}
use Rattle.zeb_profile.specs.declared.directives.Directive.{Directive}
use Rattle.zeb_profile.specs.declared.directives.Directive.TheVariants.{Identifier}
use Rattle.zeb_marc.specs.Splits.{split_of}
use Rattle.zeb_analysis.specs.Analysing.{Analysed}
use Rattle.zeb_lower_laws.specs.Sample.{moby_dick_analysis}

-- the bytes of the records in a file
abbrev pub slices_of : List ℕ → List (List ℕ)
slices_of text = (split_of text).slices

-- an analysis for each record in the files, and no more than the limit; and no file ends with a fault
pub record IsWhole (limit : ℕ) (texts : List (List ℕ)) (analyses : List Analysed) : Type 0 where
  pub one_each : length analyses ≡ length (flat_map slices_of texts)
  pub few : length analyses ≤ limit
  pub sound : AllByRecursion (λ text. (split_of text).fault ≡ None) texts

-- what *Moby Dick* comes to at this place of this file, under the profile of titles and dates
abbrev pub moby_dick_at : ℕ → ℕ → Analysed
moby_dick_at file nth = record { file = file; nth = nth; ident = codes "a1"; occurrences = moby_dick_analysis }

-- a rule by which a record is called after its field 020 (MARC 21, the International Standard Book Number), subfield a (97)
abbrev pub named_by_isbn : List Directive
named_by_isbn = Identifier (record { tag = codes "020"; code = Some 97 }) ∷ []
