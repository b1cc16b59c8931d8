-- Laws of profiles and their canonical texts.
use Rattle.std.specs.Prelude.{◌≡◌, ℕ, List, not, filter, Option, Ok}
use Rattle.zeb_profile.specs.declared.directives.Directive.{Directive}
use Rattle.zeb_profile.specs.Indexes.{identifier_pattern, index_by_use, index_names, all_pairs, unit_targets}
use Rattle.zeb_profile.specs.Profiles.{is_store, profile_of}

abbrev pub without_store : List Directive → List Directive
without_store directives = filter (λ directive. not (is_store directive)) directives

-- two lists of directives have the same names of indexes, the same index for each use attribute, the same targets, all
-- and of each unit, and the same identifier's rule
pub record SaysTheSame (one other : List Directive) : Type 0 where
  pub names : index_names one ≡ index_names other
  pub uses : (number : ℕ) → index_by_use one number ≡ index_by_use other number
  pub pairs : all_pairs one ≡ all_pairs other
  pub targets : (tag : List ℕ) (code : Option ℕ) → unit_targets one tag code ≡ unit_targets other tag code
  pub identifier : identifier_pattern one ≡ identifier_pattern other

-- the directives of some text
pub record IsProfile (directives : List Directive) : Type 0 where
  pub text : List ℕ
  pub reads : profile_of text ≡ Ok directives
