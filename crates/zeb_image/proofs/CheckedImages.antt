-- Some image of a format under a profile: tables are one just where they hold what is expected of what they hold.
use Rattle.zeb_image.proofs.Cited.{List, refl, sym, subst, State, Directive, canonical_text, IsProfile, Expected, AreExpected, IsOrdered, Format, version_of, IsStore, one_format, Base, under, IsImage, IsImageOf, IsImageUnder, CanAllBeHeld, IsExpectation}
use Rattle.zeb_image.proofs.CheckedTables.{listed_there, names_rise, numbers_rise}
use Rattle.zeb_image.proofs.ExpectedTables.{bases_of, image_made}
use Rattle.zeb_image.proofs.ImageTables.{image_expected, image_sound}
use Rattle.zeb_image.proofs.OneText.{under_other}

module _ (format : Format) (profile : List Directive) (is_profile : ∥ IsProfile profile ∥₁) (s : State) where
  abbrev pub IsSomeImage : Type 0
  IsSomeImage = (bases : List Base) × IsImage s.now.trees (under (version_of format) (canonical_text profile) bases)

  own : (some : IsSomeImage) → IsImageUnder profile s.now.trees (version_of format) (canonical_text profile) some.0
  own some = under_other some.1.0 profile is_profile s.now.trees (version_of format) (canonical_text profile) some.0 refl some.1.1

  -- what can't be read or held is part of none
  pub no_image : ¬ CanAllBeHeld profile s.now.trees → ¬ IsSomeImage
  no_image none some = let it = own some in none (image_sound it.format profile s some.0 it.are it.image)

  module _ (store : IsStore s) (expected : Expected) (is : IsExpectation format profile s.now.trees expected) where
    pub all_ordered : IsOrdered expected
    all_ordered =
        let there = listed_there profile s expected.databases.items is.databases in
        record {
          names = names_rise profile s expected.databases.items is.databases;
          records = λ d h. (let l = there d h in numbers_rise profile s store l.0 d l.1);
          postings = λ d h. (there d h).1.rising;
        }

    pub expected_is : AreExpected format s.now.trees expected → IsSomeImage
    expected_is agrees = (bases_of format profile s store expected is, (profile, image_made format profile s store expected is agrees is_profile))

    pub is_expected : IsSomeImage → AreExpected format s.now.trees expected
    is_expected some =
        let it = own some in
        let image = subst (λ (f : Format). IsImageOf f profile s.now.trees some.0) (one_format it.format format (sym it.version_is)) it.image in
        image_expected format profile s some.0 it.are image store expected is it.pattern it.pattern_is it.texts
