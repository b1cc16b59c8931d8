-- The analysis of the example record under a whole profile.
use Rattle.zeb_extract.proofs.Cited.{◌≡◌, ℕ, ◌<◌, List, [], ◌∷◌, refl, subst, ◌↔◌, ◌∙◌, map, length, true, arith, rules, Contains, unit_targets, IsOccurrence, listing}
use Rattle.zeb_keys.specs.declared.keys.Occurrence.{Occurrence}
use Rattle.std.proofs.Common.{codes, get_or, Ok, nat_lt}
use Rattle.std.specs.List.{list_all}
use Rattle.std.proofs.lemmas.List.{get_or_default}
use Rattle.std.proofs.lemmas.List.Elements.{All-contains}
use Rattle.std.proofs.lemmas.List.Sums.{AllPass-from_list_all}
use Rattle.zeb_extract.specs.Identifier.{identifier_of}
use Rattle.zeb_keys.specs.Order.{IsRising}
use Rattle.zeb_lower_laws.specs.Sample.{moby_dick, moby_dick_analysis, title_profile, date_at}
use Rattle.std.specs.List.Sorted.{IsStrictlySortedBy}
use Rattle.std.specs.Str.{chars, is_utf8}
use Rattle.std.specs.Fmt.{digits}
use Rattle.std.specs.Str.Lossy.{utf8_lossy, utf8_valid_len}
use lib.Utf8.{encode}
use Rattle.ucd_category.proofs.Computing.{ucd_category}
use Rattle.caseless.proofs.Computing.{caseless}
use Rattle.zeb_text.specs.Folding.{folded}
use Rattle.zeb_text.specs.Words.{is_word_character, runs_of}
use Rattle.zeb_text.specs.Numbers.{numerals_of, number_key}
use Rattle.zeb_extract.proofs.Listed.{occurrences_are_listed}
use Rattle.zeb_extract.proofs.Members.{from_map}

pub called : identifier_of title_profile moby_dick ≡ Ok (codes "a1")
unfolding utf8_lossy utf8_valid_len chars is_utf8 encode
called = refl

pub rising : IsRising moby_dick_analysis
unfolding IsStrictlySortedBy
rising = search rules

-- elements that are taken from a list by their places are members of it
module _ {X : Type 0} (xs : List X) (d : X) where
  abbrev pub taken : List ℕ → List X
  taken places = map (λ k. get_or xs k d) places

  taken_at : (k : ℕ) (x : X) → nat_lt k (length xs) ≡ true → get_or xs k d ≡ x → Contains xs x
  taken_at k x within is = let inside : k < length xs = grind (arith, within) in (k, inside, get_or_default xs k x d inside ∙ is)

  pub taken_within : (places : List ℕ) → list_all (λ k. nat_lt k (length xs)) places ≡ true → (x : X) → Contains (taken places) x → Contains xs x
  taken_within places within x h =
      let place = from_map (λ k. get_or xs k d) places x h in
      taken_at place.0 x (All-contains (λ k. nat_lt k (length xs) ≡ true) places place.0 (AllPass-from_list_all _ places within) place.1) place.2

none : Occurrence
none = date_at 0 []

-- the places in the analysis of what is found, unit after unit and target after target
abbrev found_places : List ℕ
found_places = 1 ∷ 0 ∷ 5 ∷ 9 ∷ 8 ∷ 2 ∷ 3 ∷ 4 ∷ 10 ∷ 11 ∷ 12 ∷ 6 ∷ 7 ∷ []

-- and the places of the analysis among what is found
abbrev analysis_places : List ℕ
analysis_places = 1 ∷ 0 ∷ 5 ∷ 6 ∷ 7 ∷ 2 ∷ 11 ∷ 12 ∷ 4 ∷ 3 ∷ 8 ∷ 9 ∷ 10 ∷ []

abbrev found : List Occurrence
found = taken moby_dick_analysis none found_places

found_is : listing (unit_targets title_profile) moby_dick ≡ found
unfolding utf8_lossy utf8_valid_len chars is_utf8 encode runs_of numerals_of number_key digits caseless ucd_category folded is_word_character
found_is = refl

analysis_is : moby_dick_analysis ≡ taken found none analysis_places
analysis_is = refl

same_members : (o : Occurrence) → Contains moby_dick_analysis o ↔ Contains found o
same_members o = (
  λ h. taken_within found none analysis_places refl o (subst (λ l. Contains l o) analysis_is h),
  λ h. taken_within moby_dick_analysis none found_places refl o h,
)

pub members : (o : Occurrence) → Contains moby_dick_analysis o ↔ IsOccurrence (unit_targets title_profile) moby_dick o
members o =
    let listed : Contains found o ↔ IsOccurrence (unit_targets title_profile) moby_dick o =
    subst (λ l. Contains l o ↔ IsOccurrence (unit_targets title_profile) moby_dick o) found_is
    (occurrences_are_listed (unit_targets title_profile) moby_dick o) in
    (λ h. listed.0 ((same_members o).0 h), λ is. (same_members o).1 (listed.1 is))
