-- The example record has one occurrence under the example profile.
use Rattle.zeb_extract.proofs.Cited.{◌≡◌, [], ◌∷◌, refl, sym, subst, Contains, unit_targets, IsOccurrence, listing, first_member}
use Rattle.zeb_keys.specs.declared.keys.Occurrence.{Occurrence}
use Rattle.std.proofs.Common.{codes}
use Rattle.zeb_keys.proofs.Members.{only_member}
use Rattle.zeb_lower_laws.specs.Sample.{moby_dick, date_profile, date_at}
use Rattle.std.specs.Str.{chars, is_utf8}
use Rattle.std.specs.Fmt.{digits}
use Rattle.std.specs.Str.Lossy.{utf8_lossy, utf8_valid_len}
use lib.Utf8.{encode}
use Rattle.zeb_text.specs.Words.{runs_of}
use Rattle.zeb_text.specs.Numbers.{numerals_of, number_key}
use Rattle.zeb_extract.proofs.Listed.{occurrences_are_listed}

pub listing_is : listing (unit_targets date_profile) moby_dick ≡ date_at 4 (codes "000000000000001851") ∷ []
unfolding utf8_lossy utf8_valid_len chars is_utf8 encode runs_of numerals_of number_key digits
listing_is = refl

pub date_found : IsOccurrence (unit_targets date_profile) moby_dick (date_at 4 (codes "000000000000001851"))
date_found =
    let o = date_at 4 (codes "000000000000001851") in
    (occurrences_are_listed (unit_targets date_profile) moby_dick o).0 (subst (λ found. Contains found o) (sym listing_is) (first_member o []))

pub no_other : (o : Occurrence) → IsOccurrence (unit_targets date_profile) moby_dick o → o ≡ date_at 4 (codes "000000000000001851")
no_other o is =
    let listed = (occurrences_are_listed (unit_targets date_profile) moby_dick o).1 is in
    sym (only_member _ o (subst (λ found. Contains found o) listing_is listed))
