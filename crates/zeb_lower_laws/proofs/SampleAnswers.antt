-- What files with the example record are answered.
use Rattle.zeb_analysis.proofs.Cited.{◌≡◌, ◌∙◌, ℕ, ◌+◌, List, [], ◌∷◌, ◌++◌, Some, None, Ok, Err, false, cond, refl, sym, ap, subst, Contains, ◌↔◌, unit_targets, identifier_of, IsOccurrence, option_or, AnalysesTo, AreAnalysesOf, IsAnalysisOf, Standing, at_place, place_at, first_refusal, refused_name, refused_record, standing_in_all, units_in}
use Rattle.std.specs.Prelude.{nat_le}
use Rattle.std.proofs.Common.{codes}
use Rattle.zeb_profile.specs.declared.directives.Directive.{Directive}
use Rattle.zeb_analysis.specs.declared.faults.AnalysisFault.TheVariants.{TooManyRecords, Marc, Ident}
use Rattle.zeb_extract.specs.declared.naming.IdentFault.TheVariants as ident
use Rattle.zeb_analysis.specs.Analysing.{refusal_at, standing_in}
use Rattle.zeb_marc.specs.Leader.{are_digits, number_of, counts, has_counts, ends_directory, has_base_address}
use Rattle.zeb_marc.specs.Directory.{has_digits, is_in_area}
use Rattle.zeb_marc.specs.Records.{first_fault, fields_of}
use Rattle.zeb_marc.specs.Contents.{units_of}
use Rattle.zeb_marc.specs.Splits.{next_of, split_of}
use Rattle.zeb_marc.specs.declared.faults.MarcFault.TheVariants.{NoTerminator, Truncated}
use Rattle.zeb_lower_laws.specs.Sample.{moby_dick, title_profile}
use Rattle.zeb_lower_laws.specs.WholeAnalyses.{moby_dick_at, named_by_isbn}
use Rattle.zeb_lower_laws.specs.WorkedRecord.{unended_record, worked_record, worked_stream}
use Rattle.zeb_lower_laws.proofs.SampleAnalysis.{called, rising, members}

pub sound : first_fault worked_record ≡ None
unfolding first_fault are_digits number_of counts has_counts ends_directory has_base_address has_digits is_in_area
sound = refl

pub units_are : units_in worked_record ≡ moby_dick
unfolding fields_of are_digits number_of counts has_counts ends_directory has_base_address has_digits is_in_area units_of
units_are = refl

pub named : identifier_of title_profile (units_in worked_record) ≡ Ok (codes "a1")
named = ap (identifier_of title_profile) units_are ∙ called

pub analysed_at : (file nth : ℕ) → IsAnalysisOf title_profile (at_place file nth (Ok worked_record)) (moby_dick_at file nth)
analysed_at file nth = record {
  bytes = worked_record;
  stands = refl;
  same_file = refl;
  same_place = refl;
  sound = sound;
  called = named;
  rising = rising;
  members = λ o. subst (λ units. Contains (moby_dick_at file nth).occurrences o ↔ IsOccurrence (unit_targets title_profile) units o) (sym units_are) (members o);
}

-- ---- what stands in the files
abbrev moby_at : ℕ → ℕ → Standing
moby_at file nth = at_place file nth (Ok worked_record)

abbrev pub three_records : List (List ℕ)
three_records = (worked_record ++ 10 ∷ worked_record) ∷ worked_record ∷ []

three_stand : standing_in_all 1 three_records ≡ moby_at 1 1 ∷ moby_at 1 2 ∷ moby_at 2 1 ∷ []
unfolding are_digits number_of standing_in split_of next_of
three_stand = refl

faulty_stand : standing_in_all 1 ((worked_record ++ 10 ∷ worked_record) ∷ unended_record ∷ []) ≡ moby_at 1 1 ∷ moby_at 1 2 ∷ at_place 2 1 (Ok unended_record) ∷ []
unfolding are_digits number_of standing_in split_of next_of
faulty_stand = refl

alone_stands : standing_in_all 1 (unended_record ∷ []) ≡ at_place 1 1 (Ok unended_record) ∷ []
unfolding are_digits number_of standing_in split_of next_of
alone_stands = refl

stream_stands : standing_in_all 1 (worked_stream ∷ []) ≡ moby_at 1 1 ∷ moby_at 1 2 ∷ at_place 1 3 (Err Truncated) ∷ []
unfolding are_digits number_of standing_in split_of next_of
stream_stands = refl

unended_stands : standing_in_all 1 (worked_record ∷ (worked_record ++ unended_record) ∷ []) ≡ moby_at 1 1 ∷ moby_at 2 1 ∷ at_place 2 2 (Ok unended_record) ∷ []
unfolding are_digits number_of standing_in split_of next_of
unended_stands = refl

one_stands : standing_in_all 1 (worked_record ∷ []) ≡ moby_at 1 1 ∷ []
unfolding are_digits number_of standing_in split_of next_of
one_stands = refl

-- ---- what is refused of it
passes : (limit before file nth : ℕ) → nat_le limit before ≡ false → refusal_at title_profile limit before (moby_at file nth) ≡ None
unfolding refusal_at
passes limit before file nth room =
    ap (λ over. cond over (Some TooManyRecords) (refused_record title_profile file nth worked_record (first_fault worked_record))) room
    ∙ ap (refused_record title_profile file nth worked_record) sound ∙ ap (refused_name file nth) named

onward : (profile : List Directive) (limit before : ℕ) (standing : Standing) (others : List Standing) → refusal_at profile limit before standing ≡ None
    → first_refusal profile limit before (standing ∷ others) ≡ first_refusal profile limit (before + 1) others
onward profile limit before standing others passed = ap (λ o. option_or o (first_refusal profile limit (before + 1) others)) passed

-- the first two pass
past_two : (limit : ℕ) (file nth : ℕ) (others : List Standing) → nat_le limit 0 ≡ false → nat_le limit 1 ≡ false
    → first_refusal title_profile limit 0 (moby_at 1 1 ∷ moby_at file nth ∷ others) ≡ first_refusal title_profile limit 2 others
past_two limit file nth others none one =
    onward title_profile limit 0 (moby_at 1 1) (moby_at file nth ∷ others) (passes limit 0 1 1 none)
    ∙ onward title_profile limit 1 (moby_at file nth) others (passes limit 1 file nth one)

pub three_accepted : AnalysesTo title_profile 3 three_records (Ok (moby_dick_at 1 1 ∷ moby_dick_at 1 2 ∷ moby_dick_at 2 1 ∷ []))
three_accepted = (
  ap (first_refusal title_profile 3 0) three_stand ∙ past_two 3 1 2 (moby_at 2 1 ∷ []) refl refl
      ∙ onward title_profile 3 2 (moby_at 2 1) [] (passes 3 2 2 1 refl),
  subst (λ standings. AreAnalysesOf title_profile standings (moby_dick_at 1 1 ∷ moby_dick_at 1 2 ∷ moby_dick_at 2 1 ∷ [])) (sym three_stand)
      (analysed_at 1 1, (analysed_at 1 2, (analysed_at 2 1, tt))),
)

pub too_many : AnalysesTo title_profile 2 ((worked_record ++ 10 ∷ worked_record) ∷ unended_record ∷ []) (Err TooManyRecords)
unfolding refusal_at
too_many = ap (first_refusal title_profile 2 0) faulty_stand ∙ past_two 2 1 2 (at_place 2 1 (Ok unended_record) ∷ []) refl refl

pub left_over : AnalysesTo title_profile 2 (worked_stream ∷ []) (Err (Marc (place_at 1 3) Truncated))
unfolding refusal_at
left_over = ap (first_refusal title_profile 2 0) stream_stands ∙ past_two 2 1 2 (at_place 1 3 (Err Truncated) ∷ []) refl refl

not_ended : first_fault unended_record ≡ Some NoTerminator
unfolding first_fault are_digits number_of counts has_counts ends_directory has_base_address has_digits is_in_area
not_ended = refl

pub second_faulty : AnalysesTo title_profile 3 (worked_record ∷ (worked_record ++ unended_record) ∷ []) (Err (Marc (place_at 2 2) NoTerminator))
unfolding refusal_at
second_faulty =
    ap (first_refusal title_profile 3 0) unended_stands ∙ past_two 3 2 1 (at_place 2 2 (Ok unended_record) ∷ []) refl refl
    ∙ ap (λ fault. option_or (refused_record title_profile 2 2 unended_record fault) None) not_ended

pub unnamed : AnalysesTo named_by_isbn 3 (worked_record ∷ []) (Err (Ident (place_at 1 1) ident.NoIdentifier))
unfolding refusal_at
unnamed =
    ap (first_refusal named_by_isbn 3 0) one_stands
    ∙ ap (λ fault. option_or (refused_record named_by_isbn 1 1 worked_record fault) None) sound
    ∙ ap (λ units. option_or (refused_name 1 1 (identifier_of named_by_isbn units)) None) units_are

pub faulty_first : AnalysesTo named_by_isbn 3 (unended_record ∷ []) (Err (Marc (place_at 1 1) NoTerminator))
unfolding refusal_at
faulty_first =
    ap (first_refusal named_by_isbn 3 0) alone_stands
    ∙ ap (λ fault. option_or (refused_record named_by_isbn 1 1 unended_record fault) None) not_ended
