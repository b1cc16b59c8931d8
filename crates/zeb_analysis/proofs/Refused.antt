-- What is said of a record, once it is known whether it may come, whether it is one, and under which identifier.
use Rattle.zeb_analysis.proofs.Cited.{◌≡◌, ◌≢◌, ◌∙◌, ℕ, ◌<◌, ◌≤◌, Bool, cond, List, Some, None, Ok, Err, refl, ap, le-leb, lt-leb, Directive, MarcFault, first_fault, IdentFault, identifier_of, Marc, TooManyRecords, Memory, ident_fault, at_place, refused_name, refused_record, units_in, place_at}
use Rattle.zeb_extract.specs.declared.naming.IdentFault.TheVariants as ident
use Rattle.zeb_analysis.specs.Analysing.{refusal_at}

module _ (profile : List Directive) (limit before file nth : ℕ) (bytes : List ℕ) where
  -- the limit is reached
  pub one_too_many : limit ≤ before → refusal_at profile limit before (at_place file nth (Ok bytes)) ≡ Some TooManyRecords
  unfolding refusal_at
  one_too_many le = ap (λ (b : Bool). cond b (Some TooManyRecords) (refused_record profile file nth bytes (first_fault bytes))) (le-leb limit before le)

  looked_at : before < limit → refusal_at profile limit before (at_place file nth (Ok bytes)) ≡ refused_record profile file nth bytes (first_fault bytes)
  unfolding refusal_at
  looked_at lt = ap (λ (b : Bool). cond b (Some TooManyRecords) (refused_record profile file nth bytes (first_fault bytes))) (lt-leb limit before lt)

  pub no_record : before < limit → (fault : MarcFault) → first_fault bytes ≡ Some fault → refusal_at profile limit before (at_place file nth (Ok bytes)) ≡ Some (Marc (place_at file nth) fault)
  no_record lt fault found = looked_at lt ∙ ap (refused_record profile file nth bytes) found

  whole_record : before < limit → first_fault bytes ≡ None
      → refusal_at profile limit before (at_place file nth (Ok bytes)) ≡ refused_name file nth (identifier_of profile (units_in bytes))
  whole_record lt whole = looked_at lt ∙ ap (refused_record profile file nth bytes) whole

  pub no_name : before < limit → first_fault bytes ≡ None → (fault : IdentFault) → (fault ≢ ident.Memory → identifier_of profile (units_in bytes) ≡ Err fault)
      → ident_fault (place_at file nth) fault ≢ Memory → refusal_at profile limit before (at_place file nth (Ok bytes)) ≡ Some (ident_fault (place_at file nth) fault)
  no_name lt whole ident.NoIdentifier said other = whole_record lt whole ∙ ap (refused_name file nth) (said (λ same. cc))
  no_name lt whole ident.BadIdentifier said other = whole_record lt whole ∙ ap (refused_name file nth) (said (λ same. cc))
  no_name lt whole ident.Memory said other = absurd (other refl)

  pub named_record : before < limit → first_fault bytes ≡ None → (ident : List ℕ) → identifier_of profile (units_in bytes) ≡ Ok ident
      → refusal_at profile limit before (at_place file nth (Ok bytes)) ≡ None
  named_record lt whole ident called = whole_record lt whole ∙ ap (refused_name file nth) called
