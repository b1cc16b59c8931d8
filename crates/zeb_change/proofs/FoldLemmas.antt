-- What is said of one record, once it is known whether it is one, and under which identifier.
use Rattle.zeb_change.proofs.Cited.{◌≡◌, ◌≢◌, ◌⊎◌, ◌∙◌, ℕ, List, Some, None, Ok, Err, inl, inr, refl, ap, MarcFault, first_fault, IdentFault, Kind, why_of, IsFailing, Conditions, changed_by, with_ident, with_record, ident_in, Base, marc_refusal, identifier_refusal}
use Rattle.zeb_extract.specs.declared.naming.IdentFault.TheVariants as ident_fault
use Rattle.zeb_change.specs.Folding.{changed_record}

module _ (c : Conditions) (kind : Kind) (file nth : ℕ) (bytes : List ℕ) (base : Base) where
  pub no_record : (fault : MarcFault) → first_fault bytes ≡ Some fault → changed_record c kind file nth bytes base ≡ Err (why_of (marc_refusal file nth fault))
  unfolding changed_record
  no_record fault found = ap (with_record c kind file nth bytes base) found

  whole_record : first_fault bytes ≡ None → changed_record c kind file nth bytes base ≡ with_ident c kind file nth bytes base (ident_in c.profile bytes)
  unfolding changed_record
  whole_record whole = ap (with_record c kind file nth bytes base) whole

  pub no_ident : (fault : IdentFault) → first_fault bytes ≡ None → (fault ≢ ident_fault.Memory → ident_in c.profile bytes ≡ Err fault)
      → IsFailing (why_of (identifier_refusal file nth fault)) ⊎ (changed_record c kind file nth bytes base ≡ Err (why_of (identifier_refusal file nth fault)))
  no_ident ident_fault.Memory whole said = inl (inr refl)
  no_ident _ whole said = inr (whole_record whole ∙ ap (with_ident c kind file nth bytes base) (said (λ same. cc)))

  pub named_record : (ident : List ℕ) → first_fault bytes ≡ None → ident_in c.profile bytes ≡ Ok ident → changed_record c kind file nth bytes base ≡ changed_by c kind file nth bytes ident base
  named_record ident whole named = whole_record whole ∙ ap (with_ident c kind file nth bytes base) named
