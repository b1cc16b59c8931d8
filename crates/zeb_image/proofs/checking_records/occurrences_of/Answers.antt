use Rattle.zeb_image.proofs.Cited.{rules, ◌≡◌, ◌∙◌, ◌↔◌, List, IsTrue, Ok, sym, ap, subst, arith, IsUtf8-string_bytes, Contains, FieldText, fields_of, first_fault, units_of, unit_targets, identifier_of, IsOccurrence, Occurrence}
use Rattle.zeb_image.proofs.checking_records.occurrences_of.Goals as goal

pub returns : goal.returns
returns c =
    let profile = c.args.profile.now in
    let bytes = c.args.kept.now.bytes.items in
    let fields : c.in-Ok.marc ≡ fields_of bytes = c.in-Ok.ensures.fields_are ∙ ap fields_of c.deref.ensures.value in
    let is_named : IsTrue c.in_ok-is_named.field-0 = search rules in (
      record {
        from_one = omega (arith, c.if-kept-eq0.false);
        to_last = omega (arith, c.if-kept-last.false);
        is = record {
          whole = sym (ap first_fault c.deref.ensures.value) ∙ c.in-Ok.ensures.sound;
          named = ap (λ (f : List FieldText). identifier_of profile (units_of f)) (sym fields) ∙ c.in_ok-is_named.ensures.0 is_named ∙ ap Ok c.as_str.ensures.value;
          text = IsUtf8-string_bytes c.args.kept.now.ident;
        };
      },
      subst (λ (f : List FieldText). (o : Occurrence) → Contains c.in_ok-occurrences.field-0.items o ↔ IsOccurrence (unit_targets profile) (units_of f) o) fields c.in_ok-occurrences.ensures.members,
    )
