use Rattle.zeb_analysis.proofs.Cited.{◌≡◌, ◌≢◌, ◌↔◌, ◌∙◌, refl, sym, ap, subst, Some, Err, string_bytes, Contains, units_of, unit_targets, IsOccurrence, identifier_of, units_in}
use Rattle.zeb_extract.specs.declared.naming.IdentFault.TheVariants.{Memory}
use Rattle.zeb_analysis.proofs.Refused.{named_record, no_name, no_record, one_too_many}
use Rattle.zeb_analysis.proofs.analysing.analyse_record.Goals as goal

pub returns-then-before-setting-clause-err : goal.returns-then-before-setting-clause-err
returns-then-before-setting-clause-err c other =
    one_too_many c.args.setting.now.profile.now c.args.setting.now.limit c.args.before c.args.place.file c.args.place.nth c.args.bytes.now c.if-before-setting.true

pub returns-in-Err-clause-err : goal.returns-in-Err-clause-err
returns-in-Err-clause-err c other =
    no_record c.args.setting.now.profile.now c.args.setting.now.limit c.args.before c.args.place.file c.args.place.nth c.args.bytes.now c.if-before-setting.false
    c.in-Err.fault c.in-Err.ensures

pub returns-in-Err-identifier-clause-err : goal.returns-in-Err-identifier-clause-err
returns-in-Err-identifier-clause-err c other =
    let profile = c.args.setting.now.profile.now in
    let bytes = c.args.bytes.now in
    let problem = c.in-Err-identifier.fault in
    let said : problem ≢ Memory → identifier_of profile (units_in bytes) ≡ Err problem = λ otherwise.
    ap (λ fields. identifier_of profile (units_of fields)) (sym c.in-Ok.ensures.fields_are) ∙ c.in-Err-identifier.ensures.err otherwise in
    let is = c.of_identifier.ensures in
    no_name profile c.args.setting.now.limit c.args.before c.args.place.file c.args.place.nth bytes c.if-before-setting.false c.in-Ok.ensures.sound problem said (λ same. other (is ∙ same))
    ∙ ap Some (sym is)

pub returns-clause-passed : goal.returns-clause-passed
returns-clause-passed c =
    let profile = c.args.setting.now.profile.now in
    named_record profile c.args.setting.now.limit c.args.before c.args.place.file c.args.place.nth c.args.bytes.now c.if-before-setting.false c.in-Ok.ensures.sound
    (string_bytes c.in-Ok-identifier.ident) (ap (λ fields. identifier_of profile (units_of fields)) (sym c.in-Ok.ensures.fields_are) ∙ c.in-Ok-identifier.ensures.ok)

pub returns-clause-ok : goal.returns-clause-ok
returns-clause-ok c =
    let profile = c.args.setting.now.profile.now in
    record {
      bytes = c.args.bytes.now;
      stands = refl;
      same_file = refl;
      same_place = refl;
      sound = c.in-Ok.ensures.sound;
      called = ap (λ fields. identifier_of profile (units_of fields)) (sym c.in-Ok.ensures.fields_are) ∙ c.in-Ok-identifier.ensures.ok;
      rising = c.in_ok-occurrences.ensures.rising;
      members = λ o. subst (λ fields. Contains c.in_ok-occurrences.field-0.items o ↔ IsOccurrence (unit_targets profile) (units_of fields) o) c.in-Ok.ensures.fields_are (c.in_ok-occurrences.ensures.members o);
    }
