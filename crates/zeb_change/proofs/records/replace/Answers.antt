use Rattle.zeb_change.proofs.Cited.{rules, Err, inr, refl, sym, ap, subst, register_refusal, kept_fault, AreOccurrencesOf}
use Rattle.zeb_change.proofs.RecordParts.{refused_as, unread, wrote}
use Rattle.zeb_change.proofs.records.replace.Goals as goal

pub returns-in_err-old-clause-supplants : goal.returns-in_err-old-clause-supplants
returns-in_err-old-clause-supplants g c clean mode store =
    let fault = c.in_err-old.field-0.0 in
    refused_as register_refusal _ _ _ (kept_fault fault) c.from_residual.result (search rules)
    (unread c.args.setting.now.profile.now c.args.newer.now.ident.now c.args.elder.now fault (λ damaged. c.in_err-old.ensures.damaged (ap Err damaged)) (λ memory. c.in_err-old.ensures.unread (ap Err memory)))

pub returns-clause-supplants : goal.returns-clause-supplants
returns-clause-supplants g c clean mode store =
    let was = subst (AreOccurrencesOf c.args.setting.now.profile.now c.args.elder.now.bytes.items) (sym c.deref.ensures.value) c.in_ok-old.ensures.read.1 in
    let are = subst (AreOccurrencesOf c.args.setting.now.profile.now c.args.newer.now.bytes.now) (sym c.deref-2.ensures.value) c.in_ok-new.ensures in
    inr (
      (λ same. let yes = c.if-has_bytes.ensures.1 same in cc),
      refl,
      refl,
      c.in_ok-old.ensures.read.0,
      record {
        rows = wrote _ _ _ store (c.in_ok-record_put.ensures.call.does.ok clean mode);
        noted = record { were = c.deref.result.now; are = c.deref-2.result.now; had = was; has = are; keys = c.in_ok-note_keys.ensures was.rising are.rising };
      },
    )
