use Rattle.zeb_change.proofs.Cited.{rules, Err, refl, sym, ap, subst, [], register_refusal, kept_fault, AreOccurrencesOf}
use Rattle.zeb_change.proofs.RecordParts.{refused_as, unread, wrote}
use Rattle.zeb_change.proofs.TurnLemmas.{none_rise}
use Rattle.zeb_change.proofs.records.withdraw.Goals as goal

pub returns-in_err-old-clause-withdraws : goal.returns-in_err-old-clause-withdraws
returns-in_err-old-clause-withdraws g c clean mode store =
    let fault = c.in_err-old.field-0.0 in
    refused_as register_refusal _ _ _ (kept_fault fault) c.from_residual.result (search rules)
    (unread c.args.setting.now.profile.now c.args.ident.now c.args.elder.now fault (λ damaged. c.in_err-old.ensures.damaged (ap Err damaged)) (λ memory. c.in_err-old.ensures.unread (ap Err memory)))

pub returns-clause-withdraws : goal.returns-clause-withdraws
returns-clause-withdraws g c clean mode store =
    let was = subst (AreOccurrencesOf c.args.setting.now.profile.now c.args.elder.now.bytes.items) (sym c.deref.ensures.value) c.in_ok-old.ensures.read.1 in (
      refl,
      refl,
      c.in_ok-old.ensures.read.0,
      record {
        rows = wrote _ _ _ store (c.in_ok-record_take.ensures.call.does.ok clean mode);
        noted = record { were = c.deref.result.now; are = []; had = was; has = refl; keys = c.in_ok-note_keys.ensures was.rising none_rise };
      },
    )
