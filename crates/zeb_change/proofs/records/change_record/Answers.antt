use Rattle.zeb_change.proofs.Cited.{◌≡◌, ◌∙◌, arith, rules, IsTrue, Result, Ok, Err, ap, sym, subst, state, HasCleanDisk, IsStore, store_same, as_refusal, change_refusal, turn_refusal, TurnFault, Fate, ChangesRecord, IsSound, point, Turn}
use Rattle.zeb_change.specs.declared.part_faults.TurnFault.TheVariants.{Register}
use Rattle.zeb_change.proofs.RecordParts.{look_failed, refused_as, turned}
use Rattle.zeb_change.proofs.records.change_record.Given as given
use Rattle.zeb_change.proofs.records.change_record.Goals.{After-turn_record}
use Rattle.zeb_change.proofs.records.change_record.Goals as goal

pub returns-in_err-elder-clause-changes : goal.returns-in_err-elder-clause-changes
returns-in_err-elder-clause-changes g c clean mode store =
    let sound : IsSound c.args.setting.now.profile.now c.as_str-ident.result.now c.args.incoming.bytes.now =
    record { whole = c.in_ok-marc.ensures.reads.0.sound; named = c.in_ok-marc.ensures.reads.1 ∙ ap Ok (sym c.as_str-ident.ensures.value); text = c.as_str-ident.utf8 } in
    refused_as change_refusal _ _ _ (Turn (Register c.in_err-elder.field-0.0)) c.from_residual-in_err-elder.result (search rules)
    (look_failed c.args.setting.now c.args.progress.now.database.0 c.args.incoming.file c.args.incoming.nth c.args.incoming.bytes.now (state g.S.Store c.args.tx.now.conn.now) store c.args.pending.now c.args.progress.now.last
    c.as_str-ident.result.now sound c.in_err-elder.field-0.0 (λ damaged. c.in_err-elder.ensures.found.looks.finds clean mode store damaged))

-- what is done behind the look
done : (g : given.Over) (c : After-turn_record g) → HasCleanDisk (state g.S.Store c.turn_record.new.tx.conn.now) → IsTrue (state g.S.Store c.args.tx.now.conn.now).in_transaction
    → IsStore (state g.S.Store c.args.tx.now.conn.now) → (result : Result Fate TurnFault) → c.turn_record.result ≡ result
    → ChangesRecord c.args.setting.now c.args.progress.now.database.0 c.args.incoming.file c.args.incoming.nth c.args.incoming.bytes.now
    (point (state g.S.Store c.args.tx.now.conn.now) c.args.pending.now c.args.progress.now.last)
    (point (state g.S.Store c.turn_record.new.tx.conn.now) c.turn_record.new.pending c.turn_record.new.progress.last) (as_refusal turn_refusal result)
done g c clean mode store result told =
    let old = state g.S.Store c.args.tx.now.conn.now in
    let mid = state g.S.Store c.record_of_ident.new.tx.conn.now in
    let new = point (state g.S.Store c.turn_record.new.tx.conn.now) c.turn_record.new.pending c.turn_record.new.progress.last in
    let was : HasCleanDisk mid = omega (arith, c.turn_record.ensures.inside.does.crash.clean) in
    let look = c.in_ok-elder.ensures.found.looks.call.ok was mode in
    let sound : IsSound c.args.setting.now.profile.now c.as_str-ident.result.now c.args.incoming.bytes.now =
    record { whole = c.in_ok-marc.ensures.reads.0.sound; named = c.in_ok-marc.ensures.reads.1 ∙ ap Ok (sym c.as_str-ident.ensures.value); text = c.as_str-ident.utf8 } in
    subst (λ (r : Result Fate TurnFault). ChangesRecord c.args.setting.now c.args.progress.now.database.0 c.args.incoming.file c.args.incoming.nth c.args.incoming.bytes.now
    (point old c.args.pending.now c.args.progress.now.last) new (as_refusal turn_refusal r)) told
    (turned c.args.setting.now c.args.progress.now.database.0 c.args.incoming.file c.args.incoming.nth c.args.incoming.bytes.now old store c.args.pending.now c.args.progress.now.last
    c.as_str-ident.result.now sound mid look.now_is c.in_ok-elder.elder (c.in_ok-elder.ensures.found.looks.finds was mode store) new (as_refusal turn_refusal c.turn_record.result)
    (c.turn_record.ensures.turns clean look.mode (store_same old mid look.now_is store)))

pub returns-in_err-turn_record-clause-changes : goal.returns-in_err-turn_record-clause-changes
returns-in_err-turn_record-clause-changes g c clean mode store =
    let fault = c.in_err-turn_record.field-0.0 in
    refused_as change_refusal _ _ _ (Turn fault) c.from_residual-in_err-turn_record.result (search rules)
    (done g (goal.at.returns-in_err-turn_record-clause-changes g c).After-turn_record clean mode store (Err fault) (search rules))

pub returns-clause-changes : goal.returns-clause-changes
returns-clause-changes g c clean mode store =
    done g (goal.at.returns-clause-changes g c).After-turn_record clean mode store (Ok c.in_ok-turn_record.field-0) (search rules)
