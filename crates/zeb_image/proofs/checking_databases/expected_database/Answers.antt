use Rattle.zeb_image.proofs.Cited.{rules, ◌≡◌, Err, subst, string_bytes, state, ArePostingsOrNone, CanKeepAll}
use Rattle.zeb_register.specs.declared.RegFault.TheVariants.{Damaged}
use Rattle.zeb_register.proofs.Answered.{damage_of}
use Rattle.zeb_image.proofs.CheckedRecords.{sound_kept, sound_readable}
use Rattle.zeb_image.proofs.checking_databases.expected_database.Goals as goal

pub returns-in-Err-Damaged-clause-value : goal.returns-in-Err-Damaged-clause-value
returns-in-Err-Damaged-clause-value g c clean store sound =
    let trees = (state g.S.Store c.args.connection.now).now.trees in
    let damaged : c.records.result ≡ Err Damaged = search rules in
    damage_of _ _ _ (c.records.ensures.finds clean store) damaged (sound_readable c.args.profile.now trees c.args.listed.id.0 (string_bytes c.args.listed.name) c.args.listed.last sound)

pub returns-in_default-clause-value : goal.returns-in_default-clause-value
returns-in_default-clause-value g c clean store sound =
    let trees = (state g.S.Store c.args.connection.now).now.trees in
    let last = c.args.listed.last in
    let none = subst (ArePostingsOrNone c.args.profile.now last c.deref.result.now) c.in_default.is c.in_ok-postings.ensures in
    let kept = sound_kept c.args.profile.now trees c.args.listed.id.0 (string_bytes c.args.listed.name) last sound c.in-Ok.records.items (c.in-Ok.ensures.finds clean store) in
    let same : c.in-Ok.records.items ≡ c.deref.result.now = search rules in
    none (subst (CanKeepAll c.args.profile.now last) same kept)

pub returns-clause-call : goal.returns-clause-call
returns-clause-call g c =
    let call = c.in-Ok.ensures.call in
    record { idle = call.idle; ok = λ clean _. call.ok clean; same = call.same; crash = call.crash }
