use Rattle.zeb_engine.proofs.Cited.{◌≡◌, false, Result, Ok, Err, IsTrue, rules, ap, inr, state, clean_before, version_of, store_same, register_refusal, Reply, Done, Check, Refusal}
use Rattle.zeb_change.specs.declared.refusals.Refusal.TheVariants as refusal
use Rattle.zeb_engine.proofs.CheckAnswers.{check_serves, damage_serves, tells_none, tells_some}
use Rattle.zeb_engine.proofs.CommandsDone.{check_done}
use Rattle.zeb_engine.proofs.ReadyDone.{held_behind, reads_after, texts_after, unready_done}
use Rattle.zeb_engine.proofs.ListedDatabases.{fault_fails}
use Rattle.zeb_engine.proofs.ReadyTexts.{fault_never, fault_reads}
use Rattle.zeb_engine.proofs.ServesLemmas.{keeps_still}
use Rattle.zeb_engine.proofs.StoreCauses.{fault_caused}
use Rattle.zeb_engine.proofs.registers.Session.check.Goals as goal
use Rattle.zeb_engine.specs.Sessions.{conditions_in}

pub returns-in_err-check_ready-clause-done : goal.returns-in_err-check_ready-clause-done
returns-in_err-check_ready-clause-done g c =
    let told : c.from_residual.result ≡ Err c.in_err-check_ready.field-0.0 = search rules in
    rw told (unready_done g.L.Layout.format g.L.Layout.row_work g.L.Layout.block_rows c.args.self.now.limits c.in_err-check_ready.ensures.looks c.args.self.now.work c.requires.fresh (Check) tt)

pub returns-in_err-is_image-clause-done : goal.returns-in_err-is_image-clause-done
returns-in_err-is_image-clause-done g c =
    let held = c.args.self.now in
    let k = conditions_in g.L.Layout.format held in
    let old = state g.S.Store held.connection in
    let new = c.is_image.new.connection in
    let looked = c.in_ok-check_ready.ensures.looks in
    let image = c.in_err-is_image.ensures in
    let call = image.call in
    let first = clean_before (state g.S.Store c.check_ready.new.connection) (state g.S.Store new) call.crash in
    let fault = c.in_err-is_image.field-0.0 in
    let answer : Result Reply Refusal = Err (register_refusal fault) in
    let told : c.from_residual-in_err-is_image.result ≡ answer = search rules in
    let failed = fault_fails fault (λ is. image.honest (ap Err is)) in
    let reads = reads_after looked new answer (record { idle = call.idle looked.reads.idle; same = λ clean. call.same clean looked.reads.idle; opened = λ clean. tt; crash = call.crash; caused = λ clean store. fault_caused fault (λ is. image.refused clean store (ap Err is)) }) in
    rw told (check_done g.L.Layout.format g.L.Layout.row_work g.L.Layout.block_rows k reads (fault_reads fault) held.work held.work c.requires.fresh
    (λ clean before fits keeps. inr (failed, keeps_still before old (state g.S.Store new) (reads.same clean) keeps)) (texts_after looked new first answer (fault_never {T = Reply} fault)) (λ clean store texts. inr (inr failed)))

pub returns-then-branch-clause-done : goal.returns-then-branch-clause-done
returns-then-branch-clause-done g c =
    let held = c.args.self.now in
    let k = conditions_in g.L.Layout.format held in
    let old = state g.S.Store held.connection in
    let mid = state g.S.Store c.check_ready.new.connection in
    let new = c.is_image.new.connection in
    let looked = c.in_ok-check_ready.ensures.looks in
    let image = c.in_ok-is_image.ensures in
    let call = image.call in
    let first = clean_before mid (state g.S.Store new) call.crash in
    let it = c.in_ok-is_image.field-0 in
    let yes : IsTrue it = search rules in
    let answer : Result Reply Refusal = Ok Done in
    let reads = reads_after looked new answer (record { idle = call.idle looked.reads.idle; same = λ clean. call.same clean looked.reads.idle; opened = λ clean. let seen = call.ok clean in (seen.0, (seen.1 yes).0.is_open); crash = call.crash; caused = λ clean store. tt }) in
    check_done g.L.Layout.format g.L.Layout.row_work g.L.Layout.block_rows k reads (λ file is. cc) held.work held.work c.requires.fresh
    (λ clean. check_serves k old mid (state g.S.Store new) (λ before keeps. let at = held_behind looked new first held.limits clean before keeps in (at.0, at.1, at.2)) (reads.same clean))
    (texts_after looked new first answer (λ is. cc, λ is. cc, λ is. cc))
    (λ clean store texts. let still = (looked.reads.same (first clean) (looked.reads.opened (first clean)).1).1 in tells_some k (version_of g.L.Layout.format) old mid still it (image.value clean (store_same old mid still store)) yes)

pub returns-else-branch-clause-done : goal.returns-else-branch-clause-done
returns-else-branch-clause-done g c =
    let held = c.args.self.now in
    let k = conditions_in g.L.Layout.format held in
    let old = state g.S.Store held.connection in
    let mid = state g.S.Store c.check_ready.new.connection in
    let new = c.is_image.new.connection in
    let looked = c.in_ok-check_ready.ensures.looks in
    let image = c.in_ok-is_image.ensures in
    let call = image.call in
    let first = clean_before mid (state g.S.Store new) call.crash in
    let it = c.in_ok-is_image.field-0 in
    let no : it ≡ false = search rules in
    let answer : Result Reply Refusal = Err refusal.Damaged in
    let reads = reads_after looked new answer (record { idle = call.idle looked.reads.idle; same = λ clean. call.same clean looked.reads.idle; opened = λ clean. tt; crash = call.crash; caused = λ clean store is. absurd cc }) in
    check_done g.L.Layout.format g.L.Layout.row_work g.L.Layout.block_rows k reads (λ file is. cc) held.work held.work c.requires.fresh
    (λ clean. damage_serves k old mid (state g.S.Store new) (λ before keeps. let at = held_behind looked new first held.limits clean before keeps in (at.0, at.1, at.2)) (looked.reads.same (first clean)) it (image.value clean) no)
    (texts_after looked new first answer (λ is. cc, λ is. cc, λ is. cc))
    (λ clean store texts. let still = (looked.reads.same (first clean) (looked.reads.opened (first clean)).1).1 in tells_none k (version_of g.L.Layout.format) old mid still it (image.value clean (store_same old mid still store)) texts no)
