use Rattle.zeb_engine.proofs.Cited.{◌≡◌, Err, rules, arith, subst, sym, state, HasCleanDisk, name_bytes, Create, Reply, IsReady, CreatesDatabase, turned, created}
use Rattle.zeb_engine.proofs.ChangeNumbers.{showing}
use Rattle.zeb_engine.proofs.MadeTables.{creates_makes, creates_told}
use Rattle.zeb_engine.proofs.ReadsInTurn.{asked_never, asked_unread}
use Rattle.zeb_engine.proofs.ReadyDone.{commanded_after, rows_behind, texts_after, turn_commits, turn_serves, unready_done}
use Rattle.zeb_engine.proofs.TransactedOutcomes.{LeadsOn, rows_commit, rows_serve}
use Rattle.zeb_engine.proofs.WriteSteps.{create_leads, create_refuses}
use Rattle.zeb_engine.proofs.TurnedOutcomes.{Leads}
use Rattle.zeb_engine.proofs.registers.Session.create.Goals as goal
use Rattle.zeb_engine.specs.Sessions.{conditions_in}

pub returns-in_err-check_ready-clause-done : goal.returns-in_err-check_ready-clause-done
returns-in_err-check_ready-clause-done g c =
    let held = c.args.self.now in
    let told : c.from_residual.result ≡ Err c.in_err-check_ready.field-0.0 = search rules in
    rw told (unready_done g.L.Layout.format g.L.Layout.row_work g.L.Layout.block_rows held.limits c.in_err-check_ready.ensures.looks held.work c.requires.fresh (Create c.args.name.now) tt)

pub returns-clause-done : goal.returns-clause-done
returns-clause-done g c =
    let held = c.args.self.now in
    let format = g.L.Layout.format in
    let k = conditions_in format held in
    let name = name_bytes c.args.name.now in
    let old = state g.S.Store held.connection in
    let mid = state g.S.Store c.check_ready.new.connection in
    let end = c.create_database.new.connection in
    let new = state g.S.Store end in
    let answer = c.create_database.result in
    let looked = c.in_ok-check_ready.ensures.looks in
    let did = c.create_database.ensures in
    let first : HasCleanDisk new → HasCleanDisk mid = λ clean. omega (arith, did.transacts.survives.clean) in
    let step = turned k (created name) in
    let leads : LeadsOn (CreatesDatabase name) (IsReady k) step mid =
    λ before store image known next told does. subst (λ (r : Reply). Leads (showing mid next) r (step before)) (sym does.1) (create_leads k mid name before image known.0 known.1 c.args.name.now.named next does.0 does.2) in
    record {
      call = commanded_after looked end first answer did.commanded.call;
      survives = turn_commits looked end first held.limits (created name) _ (rows_commit (CreatesDatabase name) (IsReady k) step mid leads) did.transacts.survives;
      step = turn_serves looked end first held.limits (created name) answer (λ clean opened. rows_serve (CreatesDatabase name) (IsReady k) step mid leads opened
          (λ before image known next refusal does. create_refuses k mid name before image known.0 known.1 next refusal does) new answer did.commanded.call did.transacts clean);
      does = λ clean settled. let rows = rows_behind looked end first (CreatesDatabase name) answer did.transacts clean in record {
        ready = texts_after looked end first answer (asked_never answer did.few) clean;
        told = λ store texts. creates_told name old new answer (rows store);
        makes = creates_makes name old new answer rows;
      };
      answers = asked_unread answer did.few;
      counts = record { counted = c.requires.fresh; none = λ _. c.requires.fresh };
    }
