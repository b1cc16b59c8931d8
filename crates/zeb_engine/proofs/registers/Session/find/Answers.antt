use Rattle.zeb_engine.proofs.Cited.{◌≡◌, Err, rules, Find}
use Rattle.zeb_engine.proofs.AskedDone.{find_behind}
use Rattle.zeb_engine.proofs.ReadyDone.{unready_done}
use Rattle.zeb_engine.proofs.registers.Session.find.Goals as goal

pub returns-in_err-check_ready-clause-done : goal.returns-in_err-check_ready-clause-done
returns-in_err-check_ready-clause-done g c query same =
    let held = c.args.self.now in
    let told : c.from_residual.result ≡ Err c.in_err-check_ready.field-0.0 = search rules in
    rw told (unready_done g.L.Layout.format g.L.Layout.row_work g.L.Layout.block_rows held.limits c.in_err-check_ready.ensures.looks held.work c.requires.fresh (Find c.args.database.now query c.args.question.first c.args.question.count) tt)

pub returns-clause-done : goal.returns-clause-done
returns-clause-done g c query same =
    let held = c.args.self.now in
    find_behind g.L.Layout.format g.L.Layout.row_work g.L.Layout.block_rows held.limits c.is_of_some_text.ensures c.in_ok-check_ready.ensures.looks c.find.new.connection c.find.result c.find.ensures.asks.reads c.find.ensures.asks.few
    c.args.database.now query c.args.question.query.now same held.work c.find.new.work c.requires.fresh c.args.question.first c.args.question.count c.find.ensures.asks.tables c.find.ensures.work
