use Rattle.zeb_engine.proofs.Cited.{◌≡◌, Err, rules, Scan}
use Rattle.zeb_engine.proofs.AskedDone.{scan_behind}
use Rattle.zeb_engine.proofs.ReadyDone.{unready_done}
use Rattle.zeb_engine.proofs.registers.Session.scan.Goals as goal

pub returns-in_err-check_ready-clause-done : goal.returns-in_err-check_ready-clause-done
returns-in_err-check_ready-clause-done g c query same =
    let held = c.args.self.now in
    let told : c.from_residual.result ≡ Err c.in_err-check_ready.field-0.0 = search rules in
    rw told (unready_done g.L.Layout.format g.L.Layout.row_work g.L.Layout.block_rows held.limits c.in_err-check_ready.ensures.looks held.work c.requires.fresh (Scan c.args.database.now query c.args.around.number c.args.around.position) tt)

pub returns-clause-done : goal.returns-clause-done
returns-clause-done g c query same =
    let held = c.args.self.now in
    scan_behind g.L.Layout.format g.L.Layout.row_work g.L.Layout.block_rows held.limits c.is_of_some_text.ensures c.in_ok-check_ready.ensures.looks c.scan.new.connection c.scan.result c.scan.ensures.asks.reads c.scan.ensures.asks.few
    c.args.database.now query c.args.around.query.now same held.work c.scan.new.work c.requires.fresh c.args.around.number c.args.around.position c.scan.ensures.asks.tables c.scan.ensures.work
