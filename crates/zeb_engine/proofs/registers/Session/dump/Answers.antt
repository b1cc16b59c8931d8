use Rattle.zeb_engine.proofs.Cited.{◌≡◌, Err, rules, Dump}
use Rattle.zeb_engine.proofs.AskedDone.{dump_behind}
use Rattle.zeb_engine.proofs.ReadyDone.{unready_done}
use Rattle.zeb_engine.proofs.registers.Session.dump.Goals as goal

pub returns-in_err-check_ready-clause-done : goal.returns-in_err-check_ready-clause-done
returns-in_err-check_ready-clause-done g c =
    let held = c.args.self.now in
    let told : c.from_residual.result ≡ Err c.in_err-check_ready.field-0.0 = search rules in
    rw told (unready_done g.L.Layout.format g.L.Layout.row_work g.L.Layout.block_rows held.limits c.in_err-check_ready.ensures.looks held.work c.requires.fresh (Dump c.args.name.now) tt)

pub returns-clause-done : goal.returns-clause-done
returns-clause-done g c =
    let held = c.args.self.now in
    dump_behind g.L.Layout.format g.L.Layout.row_work g.L.Layout.block_rows held.limits c.is_of_some_text.ensures c.in_ok-check_ready.ensures.looks c.dump.new.connection c.dump.result c.dump.ensures.reads c.dump.ensures.few
    c.args.name.now c.dump.ensures.tables held.work c.requires.fresh
