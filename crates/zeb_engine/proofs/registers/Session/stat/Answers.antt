use Rattle.zeb_engine.proofs.Cited.{◌≡◌, Err, rules, Stat}
use Rattle.zeb_engine.proofs.AskedDone.{stat_behind}
use Rattle.zeb_engine.proofs.ReadyDone.{unready_done}
use Rattle.zeb_engine.proofs.registers.Session.stat.Goals as goal

pub returns-in_err-check_ready-clause-done : goal.returns-in_err-check_ready-clause-done
returns-in_err-check_ready-clause-done g c =
    let held = c.args.self.now in
    let told : c.from_residual.result ≡ Err c.in_err-check_ready.field-0.0 = search rules in
    rw told (unready_done g.L.Layout.format g.L.Layout.row_work g.L.Layout.block_rows held.limits c.in_err-check_ready.ensures.looks held.work c.requires.fresh (Stat c.args.name.now) tt)

pub returns-clause-done : goal.returns-clause-done
returns-clause-done g c =
    let held = c.args.self.now in
    stat_behind g.L.Layout.format g.L.Layout.row_work g.L.Layout.block_rows held.limits c.is_of_some_text.ensures c.in_ok-check_ready.ensures.looks c.stat.new.connection c.stat.result c.stat.ensures.asks.reads c.stat.ensures.asks.few
    c.args.name.now c.stat.ensures.asks.tables held.work c.stat.new.work c.requires.fresh c.stat.ensures.no_work
