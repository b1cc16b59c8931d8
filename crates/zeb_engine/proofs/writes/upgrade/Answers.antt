use Rattle.zeb_engine.proofs.Cited.{◌≡◌, codes, Err, rules, ap, state}
use Rattle.zeb_engine.proofs.RenewalWork.{remakes}
use Rattle.zeb_engine.proofs.writes.upgrade.Goals as goal

pub returns-in_err-rebuild-clause-remakes : goal.returns-in_err-rebuild-clause-remakes
returns-in_err-rebuild-clause-remakes g c clean inside store =
    let told : c.from_residual.result ≡ Err c.in_err-rebuild.field-0.0 = search rules in
    rw told (λ is both. (c.in_err-rebuild.ensures.rebuilds clean inside store).damaged (ap Err is) both.0 both.1)

pub returns-clause-remakes : goal.returns-clause-remakes
returns-clause-remakes g c clean inside store =
    remakes g.L.Layout.format c.args.profile.now (codes "version") _ _ (state g.S.Store c.args.tx.now.conn.now) (state g.S.Store c.rebuild.new.tx.conn.now) (state g.S.Store c.meta_put.new.tx.conn.now)
    c.version.ensures clean inside store c.in_ok-rebuild.ensures.call.does (λ cleaner mode there. (c.in_ok-rebuild.ensures.rebuilds cleaner mode there).built) c.in_ok-meta_put.ensures.call.does
