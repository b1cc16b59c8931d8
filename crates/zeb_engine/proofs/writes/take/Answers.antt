use Rattle.zeb_engine.proofs.Cited.{state}
use Rattle.zeb_engine.proofs.MadeTables.{rows_taken}
use Rattle.zeb_engine.proofs.writes.take.Goals as goal

pub returns-clause-takes : goal.returns-clause-takes
returns-clause-takes g c clean inside store =
    let taken = c.in_ok-database_take.ensures.taken clean inside store in
    rows_taken g.L.Layout.format c.args.id.0 (state g.S.Store c.args.tx.now.conn.now) (state g.S.Store c.database_take.new.tx.conn.now) taken.0 taken.1
