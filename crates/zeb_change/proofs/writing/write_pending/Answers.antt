use Rattle.zeb_change.proofs.Cited.{rules, state}
use Rattle.zeb_change.proofs.WrittenNotes.{settled_keeps, settles}
use Rattle.zeb_change.proofs.writing.write_pending.Goals as goal

pub returns-clause-call : goal.returns-clause-call
returns-clause-call g c =
    record { same = search rules; does = settles _ _ _ _ _ _ _ _ _ _ c.write_runs.ensures.inside.does c.write_runs.ensures.rows c.write_runs.ensures.all }

pub returns-clause-keeps : goal.returns-clause-keeps
returns-clause-keeps g c =
    settled_keeps g.L.Layout.format c.args.db.0 c.args.pending.now (state g.S.Store c.args.tx.now.conn.now) (state g.S.Store c.write_runs.new.tx.conn.now) c.write_runs.result c.write_runs.ensures.rows
