use Rattle.zeb_change.proofs.Cited.{AllZip, rules, state, subst, subst₂, sym, works_for, ℕ}
use Rattle.zeb_change.proofs.CostLemmas.{ok_so}
use Rattle.zeb_change.proofs.TakenKeys.{IsInRun, as_many_noted, run_is, run_noted}
use Rattle.zeb_change.proofs.WrittenNotes.{run_written, unwritten}
use Rattle.zeb_change.proofs.writing.write_run.Goals as goal

pub run_changes-requires : goal.run_changes-requires
run_changes-requires g c =
    let all = subst₂ (AllZip IsInRun) c.deref.ensures.value (sym c.deref-2.ensures.value) c.in_ok-run.ensures in
    record { rising = run_is c.args.taken.now c.in_ok-given.given.items c.deref-2.result.now c.in_ok-given.ensures all c.requires.rising }

pub returns-clause-rows : goal.returns-clause-rows
returns-clause-rows g c entries from =
    let taken = c.args.taken.now in
    let given = c.in_ok-given.given.items in
    let run = c.deref-2.result.now in
    let all = subst₂ (AllZip IsInRun) c.deref.ensures.value (sym c.deref-2.ensures.value) c.in_ok-run.ensures in
    run_written g.L.Layout.format c.args.db.0 entries run (run_noted taken given run c.in_ok-given.ensures all entries from) (run_is taken given run c.in_ok-given.ensures all c.requires.rising).keys
    (state g.S.Store c.args.tx.now.conn.now) (state g.S.Store c.run_changes.new.tx.conn.now) c.run_changes.result c.run_changes.ensures.units

pub returns-clause-work : goal.returns-clause-work
returns-clause-work g c entries from clean inside store =
    let all = subst₂ (AllZip IsInRun) c.deref.ensures.value (sym c.deref-2.ensures.value) c.in_ok-run.ensures in
    let noted = run_noted c.args.taken.now c.in_ok-given.given.items c.deref-2.result.now c.in_ok-given.ensures all entries from in
    let old = (state g.S.Store c.args.tx.now.conn.now).now.trees in
    let new = (state g.S.Store c.run_changes.new.tx.conn.now).now.trees in
    ok_so c.run_changes.result _ _ (subst (λ (n : ℕ). works_for g.L.Layout.format g.L.Layout.row_work n old new c.args.work.now c.run_changes.new.work) (as_many_noted entries c.deref-2.result.now noted))
    (c.run_changes.ensures.work clean inside store)

pub returns-in_err-given-clause-rows : goal.returns-in_err-given-clause-rows
returns-in_err-given-clause-rows g c entries from = unwritten g.L.Layout.format c.args.db.0 entries _ _ c.from_residual.result (search rules)

pub returns-in_err-run-clause-rows : goal.returns-in_err-run-clause-rows
returns-in_err-run-clause-rows g c entries from = unwritten g.L.Layout.format c.args.db.0 entries _ _ c.from_residual-in_err-run.result (search rules)
