use Rattle.zeb_engine.proofs.Cited.{◌≡◌, ◌∙◌, Some, Err, rules, arith, sym, ap, map, take, take_whole}
use Rattle.zeb_change.specs.declared.refusals.Refusal.TheVariants as refusal
use Rattle.zeb_engine.proofs.CommandsDone.{files_done, unbegun_done}
use Rattle.zeb_engine.proofs.Readers.{none_fails}
use Rattle.zeb_engine.proofs.registers.Session.change.Goals as goal

pub returns-in_err-readers-clause-done : goal.returns-in_err-readers-clause-done
returns-in_err-readers-clause-done g c given same =
    let told : c.from_residual.result ≡ Err refusal.Memory = search rules in
    rw told (unbegun_done g.S.Store g.L.Layout.format g.L.Layout.row_work g.L.Layout.block_rows c.args.self.now.profile c.args.self.now.limits c.args.kind c.args.database.now given c.args.self.now.connection c.args.self.now.work c.requires.fresh (search rules))

pub returns-clause-done : goal.returns-clause-done
returns-clause-done g c given same =
    let whole : take c.loop-file.file-index c.args.files.now ≡ c.args.files.now = take_whole c.args.files.now c.loop-file.file-index (omega arith) in
    let lent : c.deref_mut.result.now ≡ c.loop-file.readers.items = search rules in
    let texts : c.deref_mut.result.now ≡ map (λ file. file.items) given.items = lent ∙ c.loop-file.invariant.texts ∙ ap (map (λ file. file.items)) (whole ∙ sym same) in
    files_done g.L.Layout.format g.L.Layout.block_rows c.args.database.now given c.change_from.ensures.done (none_fails c.change_from.new.readers) (ap (map Some) texts)
