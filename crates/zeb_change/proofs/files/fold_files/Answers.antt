use Rattle.zeb_change.proofs.files.fold_files.Goals as goal

pub returns-clause-changes : goal.returns-clause-changes
returns-clause-changes g c clean mode store =
    let of = c.take_files.ensures.changes clean mode store in
    (of.0, of.1, record { none = c.new-pending.result; pending = c.take_files.new.pending; unnoted = c.new-pending.ensures; counts = c.counts_are_numbers.ensures; changes = of.2 })
