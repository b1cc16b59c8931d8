use Rattle.zeb_paths.proofs.OpenedLemmas.{well_opened}
use Rattle.zeb_paths.proofs.opening.open_store.Goals as goal

pub returns-in-Ok-clause-given : goal.returns-in-Ok-clause-given
returns-in-Ok-clause-given c clean =
    let found = c.in-Ok.ensures.found clean in
    well_opened c.in-Ok.connection (c.in-Ok.ensures.opened clean) (record { holds = found.holds; reads = found.reads })
