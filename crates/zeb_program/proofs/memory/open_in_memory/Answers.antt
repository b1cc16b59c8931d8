use Rattle.zeb_program.proofs.Cited.{refl}
use Rattle.zeb_program.proofs.MemoryLemmas.{always_clean, opened_is_empty}
use Rattle.zeb_program.proofs.memory.open_in_memory.Goals as goal

pub returns-in-Ok-clause-empty : goal.returns-in-Ok-clause-empty
returns-in-Ok-clause-empty c =
    let clean = always_clean (λ _. refl) c.in-Ok.connection in
    opened_is_empty _ c.in-Ok.connection c.new-2.ensures.empty (c.in-Ok.ensures.found clean) (c.in-Ok.ensures.opened clean)
