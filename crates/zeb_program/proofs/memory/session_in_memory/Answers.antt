use Rattle.zeb_program.proofs.Cited.{inr, refl, None, Ok, file_state, over_files, HasCleanDisk, IsEmpty, nothing_yet, unopened_refusal, TakesOpen, HoldsNothing}
use Rattle.zeb_program.proofs.MemoryLemmas.{always_clean}
use Rattle.zeb_program.proofs.ResultValues.{made_of}
use Rattle.zeb_program.proofs.OpeningLemmas.{fails_anyway}
use Rattle.zeb_program.proofs.memory.session_in_memory.Goals as goal

-- An empty store bears a register that holds nothing, which the session keeps.
pub returns-in-Ok-clause-empty : goal.returns-in-Ok-clause-empty
returns-in-Ok-clause-empty c =
    made_of c.open_in_memory.result (Ok c.in-Ok.session) (λ connection. IsEmpty (file_state connection))
    (λ connection session. HasCleanDisk (file_state session.connection) → TakesOpen over_files connection session.connection)
    (λ session. HoldsNothing (file_state session.connection)) (λ failed. (None, unopened_refusal failed.cause))
    c.open_in_memory.ensures.empty c.in-Ok.ensures.keeps c.in-Ok.ensures.unopened
    (λ connection session empty taken. let it = taken (always_clean (λ _. refl) session.connection) in (it.1, it.0.keeps nothing_yet (inr (empty.2, refl))))

pub returns-clause-failed : goal.returns-clause-failed
returns-clause-failed c = fails_anyway _ c.open_in_memory.result over_files _ _ c.in-Err.ensures.unopened c.in-Err.ensures.refused
