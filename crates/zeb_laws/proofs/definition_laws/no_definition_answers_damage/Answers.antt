use Rattle.zeb_laws.proofs.Cited.{subst, IsOwnAnswer, answers_own, step_told}
use Rattle.zeb_laws.proofs.definition_laws.no_definition_answers_damage.Goals as goal

pub returns-clause-damage : goal.returns-clause-damage
returns-clause-damage g k command before answer later is same = subst IsOwnAnswer same (answers_own k command before answer (step_told k command before answer later is).0)

pub returns-clause-store : goal.returns-clause-store
returns-clause-store g k command before answer later is same = subst IsOwnAnswer same (answers_own k command before answer (step_told k command before answer later is).0)

pub returns-clause-memory : goal.returns-clause-memory
returns-clause-memory g k command before answer later is same = subst IsOwnAnswer same (answers_own k command before answer (step_told k command before answer later is).0)

pub returns-clause-reader : goal.returns-clause-reader
returns-clause-reader g k command before answer later is file same = subst IsOwnAnswer same (answers_own k command before answer (step_told k command before answer later is).0)
