use Rattle.zeb_register.proofs.RunLaws.{run_allowed, run_beside, run_held, run_malformed, run_there}
use Rattle.zeb_register.proofs.run_laws.changed_runs_are_of_a_content.Goals as goal

pub returns-clause-held : goal.returns-clause-held
returns-clause-held c = run_held

pub returns-clause-found : goal.returns-clause-found
returns-clause-found c = run_there

pub returns-clause-malformed : goal.returns-clause-malformed
returns-clause-malformed c = run_malformed

pub returns-clause-others : goal.returns-clause-others
returns-clause-others c = run_beside

pub returns-clause-allowed : goal.returns-clause-allowed
returns-clause-allowed c = run_allowed
