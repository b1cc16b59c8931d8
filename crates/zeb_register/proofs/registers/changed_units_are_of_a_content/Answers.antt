use Rattle.zeb_register.proofs.UnitChangeLaws.{allows_held, any_beside, any_held, any_malformed, any_there}
use Rattle.zeb_register.proofs.registers.changed_units_are_of_a_content.Goals as goal

pub returns-clause-held : goal.returns-clause-held
returns-clause-held c = any_held

pub returns-clause-found : goal.returns-clause-found
returns-clause-found c = any_there

pub returns-clause-malformed : goal.returns-clause-malformed
returns-clause-malformed c = any_malformed

pub returns-clause-others : goal.returns-clause-others
returns-clause-others c = any_beside

pub returns-clause-allowed : goal.returns-clause-allowed
returns-clause-allowed c = allows_held
