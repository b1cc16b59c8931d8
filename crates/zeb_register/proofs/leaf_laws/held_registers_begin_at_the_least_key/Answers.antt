-- The lemma on held registers.
use Rattle.zeb_register.proofs.HeldRegisters.{first_is_least}
use Rattle.zeb_register.proofs.leaf_laws.held_registers_begin_at_the_least_key.Goals as goal

pub returns : goal.returns
returns c = first_is_least
