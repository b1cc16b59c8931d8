use Rattle.zeb_register.proofs.FormatLemmas.{registers_stay, registers_empty, registers_hold_one, registers_rise, one_format}
use Rattle.zeb_register.proofs.registers.registers_hold_one_content.Goals as goal

pub returns-clause-one : goal.returns-clause-one
returns-clause-one c = registers_hold_one

pub returns-clause-rising : goal.returns-clause-rising
returns-clause-rising c = registers_rise

pub returns-clause-stays : goal.returns-clause-stays
returns-clause-stays c = registers_stay

pub returns-clause-empty : goal.returns-clause-empty
returns-clause-empty c = registers_empty

pub returns-clause-version : goal.returns-clause-version
returns-clause-version c = one_format
