use Rattle.zeb_register.proofs.KeyLists.{held_by_units, one_number, one_places, uncounted, units_hold, unread}
use Rattle.zeb_register.proofs.registers.units_tell_the_content.Goals as goal

pub returns-clause-one : goal.returns-clause-one
returns-clause-one c = one_places

pub returns-clause-unread : goal.returns-clause-unread
returns-clause-unread c = unread

pub returns-clause-counted : goal.returns-clause-counted
returns-clause-counted c = one_number

pub returns-clause-uncounted : goal.returns-clause-uncounted
returns-clause-uncounted c = uncounted

pub returns-clause-said : goal.returns-clause-said
returns-clause-said c = held_by_units

pub returns-clause-held : goal.returns-clause-held
returns-clause-held c = units_hold
