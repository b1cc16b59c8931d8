use Rattle.zeb_query.proofs.TextFaults.{apart, one_fault, read_or_faulty}
use Rattle.zeb_lower_laws.proofs.query.a_text_is_read_or_has_one_fault.Goals as goal

pub returns-clause-some : goal.returns-clause-some
returns-clause-some c = read_or_faulty

pub returns-clause-apart : goal.returns-clause-apart
returns-clause-apart c = apart

pub returns-clause-once : goal.returns-clause-once
returns-clause-once c = one_fault
