use Rattle.zeb_register.proofs.ContentChanges.{same_content, changed_at, change_is, one_change, without, without_is, one_without}
use Rattle.zeb_register.proofs.registers.contents_change.Goals as goal

pub returns-clause-told : goal.returns-clause-told
returns-clause-told c = same_content

pub returns-clause-changed : goal.returns-clause-changed
returns-clause-changed c db key sysno places old up = ((changed_at db key sysno places old, change_is db key sysno places old up), one_change db key sysno places old)

pub returns-clause-without : goal.returns-clause-without
returns-clause-without c db old up = ((without db old, without_is db old up), one_without db old)
