use Rattle.zeb_register.proofs.Cited.{take, IsParted}
use Rattle.zeb_register.proofs.record_parts.parted_at.Given as goal

abbrev pub invariant-loop-posting : goal.invariant-loop-posting
invariant-loop-posting l = IsParted l.sysno (take l.posting-index l.list) l.parted
