use Rattle.zeb_register.proofs.Cited.{◌≡◌, map, take, first_three, record_shown}
use Rattle.zeb_register.proofs.kept.records_of.Given as goal

abbrev pub invariant-loop-row : goal.invariant-loop-row
invariant-loop-row l = map record_shown l.records.items ≡ map first_three (take l.row-index l.rows)
