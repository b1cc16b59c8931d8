use Rattle.zeb_register.proofs.Cited.{◌≡◌, map, take, listed_row, first_three}
use Rattle.zeb_register.proofs.catalog.databases_in.Given as goal

abbrev pub invariant-loop-row : goal.invariant-loop-row
invariant-loop-row l = map listed_row l.databases.items ≡ map first_three (take l.row-index l.rows)
