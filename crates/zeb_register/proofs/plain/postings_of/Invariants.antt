use Rattle.zeb_register.proofs.Cited.{◌≡◌, map, take, posting_row, first_three}
use Rattle.zeb_register.proofs.plain.postings_of.Given as goal

abbrev pub invariant-loop-row : goal.invariant-loop-row
invariant-loop-row l = map posting_row l.postings.items ≡ map first_three (take l.row-index l.rows)
