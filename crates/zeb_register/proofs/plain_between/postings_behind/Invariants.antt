use Rattle.zeb_register.proofs.Cited.{◌≡◌, map, take, three_behind, posting_row}
use Rattle.zeb_register.proofs.plain_between.postings_behind.Given as goal

abbrev pub invariant-loop-row : goal.invariant-loop-row
invariant-loop-row l = map posting_row l.postings.items ≡ map three_behind (take l.row-index l.rows)
