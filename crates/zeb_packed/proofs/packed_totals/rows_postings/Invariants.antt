use Rattle.zeb_packed.proofs.Cited.{◌≡◌, List, length, take, Posting, capped, AreSpelled}
use Rattle.zeb_packed.proofs.packed_totals.rows_postings.Given as goal

abbrev pub invariant-loop-row : goal.invariant-loop-row
invariant-loop-row l = (list : List Posting) × AreSpelled (take l.row-index l.rows) list × (l.count ≡ capped (length list))
