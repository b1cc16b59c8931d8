-- How many records postings are of.
use Rattle.std.specs.Prelude.{ℕ, ◌+◌, ◌==◌, if◌then◌else◌, List, [], ◌∷◌}
use Rattle.zeb_blocks.specs.declared.postings.Posting.{Posting}

-- how many records rising postings are of, which is how many system numbers they have: a posting is the last of its record where it is the last
-- of all, or the next one has another system number
unfoldable pub record_count : List Posting → ℕ
record_count [] = 0
record_count (p ∷ []) = 1
record_count (p ∷ q ∷ list) = if q.sysno == p.sysno then record_count (q ∷ list) else record_count (q ∷ list) + 1
