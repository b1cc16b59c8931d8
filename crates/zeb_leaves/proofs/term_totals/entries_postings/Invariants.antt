-- What those so far say.
use Rattle.zeb_leaves.proofs.Cited.{◌≡◌, ℕ, take, SayMany, capped}
use Rattle.zeb_leaves.proofs.term_totals.entries_postings.Given as goal

abbrev pub invariant-loop-entry : goal.invariant-loop-entry
invariant-loop-entry l = (sum : ℕ) × SayMany (take l.entry-index l.own) sum × (l.many ≡ capped sum)
