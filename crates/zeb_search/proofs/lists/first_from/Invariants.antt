use Rattle.zeb_search.proofs.Cited.{length, ◌-◌, ℕ, ◌<◌, ◌≤◌, get_or, Posting, IsBefore}
use Rattle.zeb_search.proofs.lists.first_from.Given as goal

abbrev pub invariant-loop-at : goal.invariant-loop-at
invariant-loop-at l = record {
  reached : l.from ≤ l.at;
  within : l.at ≤ length l.others;
  before : (k : ℕ) (d : Posting) → l.from ≤ k → k < l.at → IsBefore l.least (get_or l.others k d) l.posting;
}

abbrev pub decreases-loop-at : goal.decreases-loop-at
decreases-loop-at l = length l.initial.others - l.at
