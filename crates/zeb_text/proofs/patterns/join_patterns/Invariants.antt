use Rattle.zeb_text.proofs.Cited.{◌≡◌, take, joined_patterns}
use Rattle.zeb_text.proofs.patterns.join_patterns.Given as goal

abbrev pub invariant-loop-at : goal.invariant-loop-at
invariant-loop-at l = l.joined ≡ joined_patterns (take l.at l.patterns)
