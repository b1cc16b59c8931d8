use Rattle.zeb_profile.proofs.Cited.{◌≡◌, drop, further_pairs}
use Rattle.zeb_profile.proofs.unit_targets.next_further.Given as goal

abbrev pub invariant-loop-place : goal.invariant-loop-place
invariant-loop-place l = further_pairs l.first (drop l.place l.all) ≡ further_pairs l.first l.all
