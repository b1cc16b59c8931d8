use Rattle.zeb_profile.proofs.Cited.{◌≡◌, drop, first_pairs, is_all}
use Rattle.zeb_profile.proofs.resolved.all_pairs.Given as goal

abbrev pub invariant-loop-line : goal.invariant-loop-line
invariant-loop-line l = first_pairs is_all (drop l.line-index l.lines) ≡ first_pairs is_all l.lines
