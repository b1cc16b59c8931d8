use Rattle.zeb_profile.proofs.Cited.{◌≡◌, drop, find, ties_unknown, directives_in}
use Rattle.zeb_profile.proofs.reading.unknown_use.Given as goal

abbrev pub invariant-loop-line : goal.invariant-loop-line
invariant-loop-line l = find (λ line. ties_unknown (directives_in l.placed) line.directive) (drop l.line-index l.placed) ≡ find (λ line. ties_unknown (directives_in l.placed) line.directive) l.placed
