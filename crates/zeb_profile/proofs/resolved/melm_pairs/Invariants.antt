use Rattle.zeb_profile.proofs.Cited.{◌≡◌, drop, first_pairs, is_melm_for}
use Rattle.zeb_profile.proofs.resolved.melm_pairs.Given as goal

abbrev pub invariant-loop-line : goal.invariant-loop-line
invariant-loop-line l = first_pairs (is_melm_for l.tag l.code) (drop l.line-index l.lines) ≡ first_pairs (is_melm_for l.tag l.code) l.lines
