use Rattle.zeb_profile.proofs.Cited.{◌≡◌, drop, directives_on}
use Rattle.zeb_profile.specs.Indexes as indexes
use Rattle.zeb_profile.proofs.resolved.use_name.Given as goal

abbrev pub invariant-loop-line : goal.invariant-loop-line
invariant-loop-line l = indexes.use_name l.number (directives_on (drop l.line-index l.lines)) ≡ indexes.use_name l.number (directives_on l.lines)
