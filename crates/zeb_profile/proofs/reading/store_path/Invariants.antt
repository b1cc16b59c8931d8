use Rattle.zeb_profile.proofs.Cited.{◌≡◌, drop, directives_in}
use Rattle.zeb_profile.specs.Indexes as indexes
use Rattle.zeb_profile.proofs.reading.store_path.Given as goal

abbrev pub invariant-loop-line : goal.invariant-loop-line
invariant-loop-line l = indexes.store_path (directives_in (drop l.line-index l.placed)) ≡ indexes.store_path (directives_in l.placed)
