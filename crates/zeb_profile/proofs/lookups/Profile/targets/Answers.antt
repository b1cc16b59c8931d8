use Rattle.zeb_profile.proofs.Cited.{◌∙◌}
use Rattle.zeb_profile.proofs.ResolvedLines.{unit_resolved}
use Rattle.zeb_profile.proofs.lookups.Profile.targets.Goals as goal

pub returns : goal.returns
returns c = c.of_unit.ensures ∙ rw c.deref.ensures.value (unit_resolved _ _ c.args.self.now c.args.tag.now c.args.code c.self.invariant.0 c.self.invariant.2 c.self.view_is)
