use Rattle.zeb_profile.proofs.Cited.{◌∙◌}
use Rattle.zeb_profile.proofs.ResolvedLines.{pair_held}
use Rattle.zeb_profile.proofs.lookups.Profile.has.Goals as goal

pub returns : goal.returns
returns c = c.has_pair.ensures ∙ rw c.deref.ensures.value (pair_held _ _ c.args.self.now (c.args.index, c.args.register) c.self.invariant.0 c.self.invariant.2 c.self.view_is)
