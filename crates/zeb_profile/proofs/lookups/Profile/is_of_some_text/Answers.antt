use Rattle.zeb_profile.proofs.Cited.{List, subst, Directive, IsProfile}
use Rattle.zeb_profile.proofs.lookups.Profile.is_of_some_text.Goals as goal

pub returns : goal.returns
returns c = subst (λ (directives : List Directive). ∥ IsProfile directives ∥₁) c.self.view_is c.self.invariant.6
