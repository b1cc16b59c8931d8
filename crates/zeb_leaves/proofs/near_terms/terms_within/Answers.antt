use Rattle.zeb_leaves.proofs.near_terms.terms_within.Goals as goal

pub returns-in-From : goal.returns-in-From
returns-in-From g c = rw c.in-From.is c.first_within.ensures

pub returns-in-Below : goal.returns-in-Below
returns-in-Below g c = rw c.in-Below.is c.last_within.ensures
