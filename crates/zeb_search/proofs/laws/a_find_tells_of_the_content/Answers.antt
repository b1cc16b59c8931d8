use Rattle.zeb_search.proofs.PlanLaws.{plan_held, plan_shown, plan_sound}
use Rattle.zeb_search.proofs.laws.a_find_tells_of_the_content.Goals as goal

pub returns-clause-held : goal.returns-clause-held
returns-clause-held c = λ format trees db plan hits finds content holds. plan_held format trees db content holds plan hits finds

pub returns-clause-shown : goal.returns-clause-shown
returns-clause-shown c = λ format trees db plan hidden readable content storable holds. plan_shown format trees db content holds storable plan readable hidden

pub returns-clause-sound : goal.returns-clause-sound
returns-clause-sound c = plan_sound
