use Rattle.zeb_query.proofs.Cited.{no_head, query_value, plan_value, plan_of, subst, Gives, HasSmallNumbers}
use Rattle.zeb_query.proofs.CheckLemmas.{given_ok}
use Rattle.zeb_query.proofs.PlanCheckLemmas.{tree_steps}
use Rattle.zeb_query.proofs.PlanNumbers.{plan_numbers}
use Rattle.zeb_query.proofs.planning.plan.Goals as goal

pub returns-clause-planned : goal.returns-clause-planned
returns-clause-planned c =
    let query = query_value c.args.query.now in
    subst (λ r. Gives plan_value c.plan_tree.result r) (tree_steps c.args.profile.now query.attrset no_head query.tree) (c.plan_tree.ensures query.attrset no_head c.over.ensures)

pub returns-clause-numbers : goal.returns-clause-numbers
returns-clause-numbers c =
    let query = query_value c.args.query.now in
    given_ok plan_value HasSmallNumbers c.plan_tree.result (plan_of c.args.profile.now query)
    (subst (λ r. Gives plan_value c.plan_tree.result r) (tree_steps c.args.profile.now query.attrset no_head query.tree) (c.plan_tree.ensures query.attrset no_head c.over.ensures))
    (plan_numbers c.args.profile.now query)
