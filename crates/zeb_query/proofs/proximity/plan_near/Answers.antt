use Rattle.zeb_query.proofs.Cited.{ap, ◌∙◌, sym, subst, string_bytes, Term, Tree, tree_value, head_value, heads, parameters_value, Fails, operand_of}
use Rattle.zeb_query.specs.Attributes.{holding_of}
use Rattle.zeb_query.specs.PrivatePlanning.{near_plan}
use Rattle.zeb_query.proofs.PlanCheckLemmas.{near_apart, near_read}
use Rattle.zeb_query.proofs.proximity.plan_near.Goals as goal

pub returns : goal.returns
returns c = λ set outer held.
    let profile = c.args.profile.now in
    let parameters = parameters_value c.args.parameters.now in
    let left = c.in-Term-Term.left in
    let right = c.in-Term-Term.right in
    ap (λ t. near_plan profile c.args.site.place parameters (operand_of set outer (tree_value t)) (operand_of set outer (tree_value c.args.right.now))) c.in-Term-Term.is-0
    ∙ ap (λ t. near_plan profile c.args.site.place parameters (operand_of set outer (tree_value (Term left))) (operand_of set outer (tree_value t))) c.in-Term-Term.is-1
    ∙ near_read profile c.args.site.place parameters
    (record { place = left.place; held = holding_of set (heads outer (head_value left.head)); text = string_bytes left.text })
    (record { place = right.place; held = holding_of set (heads outer (head_value right.head)); text = string_bytes right.text })
    c.in_ok-separation.separation c.in_ok-index.index c.in_ok-other.other c.in_ok-index.left c.in_ok-other.right
    c.in_ok-separation.ensures (c.in_ok-index.ensures set outer held) (c.in_ok-other.ensures set outer held) c.if-index-other.false

pub returns-then-index-other : goal.returns-then-index-other
returns-then-index-other c = λ set outer held.
    let profile = c.args.profile.now in
    let parameters = parameters_value c.args.parameters.now in
    let left = c.in-Term-Term.left in
    let right = c.in-Term-Term.right in
    let seen : Tree → Tree → Type 0 = λ one other. Fails c.refused.result (near_plan profile c.args.site.place parameters (operand_of set outer (tree_value one)) (operand_of set outer (tree_value other))) in
    subst (λ t. seen t c.args.right.now) (sym c.in-Term-Term.is-0) (subst (λ t. seen (Term left) t) (sym c.in-Term-Term.is-1)
    (near_apart profile c.args.site.place parameters
    (record { place = left.place; held = holding_of set (heads outer (head_value left.head)); text = string_bytes left.text })
    (record { place = right.place; held = holding_of set (heads outer (head_value right.head)); text = string_bytes right.text })
    c.in_ok-separation.separation c.in_ok-index.index c.in_ok-other.other c.in_ok-index.left c.in_ok-other.right
    c.in_ok-separation.ensures (c.in_ok-index.ensures set outer held) (c.in_ok-other.ensures set outer held) c.if-index-other.true
    c.refused.result c.refused.ensures))
