use Rattle.zeb_query.proofs.Cited.{◌∙◌, suc, arith, head_value}
use Rattle.zeb_query.proofs.GrammarLemmas.{reads_after, spells_pair, left_after, less_after}
use Rattle.zeb_query.proofs.grammar.+structure.Goals as goal

pub structure-returns-in-None : goal.structure-returns-in-None
structure-returns-in-None t c = reads_after _ _ _ c.term_of.result c.in_ok-head.ensures c.term_of.ensures

pub structure-returns-in-Some-ResultSet : goal.structure-returns-in-Some-ResultSet
structure-returns-in-Some-ResultSet t c = reads_after _ _ _ c.named_of.result c.in_ok-head.ensures c.named_of.ensures

pub structure-returns-in-Some-Operator : goal.structure-returns-in-Some-Operator
structure-returns-in-Some-Operator t c = reads_after _ _ _ c.pair_of.result c.in_ok-head.ensures c.pair_of.ensures

pub pair_of-operand-requires : goal.pair_of-operand-requires
pair_of-operand-requires t c =
    let operator = c.in_ok-place.ensures.spelled in
    omega (arith, less_after c.args.rest c.in_ok-place.after operator.operator operator.words operator.is)

pub pair_of-operand-requires-2 : goal.pair_of-operand-requires-2
pair_of-operand-requires-2 t c =
    let operator = c.in_ok-place.ensures.spelled in
    let left = c.in_ok-left.ensures.spelled in
    omega (
      arith,
      less_after c.args.rest c.in_ok-place.after operator.operator operator.words operator.is,
      left_after c.in_ok-place.after c.in_ok-left.after left.words left.is,
    )

pub pair_of-returns : goal.pair_of-returns
pair_of-returns t c = record {
  goes = λ n. c.in_ok-place.ensures.goes n ∙ c.in_ok-left.ensures.goes (suc n) ∙ c.in_ok-right.ensures.goes n;
  spelled = spells_pair c.args.rest _ _ c.in_ok-right.after (head_value c.args.head) _ _ _ _ _ c.in_ok-place.ensures.spelled c.in_ok-left.ensures.spelled c.in_ok-right.ensures.spelled;
}
