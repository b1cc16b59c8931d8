use Rattle.zeb_query.proofs.GrammarLemmas.{reads_more, less_after}
use Rattle.zeb_query.proofs.grammar.head_of.Goals as goal

pub loop-head-preserved-in-Attribute-1 : goal.loop-head-preserved-in-Attribute-1
loop-head-preserved-in-Attribute-1 c = reads_more _ _ _ _ _ c.loop-head.invariant c.in_ok-rest-in-Some-Attribute.ensures

pub loop-head-preserved : goal.loop-head-preserved
loop-head-preserved c = reads_more _ _ _ _ _ c.loop-head.invariant c.in_ok-rest-in-Some-TermType.ensures

pub loop-head-smaller-in-Attribute-1 : goal.loop-head-smaller-in-Attribute-1
loop-head-smaller-in-Attribute-1 c =
    let spelled = c.in_ok-rest-in-Some-Attribute.ensures.spelled in
    less_after c.loop-head.rest c.in_ok-rest-in-Some-Attribute.rest spelled.keyword spelled.words spelled.is

pub loop-head-smaller : goal.loop-head-smaller
loop-head-smaller c =
    let spelled = c.in_ok-rest-in-Some-TermType.ensures.spelled in
    less_after c.loop-head.rest c.in_ok-rest-in-Some-TermType.rest spelled.keyword spelled.words spelled.is
