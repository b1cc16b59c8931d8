use Rattle.zeb_query.proofs.GrammarLemmas.{parameter_read, no_parameters}
use Rattle.zeb_query.proofs.grammar.parameters_of.Goals as goal

pub returns : goal.returns
returns c =
    parameter_read 5 _ _ _ _ _ c.in_ok-exclusion.ensures (parameter_read 4 _ _ _ _ _ c.in_ok-distance.ensures
    (parameter_read 3 _ _ _ _ _ c.in_ok-ordered.ensures (parameter_read 2 _ _ _ _ _ c.in_ok-relation.ensures
    (parameter_read 1 _ _ _ _ _ c.in_ok-which_code.ensures (parameter_read 0 _ _ _ _ _ c.in_ok-unit_code.ensures (no_parameters _))))))
