-- The lemmas on cuts, one for each clause.
use Rattle.zeb_leaf.proofs.Cutting.{both_shorter, front_leaf, leaf_begins, rest_leaf}
use Rattle.zeb_leaf.proofs.laws.leaf_is_cut_at_an_entry.Goals as goal

pub returns-clause-front : goal.returns-clause-front
returns-clause-front c = front_leaf

pub returns-clause-rest : goal.returns-clause-rest
returns-clause-rest c = rest_leaf

pub returns-clause-begins : goal.returns-clause-begins
returns-clause-begins c = λ bytes front rest leaf. (_, leaf_begins bytes front rest leaf)

pub returns-clause-shorter : goal.returns-clause-shorter
returns-clause-shorter c = both_shorter
