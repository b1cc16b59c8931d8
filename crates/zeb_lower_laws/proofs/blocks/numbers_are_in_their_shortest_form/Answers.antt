-- The lemmas on shortest forms, one for each clause.
use Rattle.zeb_blocks.proofs.Bytes.{length-uleb}
use Rattle.zeb_lower_laws.proofs.ShortestForms.{shortest_only, uleb_shortest}
use Rattle.zeb_lower_laws.proofs.blocks.numbers_are_in_their_shortest_form.Goals as goal

pub returns-clause-shortest : goal.returns-clause-shortest
returns-clause-shortest c = uleb_shortest

pub returns-clause-only : goal.returns-clause-only
returns-clause-only c = shortest_only

pub returns-clause-few : goal.returns-clause-few
returns-clause-few c = λ n fits. length-uleb n
