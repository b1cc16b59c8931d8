use Rattle.zeb_query.proofs.Cited.{◌+◌, length}
use Rattle.std.proofs.Common.{◌*◌}
use Rattle.zeb_query.proofs.grammar.+structure.Given as goal

abbrev pub decreases-pair_of : goal.decreases-pair_of
decreases-pair_of l = 3 * length l.rest.words.now

abbrev pub decreases-structure : goal.decreases-structure
decreases-structure l = 3 * length l.rest.words.now + 1

abbrev pub decreases-operand : goal.decreases-operand
decreases-operand l = 3 * length l.rest.words.now + 2
