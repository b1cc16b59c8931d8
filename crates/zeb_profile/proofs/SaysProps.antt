-- That two lists of directives say the same holds in one way at most, so it comes out of a truncated invariant.
use Rattle.zeb_profile.proofs.Cited.{props, Coded-set, List, Directive, UnitPattern, Register, SaysTheSame}
use Rattle.zeb_profile.specs.contracts.patterns.UnitPattern as pattern_row
use Rattle.zeb_keys.specs.contracts.registers.Register as register_row

pattern_set : IsSet UnitPattern
pattern_set = Coded-set pattern_row.the_row.coded

register_set : IsSet Register
register_set = Coded-set register_row.the_row.coded

pub SaysTheSame-prop : (one other : List Directive) → IsProp (SaysTheSame one other)
SaysTheSame-prop one other = hlevel (props, pattern_set, register_set)
