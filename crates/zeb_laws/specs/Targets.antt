-- The order in which a stat tells of registers (this program's own rule): by the number of the index, and then words, phrases and numbers.
use Rattle.std.specs.declared.cmp.Ordering.{Ordering}
use Rattle.std.specs.Ordering.{nat_cmp, ordering_then}
use Rattle.zeb_keys.specs.Registers.{register_code}
use Rattle.zeb_engine.specs.Counting.{Target}

-- the order in which a stat tells of registers: by the number of the index, and then words, phrases and numbers
abbrev pub target_cmp : Target → Target → Ordering
target_cmp one other = ordering_then (nat_cmp one.0 other.0) (nat_cmp (register_code one.1) (register_code other.1))
