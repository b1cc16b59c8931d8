-- What an iterator over a unit's targets has left.
use Rattle.std.specs.Prelude.{ℕ, List, ◌++◌}
use Rattle.zeb_profile.specs.declared.unit_targets.Targets.{Targets}
use Rattle.zeb_keys.specs.declared.registers.Register.{Register}
use Rattle.zeb_profile.specs.Indexes.{further_pairs}

-- the targets that an iterator has yet to give: those that are left of the line, and those left of `all` that the line
-- lacks
abbrev pub targets_left : Targets → List (ℕ × Register)
targets_left targets = targets.left.now ++ further_pairs targets.first.now targets.all.now
