use Rattle.zeb_register.proofs.Cited.{◌≡◌, map, take, length, expected_name, listed_name}
use Rattle.zeb_register.proofs.expected.are_named.Given as goal

abbrev pub invariant-loop-at : goal.invariant-loop-at
invariant-loop-at l = (map listed_name (take l.at l.listed) ≡ map expected_name (take l.at l.databases)) × (length l.listed ≡ length l.databases)
