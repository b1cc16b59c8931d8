-- The keys so far are of the register.
use Rattle.zeb_packed.proofs.Cited.{AllByRecursion, take, IsOfRegister}
use Rattle.zeb_packed.proofs.new_keys.are_of_register.Given as goal

abbrev pub invariant-loop-one : goal.invariant-loop-one
invariant-loop-one l = AllByRecursion (IsOfRegister l.first) (take l.one-index l.run)
