use Rattle.zeb_profile.proofs.Cited.{◌≡◌, ◌<◌, ℕ, get_or, false, List, same_name}
use Rattle.zeb_profile.proofs.indexes.position_of.Given as goal

abbrev pub invariant-loop-index : goal.invariant-loop-index
invariant-loop-index l = (k : ℕ) (d : List ℕ) → k < l.index → same_name l.name (get_or l.names k d) ≡ false
