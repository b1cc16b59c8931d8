-- What is left has the subfields of the whole text.
use Rattle.zeb_marc.proofs.Cited.{◌≡◌, List, ℕ, length, subfields_of}
use Rattle.zeb_marc.proofs.units.next_subfield.Given as goal

abbrev pub invariant-loop-behind : goal.invariant-loop-behind
invariant-loop-behind l = (tag : List ℕ) → subfields_of tag l.left ≡ subfields_of tag l.fn.text

abbrev pub decreases-loop-behind : goal.decreases-loop-behind
decreases-loop-behind l = length l.left
