-- What is left has the units that were left before.
use Rattle.zeb_marc.proofs.Cited.{◌≡◌, length, left_of}
use Rattle.zeb_marc.proofs.units.next_content.Given as goal

abbrev pub invariant-loop-code : goal.invariant-loop-code
invariant-loop-code l = left_of l.begun l.fields ≡ left_of l.initial.begun l.initial.fields

abbrev pub decreases-loop-code : goal.decreases-loop-code
decreases-loop-code l = length l.fields
