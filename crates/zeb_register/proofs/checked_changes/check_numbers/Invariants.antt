use Rattle.zeb_register.proofs.Cited.{◌∷◌, drop, take, place_cmp, AreStorablePlaces}
use Rattle.std.specs.List.Sorted.{IsStrictlySortedBy}
use Rattle.zeb_register.proofs.StorablePlaces.{AreUpTo}
use Rattle.zeb_register.proofs.checked_changes.check_numbers.Given as goal

abbrev pub invariant-loop-place : goal.invariant-loop-place
invariant-loop-place l = record {
  upto : AreUpTo (take l.place-index l.places) l.before;
  rise : AreStorablePlaces l.places → IsStrictlySortedBy place_cmp (l.before ∷ drop l.place-index l.places);
}
