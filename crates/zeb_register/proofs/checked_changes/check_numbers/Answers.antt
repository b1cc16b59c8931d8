use Rattle.zeb_register.proofs.Cited.{sym, subst, take, take_more, Place, slice_index_or}
use Rattle.zeb_register.proofs.StorablePlaces.{AreUpTo, rise_from, rise_next, upto_more, upto_none}
use Rattle.zeb_register.proofs.checked_changes.check_numbers.Goals as goal

pub loop-place-init : goal.loop-place-init
loop-place-init c = record { upto = upto_none _; rise = rise_from c.args.places.now }

pub loop-place-preserved : goal.loop-place-preserved
loop-place-preserved c =
    let it = c.in_ok-check_place.ensures.ok in
    let none : Place = record { seq = 0; pos = 0 } in
    let last : Place = slice_index_or c.args.places.now c.loop-place.place-index none in
    let before = c.loop-place.invariant in
    record {
      upto = subst (λ ps. AreUpTo ps last) (sym (take_more c.args.places.now c.loop-place.place-index none c.loop-place-test.true))
          (upto_more (take c.loop-place.place-index c.args.places.now) c.loop-place.before last before.upto it.0 it.1);
      rise = λ stored. (rise_next c.args.places.now c.loop-place.place-index none c.loop-place.before c.loop-place-test.true (before.rise stored)).1;
    }
