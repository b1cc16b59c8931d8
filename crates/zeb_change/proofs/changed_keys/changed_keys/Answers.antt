use Rattle.zeb_change.proofs.Cited.{◌≡◌, ◌⊎◌, ◌++◌, inl, inr, subst₂, rules, Has, Occurrence, IsRising, AreOfKey, Stops, IsAddedIfChanged}
use Rattle.zeb_change.proofs.KeyChanges.{nothing_cut, all_cut, cut_run, noted_run, some_begins, SoFar}
use Rattle.zeb_change.proofs.changed_keys.changed_keys.Goals as goal

pub loop-key-init : goal.loop-key-init
loop-key-init c = record {
  rising = λ elder newer. (elder, newer);
  so_far = λ elder newer. rw c.new-changed.ensures.items (nothing_cut c.args.elder.now c.args.newer.now);
}

pub loop-key-preserved : goal.loop-key-preserved
loop-key-preserved c =
    let key = c.in-Some.key.now in
    let elder = c.loop-key.elder.now in
    let newer = c.loop-key.newer.now in
    let run_elder = c.split_at.result.0.now in
    let run_newer = c.split_at-in-Some.result.0.now in
    let rest_elder = c.split_at.result.1.now in
    let rest_newer = c.split_at-in-Some.result.1.now in
    let cut_elder : elder ≡ run_elder ++ rest_elder = search rules in
    let cut_newer : newer ≡ run_newer ++ rest_newer = search rules in
    let of_elder : AreOfKey key run_elder = rw c.split_at.ensures.front c.run_length.ensures.run in
    let of_newer : AreOfKey key run_newer = rw c.split_at-in-Some.ensures.front c.run_length-in-Some.ensures.run in
    let stops_elder : Stops key rest_elder = rw c.split_at.ensures.back c.run_length.ensures.stops in
    let stops_newer : Stops key rest_newer = rw c.split_at-in-Some.ensures.back c.run_length-in-Some.ensures.stops in
    let low = c.in-Some.ensures.lesser in
    let some : (o : Occurrence) × (Has run_elder o ⊎ Has run_newer o) = elim c.in-Some.ensures.found [
      | inl begins ↦ let it = some_begins key elder run_elder rest_elder cut_elder begins stops_elder in (it.0, inl it.1)
      | inr begins ↦ let it = some_begins key newer run_newer rest_newer cut_newer begins stops_newer in (it.0, inr it.1)
    ] in
    let elder_run = λ (up : IsRising elder). cut_run key elder run_elder rest_elder cut_elder up low.0 of_elder stops_elder in
    let newer_run = λ (up : IsRising newer). cut_run key newer run_newer rest_newer cut_newer up low.1 of_newer stops_newer in
    let noted : IsAddedIfChanged key run_elder run_newer c.loop-key.changed.items c.note.new.changed.items = c.in_ok-note.ensures of_elder of_newer in
    record {
      rising = λ one other. let up = c.loop-key.invariant.rising one other in ((elder_run up.0).rest_up, (newer_run up.1).rest_up);
      so_far = λ one other.
          let up = c.loop-key.invariant.rising one other in
          let e = elder_run up.0 in
          let n = newer_run up.1 in
          noted_run c.args.elder.now c.args.newer.now elder newer run_elder run_newer rest_elder rest_newer c.loop-key.changed.items key
          (c.loop-key.invariant.so_far one other) e.cut n.cut some c.note.new.changed.items noted e.run_up n.run_up;
    }

pub returns : goal.returns
returns c = λ elder newer.
    let empty = c.in_default.ensures.none in
    let so = c.loop-key.invariant.so_far elder newer in
    all_cut c.args.elder.now c.args.newer.now c.loop-key.changed.items (subst₂ (λ e n. SoFar c.args.elder.now c.args.newer.now e n c.loop-key.changed.items) empty.0 empty.1 so)
