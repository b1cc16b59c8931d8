use Rattle.zeb_profile.proofs.Cited.{◌≡◌, [], map, drop, target_key, targets_after}
use Rattle.zeb_profile.proofs.KnownKeys.{HoldsKeys}
use Rattle.zeb_profile.proofs.directives.TargetList.read.Given as goal

abbrev pub invariant-loop-part : goal.invariant-loop-part
invariant-loop-part l = record {
  known : HoldsKeys l.known (map target_key l.items.items);
  read : targets_after l.items.items (map (λ part. part.now) (drop l.part-index l.part-items)) ≡ targets_after [] (map (λ part. part.now) l.part-items);
}
