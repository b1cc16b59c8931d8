use Rattle.zeb_profile.proofs.Cited.{◌≡◌, ◌++◌, drop, string_bytes, targets_text}
use Rattle.zeb_profile.proofs.CanonicalTexts.{further_text}
use Rattle.zeb_profile.proofs.canonical.push_targets.Given as goal

abbrev pub invariant-loop-target : goal.invariant-loop-target
invariant-loop-target l = string_bytes l.text ++ further_text (drop l.target-index l.others) ≡ string_bytes l.fn.text ++ targets_text l.fn.targets
