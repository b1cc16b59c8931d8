use Rattle.zeb_profile.proofs.Cited.{◌≡◌, ◌++◌, ◌∷◌, rules, append_assoc, ap, sym, ◌∙◌, string_bytes, target_text}
use Rattle.zeb_profile.proofs.CanonicalTexts.{targets_text-first, further_text}
use Rattle.zeb_profile.proofs.canonical.push_targets.Goals as goal

pub loop-target-init : goal.loop-target-init
loop-target-init c =
    let e : c.args.targets.now ≡ c.in-Some.first.now ∷ c.in-Some.others.now = search rules in
    let old = string_bytes c.args.text.now in
    rw (c.in_ok-push_target-in-Some.ensures, e)
    (append_assoc old (target_text c.in-Some.first.now) (further_text c.in-Some.others.now) ∙ ap (λ rest. old ++ rest) (sym (targets_text-first c.in-Some.first.now c.in-Some.others.now)))
