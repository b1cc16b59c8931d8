-- The parts of a canonical text, one after another.
use Rattle.zeb_profile.proofs.Cited.{◌≡◌, ℕ, List, [], ◌∷◌, ◌++◌, ap, sym, flat_map, Target, append-nil, target_text, targets_text}

-- the targets behind the first, each behind a comma
abbrev pub further_text : List Target → List ℕ
further_text targets = flat_map (λ target. 44 ∷ target_text target) targets

pub targets_text-first : (first : Target) (others : List Target) → targets_text (first ∷ others) ≡ target_text first ++ further_text others
targets_text-first first [] = sym (append-nil (target_text first))
targets_text-first first (second ∷ others) = ap (λ rest. target_text first ++ (44 ∷ rest)) (targets_text-first second others)
