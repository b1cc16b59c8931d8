use Rattle.zeb_change.proofs.Cited.{◌≡◌, ◌+◌, ◌*◌, ◌∙◌, List, ℕ, ap, arith, drop, length, slice_index_or}
use Rattle.zeb_change.proofs.words.take_wide.Goals as goal

pub returns-then-words-lt4 : goal.returns-then-words-lt4
returns-then-words-lt4 c first second third fourth rest is = absurd (omega (arith, ap length is))

pub returns : goal.returns
returns c first second third fourth rest is =
    let one : c.from-3.result ≡ first = c.from-3.ensures ∙ ap (λ (l : List ℕ). slice_index_or l 0 0) is in
    let two : c.from-4.result ≡ second = c.from-4.ensures ∙ ap (λ (l : List ℕ). slice_index_or l 1 0) is in
    let three : c.from.result ≡ third = c.from.ensures ∙ ap (λ (l : List ℕ). slice_index_or l 2 0) is in
    let four : c.from-2.result ≡ fourth = c.from-2.ensures ∙ ap (λ (l : List ℕ). slice_index_or l 3 0) is in
    (λ i. one i + 65536 * (two i + 65536 * (three i + 65536 * four i)), c.split_at.ensures.back ∙ ap (λ (l : List ℕ). drop 4 l) is)
