-- Bytes that are copied at once behind the front of a text.
use Rattle.zeb_leaf.proofs.Cited.{◌≡◌, ℕ, ◌+◌, ◌≤◌, List, ◌++◌, length, take, sym, ◌∙◌, ap, arith, length-take-le}
use Rattle.std.proofs.Math.Seq.{take-append-add}
use Rattle.std.proofs.lemmas.List.{length-take, take-append-le, take-take}

-- as many of them count as are behind the front; what else was copied doesn't
pub front_put : (kept onward back more : List ℕ) (len place : ℕ) → place ≤ len → len ≤ length kept → length back ≤ 8 → take (length back) onward ≡ back
    → take (place + length back) (take place kept ++ (take 8 onward ++ more)) ≡ take place (take len kept) ++ back
front_put kept onward back more len place before within few begins =
    let n = length back in
    let front = take place kept in
    let chunk = take 8 onward in
    let long : length front ≡ place = length-take-le place kept (omega (arith, before, within)) in
    let enough : n ≤ length chunk = omega (arith, few, ap length begins, length-take n onward, length-take 8 onward) in
    let at : take n (chunk ++ more) ≡ back = take-append-le n chunk more enough ∙ take-take n 8 onward few ∙ begins in
    ap (λ (k : ℕ). take (k + n) (front ++ (chunk ++ more))) (sym long) ∙ take-append-add front (chunk ++ more) n ∙ ap (λ (b : List ℕ). front ++ b) at
    ∙ ap (λ (f : List ℕ). f ++ back) (sym (take-take place len kept before))
