-- Lines that are written one after the other.
use Rattle.zeb_analysis.proofs.Cited.{◌≡◌, ◌∙◌, ℕ, ◌+◌, ◌<◌, suc, List, [], ◌∷◌, ◌++◌, length, take, get_or, append_assoc, sym, ap, arith, flat_map, flat_map-append, append-nil, take-suc}

-- behind the lines of the first so many stands that of the next
pub one_more_line : {A : Type 0} (line_of : A → List ℕ) (head : List ℕ) (xs : List A) (i : ℕ) (x : A) (line : List ℕ) → i < length xs → x ≡ get_or xs i x → line ≡ line_of x
    → (head ++ flat_map line_of (take i xs)) ++ line ≡ head ++ flat_map line_of (take (i + 1) xs)
one_more_line line_of head xs i x line within there is =
    let front = flat_map line_of (take i xs) in
    let next : suc i ≡ i + 1 = omega arith in
    let taken : take i xs ++ (x ∷ []) ≡ take (i + 1) xs = ap (λ y. take i xs ++ (y ∷ [])) there ∙ sym (take-suc xs i x within) ∙ ap (λ n. take n xs) next in
    append_assoc head front line
    ∙ ap (λ text. head ++ (front ++ text)) (is ∙ sym (append-nil (line_of x)))
    ∙ ap (λ text. head ++ text) (sym (flat_map-append line_of (take i xs) (x ∷ [])) ∙ ap (flat_map line_of) taken)
