-- How a joined text grows by one piece.
use Rattle.zeb_text.proofs.Cited.{◌≡◌, ℕ, ◌+◌, ◌<◌, ◌≤◌, List, [], ◌∷◌, ◌++◌, length, get_or, map, take, refl, sym, ap, ◌∙◌, arith, join_with_byte, append_assoc, map-append, take_more}

-- the images of one more element
pub map_more : {A B : Type 0} (f : A → B) (xs : List A) (i : ℕ) (x : A) → i < length xs → x ≡ get_or xs i x → map f (take (i + 1) xs) ≡ map f (take i xs) ++ f x ∷ []
map_more f xs i x lt is =
    ap (map f) (take_more xs i x lt) ∙ map-append f (take i xs) (get_or xs i x ∷ []) ∙ ap (λ y. map f (take i xs) ++ f y ∷ []) (sym is)

join-push : (c : ℕ) (x : List ℕ) (xs : List (List ℕ)) (y : List ℕ) → join_with_byte c ((x ∷ xs) ++ y ∷ []) ≡ (join_with_byte c (x ∷ xs) ++ c ∷ []) ++ y
join-push c x [] y = sym (append_assoc x (c ∷ []) y)
join-push c x (z ∷ zs) y =
    ap (λ rest. x ++ c ∷ rest) (join-push c z zs y)
    ∙ sym (append_assoc x (c ∷ (join_with_byte c (z ∷ zs) ++ c ∷ [])) y)
    ∙ ap (λ front. front ++ y) (sym (append_assoc x (c ∷ join_with_byte c (z ∷ zs)) (c ∷ [])))

-- a piece after others, and the first piece
pub join-more : (c : ℕ) (xs : List (List ℕ)) (y : List ℕ) → 0 < length xs → join_with_byte c (xs ++ y ∷ []) ≡ (join_with_byte c xs ++ c ∷ []) ++ y
join-more c [] y some = absurd (omega arith)
join-more c (x ∷ xs) y some = join-push c x xs y

pub join-first : (c : ℕ) (xs : List (List ℕ)) (y : List ℕ) → length xs ≤ 0 → join_with_byte c (xs ++ y ∷ []) ≡ join_with_byte c xs ++ y
join-first c [] y none = refl
join-first c (x ∷ xs) y none = absurd (omega arith)
