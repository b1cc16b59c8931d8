-- Values of rows, one row behind the other.
use Rattle.zeb_packed.proofs.Cited.{◌≡◌, ◌∙◌, ◌++◌, ◌+◌, ◌<◌, ℕ, List, [], ◌∷◌, length, map, take, refl, sym, ap, get_or, take_more, map-append, Row, append-nil, append_assoc, joined}

joined_behind : (rows more : List Row) → joined (rows ++ more) ≡ joined rows ++ joined more
joined_behind [] more = refl
joined_behind (row ∷ rows) more = ap (λ (l : Row). row ++ l) (joined_behind rows more) ∙ sym (append_assoc row (joined rows) (joined more))

-- the values of one row more
pub one_more : {X : Type 0} (row_of : X → Row) (news : List X) (i : ℕ) (one : X) → i < length news → one ≡ get_or news i one → joined (map row_of (take (i + 1) news)) ≡ joined (map row_of (take i news)) ++ row_of one
one_more {X} row_of news i one below is =
    let rows = map row_of (take i news) in
    ap (λ (l : List X). joined (map row_of l)) (take_more news i one below ∙ ap (λ (x : X). take i news ++ x ∷ []) (sym is))
    ∙ ap joined (map-append row_of (take i news) (one ∷ []))
    ∙ joined_behind rows (row_of one ∷ [])
    ∙ ap (λ (l : Row). joined rows ++ l) (append-nil (row_of one))
