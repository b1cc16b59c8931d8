-- The front of a list of entries, one entry longer.
use Rattle.zeb_leaf.proofs.Cited.{◌≡◌, ℕ, suc, ◌+◌, ◌<◌, ◌≤◌, List, [], ◌∷◌, ◌++◌, length, take, drop, slice_index_or, sym, ◌∙◌, ap, arith, length-append, length-drop, take-suc, Entry, leaf_bytes, first_place, behind_entry, last_place, drop-cons, TakesMore}
use Rattle.zeb_leaf.specs.Leaves.{entry_bytes}
use Rattle.zeb_leaf.proofs.Order.{last_place-append}
use Rattle.zeb_leaf.proofs.Pushing.{entries_bytes-append, one_entry}

take_one_more : (list : List Entry) (i : ℕ) (d : Entry) → i < length list → take (i + 1) list ≡ take i list ++ slice_index_or list i d ∷ []
take_one_more list i d inside = let next : i + 1 ≡ suc i = omega arith in rw next (take-suc list i d inside)

-- the last entry of a front
pub last_of : (list : List Entry) (i : ℕ) (d : Entry) → i < length list → last_place first_place (take (i + 1) list) ≡ behind_entry (slice_index_or list i d)
last_of list i d inside = ap (last_place first_place) (take_one_more list i d inside) ∙ last_place-append first_place (take i list) (slice_index_or list i d ∷ [])

-- the entry more is told behind the last term
pub front_longer : (list : List Entry) (i : ℕ) (d : Entry) → i < length list
    → length (leaf_bytes (take (i + 1) list)) ≡ length (leaf_bytes (take i list)) + length (entry_bytes (last_place first_place (take i list)).term (slice_index_or list i d))
front_longer list i d inside =
    let e = slice_index_or list i d in
    let front = take i list in
    let bytes = entries_bytes-append first_place front (e ∷ []) ∙ ap (λ (b : List ℕ). leaf_bytes front ++ b) (one_entry (last_place first_place front).term e) in
    ap (λ (xs : List Entry). length (leaf_bytes xs)) (take_one_more list i d inside) ∙ ap length bytes ∙ length-append (leaf_bytes front) (entry_bytes (last_place first_place front).term e)

-- with the first entry of what is left, the front takes more bytes than these
pub takes_more : (list own rest : List Entry) (n above most : ℕ) → own ≡ take n list → rest ≡ drop n list → above ≤ most → (n < length list → most < length (leaf_bytes (take (n + 1) list))) → TakesMore above own rest
takes_more list own [] n above most own_is rest_is less full = tt
takes_more list own (e ∷ rest) n above most own_is rest_is less full =
    let inside : n < length list = omega (arith, ap length rest_is, length-drop n list) in
    let first : e ≡ slice_index_or list n e = let cons = rest_is ∙ drop-cons list n e inside in cc in
    let longer : take (n + 1) list ≡ own ++ e ∷ [] = take_one_more list n e inside ∙ (λ i. sym own_is i ++ sym first i ∷ []) in
    omega (arith, less, full inside, ap (λ (xs : List Entry). length (leaf_bytes xs)) longer)
