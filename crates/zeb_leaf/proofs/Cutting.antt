-- The entries of a leaf, cut before one of them.
use Rattle.zeb_leaf.proofs.Cited.{◌≡◌, ◌≢◌, ℕ, ◌<◌, List, [], ◌∷◌, ◌++◌, length, refl, ◌∙◌, ap, arith, length-append, Entry, IsLeaf, leaf_bytes, first_place, behind_entry, last_place}
use Rattle.zeb_leaf.specs.Leaves.{entries_bytes}
use Rattle.zeb_leaf.proofs.Order.{each_first, each_front, each_rest}
use Rattle.zeb_leaf.proofs.Walked.{leaf_spells, spells_leaf}
use Rattle.zeb_leaf.proofs.Pushing.{entries_bytes-append}
use Rattle.zeb_leaf.proofs.Numbers.{entries_at_least, entries_some, entries_whole}

pub front_leaf : (bytes : List ℕ) (front rest : List Entry) → front ≢ [] → IsLeaf bytes (front ++ rest) → IsLeaf (leaf_bytes front) front
front_leaf bytes front rest some leaf =
    let each = (leaf_spells bytes (front ++ rest) leaf).follow in
    spells_leaf (leaf_bytes front) front some record { follow = each_front first_place front rest each; spelled = refl }

pub rest_leaf : (bytes : List ℕ) (front rest : List Entry) → rest ≢ [] → IsLeaf bytes (front ++ rest) → IsLeaf (leaf_bytes rest) rest
rest_leaf bytes front rest some leaf =
    let each = (leaf_spells bytes (front ++ rest) leaf).follow in
    spells_leaf (leaf_bytes rest) rest some record { follow = each_first (last_place first_place front) rest (each_rest first_place front rest each); spelled = refl }

pub leaf_begins : (bytes : List ℕ) (front rest : List Entry) → IsLeaf bytes (front ++ rest) → bytes ≡ leaf_bytes front ++ entries_bytes (last_place first_place front).term rest
leaf_begins bytes front rest leaf = leaf.spelled ∙ entries_bytes-append first_place front rest

pub both_shorter : (bytes : List ℕ) (front rest : List Entry) → front ≢ [] → rest ≢ [] → IsLeaf bytes (front ++ rest) → (length (leaf_bytes front) < length bytes) × (length (leaf_bytes rest) < length bytes)
both_shorter bytes [] rest some some' leaf = absurd (some refl)
both_shorter bytes (p ∷ front) [] some some' leaf = absurd (some' refl)
both_shorter bytes (p ∷ front) (q ∷ rest) some some' leaf =
    let last = (last_place (behind_entry p) front).term in
    let e = ap length (leaf_begins bytes (p ∷ front) (q ∷ rest) leaf) in
    let whole = length-append (leaf_bytes (p ∷ front)) (entries_bytes last (q ∷ rest)) in
    let least = entries_at_least [] p front in
    let grown = entries_whole last q rest in
    let some_behind = entries_some last q rest in
    (omega (arith, e, whole, some_behind), omega (arith, e, whole, least, grown))
