-- The own key of a leaf, which a statement tells alone.
use Rattle.zeb_leaves.proofs.Cited.{Row, ◌≡◌, ◌∙◌, ◌∷◌, Some, None, Option, List, [], map, refl, sym, ap, subst, IsLastOf, IsLeast, TellsKey, own_key, option_map, never_last, HidesEnd, IsEndAt, End, same_last}
use Rattle.zeb_leaves.proofs.BehindStatements.{ShowsLeast, ShowsLeastKey}

-- it is the last of those that are shown
pub key_shown : (P : Row → Type 0) (rows : List Row) (found : Option Row) → IsLastOf rows found → ShowsLeastKey P rows → TellsKey (IsLeast P) found
key_shown P rows found last shows = from shows.0 found shows.1 last shows.2
  where
    from : (leaves : List Row) (found : Option Row) → rows ≡ map own_key leaves → IsLastOf rows found → ShowsLeast P leaves → TellsKey (IsLeast P) found
    from [] None is last none = (None, refl, none)
    from [] (Some row) is last none = absurd (never_last row (subst (λ (l : List Row). IsLastOf l (Some row)) is last))
    from (leaf ∷ leaves) None is last it = absurd (let e : own_key leaf ∷ map own_key leaves ≡ [] = sym is ∙ last in cc)
    from (leaf ∷ leaves) (Some row) is last it =
        let same : own_key leaf ≡ row = same_last [] last.0 (own_key leaf) row (sym (is ∙ ap (λ l. own_key leaf ∷ map own_key l) it.0) ∙ last.1) in
        (Some leaf, ap Some (sym same), (it.1, it.2))

-- where a key is told, a leaf is found; and none where none is
pub leaf_told : (Found : Option Row → Type 0) (told : Option Row) (key : Row) → told ≡ Some key → TellsKey Found told → (leaf : Row) × (Some key ≡ Some (own_key leaf)) × Found (Some leaf)
leaf_told Found told key is it = from it.0 it.1 it.2
  where
    from : (leaf : Option Row) → told ≡ option_map own_key leaf → Found leaf → (leaf : Row) × (Some key ≡ Some (own_key leaf)) × Found (Some leaf)
    from (Some leaf) shows found = (leaf, sym is ∙ shows, found)
    from None shows found = absurd (let e : Some key ≡ None = sym is ∙ shows in cc)

pub none_told : (Found : Option Row → Type 0) (told : Option Row) → told ≡ None → TellsKey Found told → Found None
none_told Found told is it = from it.0 it.1 it.2
  where
    from : (leaf : Option Row) → told ≡ option_map own_key leaf → Found leaf → Found None
    from None shows found = found
    from (Some leaf) shows found = absurd (let e : None ≡ Some (own_key leaf) = sym is ∙ shows in cc)

-- what is found so is found otherwise
pub told_so : (P Q : Option Row → Type 0) (told : Option Row) → ((leaf : Option Row) → P leaf → Q leaf) → TellsKey P told → TellsKey Q told
told_so P Q told so it = (it.0, it.1, so it.0 it.2)

-- the key ends what the leaf ends, and is hidden where the leaf's own is
pub told_ends : (told leaf : Option Row) (end : End) → told ≡ option_map own_key leaf → IsEndAt told end → IsEndAt leaf end
told_ends told None end is ends = subst (λ (next : Option Row). IsEndAt next end) is ends
told_ends told (Some leaf) None is ends = subst (λ (next : Option Row). IsEndAt next None) is ends
told_ends told (Some leaf) (Some end) is ends = subst (λ (next : Option Row). IsEndAt next (Some end)) is ends

pub told_hides : (told leaf : Option Row) → told ≡ option_map own_key leaf → HidesEnd told → HidesEnd leaf
told_hides told None is hides = subst HidesEnd is hides
told_hides told (Some leaf) is hides = subst HidesEnd is hides
