-- The order of entries: lists in which each entry may come behind the one before it are those that rise.
use Rattle.zeb_leaf.proofs.Cited.{◌≡◌, ℕ, ◌+◌, List, [], ◌∷◌, ◌++◌, refl, ◌∙◌, ap, subst, inl, inr, arith, common_steps, Less, Equal, Greater, slice_cmp, nat_cmp, ordering_then, AllByRecursion, Entry, IsEntry, entry_cmp, Place, first_place, behind_entry, last_place, Follows, ◌↔◌, Ordering}
use Rattle.std.specs.List.Sorted.{IsStrictlySortedBy}
use Rattle.std.proofs.lemmas.Cmp.{then_total, on_total, nat_cmp_total, nat_list_cmp_total}
use Rattle.std.specs.Cmp.{IsTotalOrder}
use Rattle.zeb_leaf.proofs.Rising.{Above, cmp_itself}

-- each entry may come behind the one before it, the first at the place
abbrev pub EachFollows : Place → List Entry → Type 0
EachFollows place [] = Unit {0}
EachFollows place (e ∷ entries) = Follows place e × EachFollows (behind_entry e) entries

-- ---- entries behind another

pub cmp_level : (xs ys : List ℕ) → slice_cmp nat_cmp xs ys ≡ Equal → xs ≡ ys
cmp_level [] [] level = refl
cmp_level [] (y ∷ ys) level = absurd (cc)
cmp_level (x ∷ xs) [] level = absurd (cc)
cmp_level (x ∷ xs) (y ∷ ys) level =
    let heads : (x ≡ y) × (slice_cmp nat_cmp xs ys ≡ Equal) = apart (slice_cmp nat_cmp xs ys) x y level in
    (λ i. heads.0 i ∷ cmp_level xs ys heads.1 i)
  where
    apart : (rest : Ordering) (x y : ℕ) → ordering_then (nat_cmp x y) rest ≡ Equal → (x ≡ y) × (rest ≡ Equal)
    apart rest x y level = grind (arith, common_steps, level)

pub cmp_same : (xs : List ℕ) → slice_cmp nat_cmp xs xs ≡ Equal
cmp_same [] = refl
cmp_same (x ∷ xs) = ap (λ o. ordering_then o (slice_cmp nat_cmp xs xs)) (cmp_itself x) ∙ cmp_same xs

-- by what the terms' comparison says
above_by : (terms : Ordering) (p q : Entry) → slice_cmp nat_cmp p.term q.term ≡ terms → ordering_then terms (nat_cmp p.block q.block) ≡ Less → Above p.term (p.block + 1) q.term q.block
above_by Less p q is less = inl is
above_by Equal p q is less = inr (cmp_level p.term q.term is, grind (arith, common_steps, less))
above_by Greater p q is less = absurd (cc)

pub above_from_cmp : (p q : Entry) → entry_cmp p q ≡ Less → Above p.term (p.block + 1) q.term q.block
above_from_cmp p q less = above_by (slice_cmp nat_cmp p.term q.term) p q refl less

pub cmp_from_above : (p q : Entry) → Above p.term (p.block + 1) q.term q.block → entry_cmp p q ≡ Less
cmp_from_above p q (inl less) = ap (λ o. ordering_then o (nat_cmp p.block q.block)) less
cmp_from_above p q (inr level) =
    let terms : slice_cmp nat_cmp p.term q.term ≡ Equal = subst (λ (t : List ℕ). slice_cmp nat_cmp p.term t ≡ Equal) level.0 (cmp_same p.term) in
    let blocks : nat_cmp p.block q.block ≡ Less = grind (arith, common_steps, level.1) in
    ap (λ o. ordering_then o (nat_cmp p.block q.block)) terms ∙ blocks

pub entries_total : IsTotalOrder entry_cmp
entries_total = then_total (on_total (λ (e : Entry). e.term) nat_list_cmp_total) (on_total (λ (e : Entry). e.block) nat_cmp_total)

-- ---- rising lists

all_above : (p q : Entry) (list : List Entry) → entry_cmp p q ≡ Less → AllByRecursion (λ r. entry_cmp q r ≡ Less) list → AllByRecursion (λ r. entry_cmp p r ≡ Less) list
all_above p q [] less each = tt
all_above p q (r ∷ list) less each = (entries_total.trans p q r less each.0, all_above p q list less each.1)

each_above : (p : Entry) (list : List Entry) → EachFollows (behind_entry p) list → AllByRecursion (λ q. entry_cmp p q ≡ Less) list
each_above p [] each = tt
each_above p (q ∷ list) each = let less = cmp_from_above p q each.0.above in (less, all_above p q list less (each_above q list each.1))

pub rises : (place : Place) (list : List Entry) → EachFollows place list → IsStrictlySortedBy entry_cmp list
unfolding IsStrictlySortedBy
rises place [] each = tt
rises place (p ∷ list) each = (each_above p list each.1, rises (behind_entry p) list each.1)

pub each_sound : (place : Place) (list : List Entry) → EachFollows place list → AllByRecursion IsEntry list
each_sound place [] each = tt
each_sound place (p ∷ list) each = (each.0.sound, each_sound (behind_entry p) list each.1)

follow_behind : (p : Entry) (list : List Entry) → AllByRecursion (λ q. entry_cmp p q ≡ Less) list → IsStrictlySortedBy entry_cmp list → AllByRecursion IsEntry list → EachFollows (behind_entry p) list
unfolding IsStrictlySortedBy
follow_behind p [] above up sound = tt
follow_behind p (q ∷ list) above up sound = (record { above = above_from_cmp p q above.0; sound = sound.0 }, follow_behind q list up.0 up.1 sound.1)

-- before the first entry any entry may come
pub first_follows : (e : Entry) → IsEntry e → Follows first_place e
first_follows e sound = record { above = above_none e.term e.block; sound = sound }
  where
    above_none : (term : List ℕ) (block : ℕ) → Above [] 0 term block
    above_none [] block = inr (refl, omega arith)
    above_none (x ∷ term) block = inl refl

pub follow_first : (list : List Entry) → IsStrictlySortedBy entry_cmp list → AllByRecursion IsEntry list → EachFollows first_place list
unfolding IsStrictlySortedBy
follow_first [] up sound = tt
follow_first (p ∷ list) up sound = (first_follows p sound.0, follow_behind p list up.0 up.1 sound.1)

-- ---- lists that are cut or joined

pub each_front : (place : Place) (xs ys : List Entry) → EachFollows place (xs ++ ys) → EachFollows place xs
each_front place [] ys each = tt
each_front place (x ∷ xs) ys each = (each.0, each_front (behind_entry x) xs ys each.1)

pub each_rest : (place : Place) (xs ys : List Entry) → EachFollows place (xs ++ ys) → EachFollows (last_place place xs) ys
each_rest place [] ys each = each
each_rest place (x ∷ xs) ys each = each_rest (behind_entry x) xs ys each.1

pub each_joined : (place : Place) (xs ys : List Entry) → EachFollows place xs → EachFollows (last_place place xs) ys → EachFollows place (xs ++ ys)
each_joined place [] ys each more = more
each_joined place (x ∷ xs) ys each more = (each.0, each_joined (behind_entry x) xs ys each.1 more)

-- entries that may come at a place may come first
pub each_first : (place : Place) (list : List Entry) → EachFollows place list → EachFollows first_place list
each_first place [] each = tt
each_first place (p ∷ list) each = (first_follows p each.0.sound, each.1)

pub last_place-append : (place : Place) (xs ys : List Entry) → last_place place (xs ++ ys) ≡ last_place (last_place place xs) ys
last_place-append place [] ys = refl
last_place-append place (x ∷ xs) ys = last_place-append (behind_entry x) xs ys

all_joined : (xs ys : List Entry) → AllByRecursion IsEntry xs → AllByRecursion IsEntry ys → AllByRecursion IsEntry (xs ++ ys)
all_joined [] ys each more = more
all_joined (x ∷ xs) ys each more = (each.0, all_joined xs ys each.1 more)

-- an entry may come behind a rising list just where it keeps it rising
pub follows_rising : (list : List Entry) (e : Entry) → IsStrictlySortedBy entry_cmp list → AllByRecursion IsEntry list → Follows (last_place first_place list) e ↔ (IsStrictlySortedBy entry_cmp (list ++ e ∷ []) × IsEntry e)
follows_rising list e up sound = (
  λ follows. (rises first_place (list ++ e ∷ []) (each_joined first_place list (e ∷ []) (follow_first list up sound) (follows, tt)), follows.sound),
  λ more. (each_rest first_place list (e ∷ []) (follow_first (list ++ e ∷ []) more.0 (all_joined list (e ∷ []) sound (more.1, tt)))).0,
)
