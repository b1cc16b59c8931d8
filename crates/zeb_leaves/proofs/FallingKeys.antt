-- The order of entries, of terms and of leaves in which the greatest come first, and keys below a text.
use Rattle.zeb_leaves.proofs.Cited.{Row, row_cmp, row_cmp_total, Has, ◌≡◌, ◌≢◌, ◌∙◌, ◌<◌, ◌≤◌, ◌++◌, ℕ, List, [], length, sym, ap, subst, inl, inr, arith, Ordering, Less, Equal, Greater, nat_cmp, ordering_then, never_itself, nat_list_cmp_total, Entry, TermCount, tied_itself, less_is, entry_cmp, leaf_key, own_key, IsTotalOrder, on_total, reverse, length-reverse, comes_not, comes_or, term_total, entries_total, flipped_total, front_rises, has_reversed, no_longer, reversed_rises, same_bytes, term_cmp, Comes}
use Rattle.std.specs.List.Sorted.{IsStrictlySortedBy}
use Rattle.zeb_leaves.proofs.CountedTerms.{falling, of_term}
use Rattle.zeb_leaves.proofs.FirstTerms.{key_less, less_key}
use Rattle.zeb_leaves.proofs.OneCover.{same_key}
use Rattle.zeb_leaves.proofs.SpanRuns.{below_or, flipped_back, from_term}
use Rattle.zeb_leaves.proofs.TermsTold.{from_least}
use Rattle.zeb_register.proofs.KeyOrder.{key_order}

-- ---- the other way round

pub falling_total : IsTotalOrder falling
falling_total = flipped_total nat_list_cmp_total

pub falling_apart : (t u : List ℕ) → falling t u ≡ Equal → t ≡ u
falling_apart t u is = sym (same_bytes u t is)

abbrev pub falls : Entry → Entry → Ordering
falls d e = entry_cmp e d

pub falls_total : IsTotalOrder falls
falls_total = flipped_total entries_total

pub fits_back : (old some xs ys : List TermCount) → IsStrictlySortedBy (of_term falling) old → IsStrictlySortedBy term_cmp some → xs ++ ys ≡ old
    → ((t : TermCount) → Has some t → Has xs t) → length some ≤ length xs
fits_back old some xs ys order up whole there =
    let front = reversed_rises term_total xs (front_rises (flipped_total term_total) xs ys (subst (IsStrictlySortedBy (of_term falling)) (sym whole) order)) in
    omega (arith, length-reverse xs, no_longer term_total (reverse xs) some front up (λ t h. (has_reversed xs t).1 (there t h)))

-- ---- keys

abbrev pub by_key : Row → Row → Ordering
by_key x y = row_cmp (own_key x) (own_key y)

pub keys_total : IsTotalOrder by_key
keys_total = on_total own_key row_cmp_total

pub key_before : (start t : List ℕ) (b : ℕ) → row_cmp (leaf_key t b) (leaf_key start 0) ≡ Less → Comes t start
key_before start t b less = elim (comes_or t start) [
  | inl low ↦ low
  | inr other ↦ absurd (from_term start t b ((comes_not t start).1 (λ low. elim other [
    | inl same ↦ never_itself nat_list_cmp_total start (subst (λ u. Comes u start) same low)
    | inr above ↦ less_key t start b 0 less above
  ])) (flipped_back (leaf_key t b) (leaf_key start 0) less))
]

pub key_up : (s t : List ℕ) (c b : ℕ) → row_cmp (leaf_key s c) (leaf_key t b) ≢ Greater → ¬ Comes t s
key_up s t c b up low = up (flipped_back (leaf_key t b) (leaf_key s c) (key_less t s b c low))

pub less_up_key : (s t : List ℕ) (c b : ℕ) → row_cmp (leaf_key s c) (leaf_key t b) ≡ Less → row_cmp (leaf_key s c) (leaf_key t b) ≢ Greater
less_up_key s t c b less above = let e : Less ≡ Greater = sym less ∙ above in cc

pub block_less : (t : List ℕ) (b c : ℕ) → b < c → row_cmp (leaf_key t b) (leaf_key t c) ≡ Less
block_less t b c low = key_order t t b c ∙ ap (λ o. ordering_then o (nat_cmp b c)) (tied_itself nat_list_cmp_total t) ∙ less_is b c low

-- below a key that isn't the least one stands the least one
pub least_below : (s : List ℕ) (c : ℕ) → (¬ ((s ≡ []) × (c ≡ 0))) → row_cmp (leaf_key [] 0) (leaf_key s c) ≡ Less
least_below s c other = elim (below_or (leaf_key [] 0) (leaf_key s c)) [
  | inl less ↦ less
  | inr up ↦
      let same : leaf_key s c ≡ leaf_key [] 0 = same_key s [] c 0 up (from_term [] s c (from_least s)) in
      absurd (other (parts s c same))
]
  where
    parts : (s : List ℕ) (c : ℕ) → leaf_key s c ≡ leaf_key [] 0 → (s ≡ []) × (c ≡ 0)
    parts s c same = ((let e : s ≡ [] = cc in e), (let e : c ≡ 0 = cc in e))
