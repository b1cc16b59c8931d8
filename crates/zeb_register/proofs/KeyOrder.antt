-- The order of keys, as SQL gives rows in it.
use Rattle.zeb_register.proofs.Cited.{Row, row_cmp, row_cmp_total, then-Equal, value_cmp-Int, value_cmp-Text, ◌≡◌, ◌≢◌, ◌∙◌, ◌<◌, ◌≤◌, ℕ, pos, true, false, List, Ordering, Less, Equal, Greater, sym, ap, arith, nat_cmp, nat_tests, tied_itself, nat_list_cmp_total, slice_cmp, is_lt, ordering_reverse, ordering_then, leaf_key}
use Rattle.zeb_register.proofs.ContentLemmas.{ints_order}

-- by the bytes of the term, and then by the block
pub key_order : (s t : List ℕ) (b c : ℕ) → row_cmp (leaf_key s b) (leaf_key t c) ≡ ordering_then (slice_cmp nat_cmp s t) (nat_cmp b c)
key_order s t b c = rw (value_cmp-Text s t, value_cmp-Int (pos b) (pos c), ints_order b c) (ap (ordering_then (slice_cmp nat_cmp s t)) (then-Equal (nat_cmp b c)))

pub greater_is : (m n : ℕ) → n < m → nat_cmp m n ≡ Greater
greater_is m n h = grind (arith, nat_tests)

-- ---- rows that aren't above others

-- what isn't below another row isn't below it from the other side
pub not_lower : (x y : Row) → is_lt (row_cmp x y) ≡ false → row_cmp y x ≢ Greater
not_lower x y low up = from (row_cmp x y) low (sym (row_cmp_total.antisymm y x) ∙ up)
  where
    from : (o : Ordering) → is_lt o ≡ false → ordering_reverse o ≡ Greater → ⊥
    from Less low up = let e : true ≡ false = low in cc
    from Equal low up = let e : Equal ≡ Greater = up in cc
    from Greater low up = let e : Less ≡ Greater = up in cc

-- a key is up to another of its term whose block is as great
pub up_to_block : (t : List ℕ) (b c : ℕ) → b ≤ c → row_cmp (leaf_key t b) (leaf_key t c) ≢ Greater
up_to_block t b c low above =
    let tie : slice_cmp nat_cmp t t ≡ Equal = tied_itself nat_list_cmp_total t in
    let e : nat_cmp b c ≡ Greater = sym (ap (λ o. ordering_then o (nat_cmp b c)) tie) ∙ sym (key_order t t b c) ∙ above in
    grind (arith, nat_tests, e)
