-- The size of a leaf, by its bytes and by its entries.
use Rattle.zeb_leaves.proofs.Cited.{Row, column, Blob, Has, ◌≡◌, ◌∙◌, ◌≤◌, ℕ, ℤ, List, length, sym, ap, subst, inl, inr, arith, Trees, Entry, Key, Content, Covers, HoldsLeaves, IsLeafAlone, IsLeafOf, ShowsEntries, leaf_bytes, leaf_key, LEAF_BYTES, one_shown}
use Rattle.zeb_leaves.specs.LeafSizes.{IsSmall}

-- a leaf with entries has the bytes of these
size_of : (leaf : Row) (bytes : List ℕ) (entries : List Entry) → column leaf 2 ≡ Blob bytes → ShowsEntries leaf entries → 2 ≤ length entries → length bytes ≡ length (leaf_bytes entries)
size_of leaf bytes entries is shows two =
    let b : Blob bytes ≡ Blob shows.0 = sym is ∙ shows.1 in
    let same : bytes ≡ shows.0 = cc in
    ap length same ∙ elim shows.2 [ inl spelled ↦ ap length spelled.spelled | inr none ↦ absurd (omega (arith, two, ap length none.1)) ]

pub alone_small : (Leaves : Row → Type 0) (leaf : Row) → IsLeafAlone Leaves leaf → IsSmall leaf
alone_small Leaves leaf alone = λ bytes entries is shows two.
    let same : alone.entries ≡ entries = one_shown leaf alone.entries entries alone.shown shows in
    let few : length (leaf_bytes entries) ≤ LEAF_BYTES = subst (λ (l : List Entry). 2 ≤ length l → length (leaf_bytes l) ≤ LEAF_BYTES) same alone.small two in
    omega (arith, few, size_of leaf bytes entries is shows two)

pub held_small : (trees : Trees) (content : Content) → HoldsLeaves trees content → (db : ℤ) (key : Key) (leaf : Row) → IsLeafOf trees db key leaf → IsSmall leaf
held_small trees content holds db key leaf there = alone_small (IsLeafOf trees db key) leaf (holds.alone.leaves db key leaf there)

pub small_alone : (Leaves : Row → Type 0) (leaf : Row) (entries : List Entry) → ShowsEntries leaf entries → ((e : Entry) → Has entries e → Covers Leaves (leaf_key e.term e.block) leaf) → IsSmall leaf → IsLeafAlone Leaves leaf
small_alone Leaves leaf entries shows within small = record {
  entries = entries;
  shown = shows;
  within = within;
  small = λ two. omega (arith, small shows.0 entries shows.1 shows two, size_of leaf shows.0 entries shows.1 shows two);
}
