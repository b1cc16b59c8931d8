-- The rows of `blocks` of a database, in their order: those of one register stand beside each other, and rise by their own keys.
use Rattle.zeb_leaves.proofs.Cited.{Row, column, row_cmp, Int, Blob, ◌≡◌, ◌≢◌, ◌⊎◌, ◌∙◌, ◌<◌, ◌∷◌, ℕ, pos, List, [], refl, sym, ap, ap₂, subst, inl, inr, arith, Ordering, Less, Equal, Greater, nat_cmp, slice_cmp, ordering_then, value_cmp-Int, value_cmp-Text, nat_cmp_total, numbers_apart, told_by, is_less, Key, register_code, key_in, Entry, ShowsEntries, ints_order, nat_tests, IsBeside, Leaf, ShowsLeaf, leaf_shown, own_of, rest_shown, one_shown, same_rest}
use Rattle.zeb_leaves.proofs.SpanRuns.{rows_up}
use Rattle.zeb_register.proofs.ContentLemmas.{same_key}
use Rattle.zeb_register.proofs.KeyOrder.{key_order}

-- ---- how two rows lie

-- the register of the first key is below that of the second
abbrev pub IsBelow : Key → Key → Type 0
IsBelow k l = (k.index < l.index) ⊎ ((k.index ≡ l.index) × (register_code k.register < register_code l.register))

pub beside_by : (k l : Key) → k.index ≡ l.index → register_code k.register ≡ register_code l.register → IsBeside k l
beside_by k l index code =
    let same = same_key (key_in k.index k.register []) (key_in l.index l.register []) index code refl in
    (index, ap (λ (x : Key). x.register) same)

not_below : (k l : Key) → IsBeside k l → IsBelow k l → ⊥
not_below k l beside (inl low) = omega (arith, beside.0, low)
not_below k l beside (inr low) = let same = ap register_code beside.1 in omega (arith, same, low.1)

rests_order : (k l : Key) (b c : ℕ) (x y : List ℕ)
    → row_cmp (rest_shown k b x) (rest_shown l c y)
    ≡ ordering_then (nat_cmp k.index l.index) (ordering_then (nat_cmp (register_code k.register) (register_code l.register)) (row_cmp (leaf_shown k b x) (leaf_shown l c y)))
rests_order k l b c x y =
    rw (
      value_cmp-Int (pos k.index) (pos l.index),
      value_cmp-Int (pos (register_code k.register)) (pos (register_code l.register)),
      ints_order k.index l.index,
      ints_order (register_code k.register) (register_code l.register),
    ) refl

leaves_order : (k l : Key) (b c : ℕ) (x y : List ℕ)
    → row_cmp (leaf_shown k b x) (leaf_shown l c y) ≡ ordering_then (slice_cmp nat_cmp k.term l.term) (ordering_then (nat_cmp b c) (row_cmp (Blob x ∷ []) (Blob y ∷ [])))
leaves_order k l b c x y = rw (value_cmp-Text k.term l.term, value_cmp-Int (pos b) (pos c), ints_order b c) refl

-- a row below another is of a register below, or of the same one and below it there
lies : (k l : Key) (b c : ℕ) (x y : List ℕ) → row_cmp (rest_shown k b x) (rest_shown l c y) ≡ Less → IsBelow k l ⊎ (IsBeside k l × (row_cmp (leaf_shown k b x) (leaf_shown l c y) ≡ Less))
lies k l b c x y less = from (nat_cmp k.index l.index) refl (nat_cmp (register_code k.register) (register_code l.register)) refl (sym (rests_order k l b c x y) ∙ less)
  where
    rest : Ordering
    rest = row_cmp (leaf_shown k b x) (leaf_shown l c y)

    codes : Ordering
    codes = nat_cmp (register_code k.register) (register_code l.register)

    from : (o : Ordering) → nat_cmp k.index l.index ≡ o → (p : Ordering) → codes ≡ p → ordering_then (nat_cmp k.index l.index) (ordering_then codes rest) ≡ Less → IsBelow k l ⊎ (IsBeside k l × (rest ≡ Less))
    from Less i p j low = inl (inl (is_less k.index l.index i))
    from Greater i p j low = absurd (let e : Greater ≡ Less = sym (ap (λ o. ordering_then o (ordering_then codes rest)) i) ∙ low in cc)
    from Equal i Less j low = inl (inr (numbers_apart k.index l.index i, is_less (register_code k.register) (register_code l.register) j))
    from Equal i Greater j low = absurd (let e : Greater ≡ Less = sym (ap₂ (λ o p. ordering_then o (ordering_then p rest)) i j) ∙ low in cc)
    from Equal i Equal j low =
        inr (beside_by k l (numbers_apart k.index l.index i) (numbers_apart (register_code k.register) (register_code l.register) j), sym (ap₂ (λ o p. ordering_then o (ordering_then p rest)) i j) ∙ low)

own_lower : (o p q : Ordering) → ordering_then o p ≡ Less → ordering_then o (ordering_then p q) ≡ Less
own_lower Less p q low = refl
own_lower Greater p q low = low
own_lower Equal Less q low = refl
own_lower Equal Greater q low = low
own_lower Equal Equal q low = absurd (let e : Equal ≡ Less = low in cc)

pub beside_told : (k l : Key) → IsBeside k l ⊎ ¬ IsBeside k l
beside_told k l = elim (told_by nat_cmp_total numbers_apart k.index l.index) [
  | inr other ↦ inr (λ beside. other beside.0)
  | inl index ↦ elim (told_by nat_cmp_total numbers_apart (register_code k.register) (register_code l.register)) [
    | inr other ↦ inr (λ beside. other (ap register_code beside.1))
    | inl code ↦ inl (beside_by k l index code)
  ]
]

-- ---- the leaves that rows show

-- a row with its register in front
abbrev pub front_of : Key → Row → Row
front_of key r = Int (pos key.index) ∷ Int (pos (register_code key.register)) ∷ r

pub shown_beside : (key : Key) (r : Row) (leaf : Leaf) → ShowsLeaf (front_of key r) leaf → IsBeside leaf.key key
shown_beside key r leaf shows =
    let one : Int (pos key.index) ≡ Int (pos leaf.key.index) = ap (λ (q : Row). column q 0) shows.is in
    let two : Int (pos (register_code key.register)) ≡ Int (pos (register_code leaf.key.register)) = ap (λ (q : Row). column q 1) shows.is in
    beside_by leaf.key key (let e : leaf.key.index ≡ key.index = cc in e) (let e : register_code leaf.key.register ≡ register_code key.register = cc in e)

-- a row shows one leaf
pub one_leaf_shown : (row : Row) (a b : Leaf) → ShowsLeaf row a → ShowsLeaf row b → a ≡ b
one_leaf_shown row a b left right =
    let told = same_rest a.key b.key a.block b.block left.bytes right.bytes (sym left.is ∙ right.is) in
    let back = ap₂ (λ (k : Key) (n : ℕ). leaf_shown k n right.bytes) (sym told.0) (sym told.1) ∙ ap (leaf_shown a.key a.block) (sym told.2) in
    let entries = one_shown (leaf_shown a.key a.block left.bytes) a.entries b.entries left.shown (subst (λ (r : Row). ShowsEntries r b.entries) back right.shown) in
    ap₂ (λ (k : Key) (n : ℕ). by k n a.entries) told.0 told.1 ∙ ap (by b.key b.block) entries
  where
    by : Key → ℕ → List Entry → Leaf
    by key block entries = record { key = key; block = block; entries = entries }

module _ (x y : Row) (a b : Leaf) (here : ShowsLeaf x a) (there : ShowsLeaf y b) where
  abbrev pub Lies : Type 0
  Lies = IsBelow a.key b.key ⊎ (IsBeside a.key b.key × (row_cmp (leaf_shown a.key a.block here.bytes) (leaf_shown b.key b.block there.bytes) ≡ Less))

  pub rows_lie : row_cmp x y ≡ Less → Lies
  rows_lie less = lies a.key b.key a.block b.block here.bytes there.bytes (sym (ap₂ row_cmp here.is there.is) ∙ less)

  -- of two rows of one register the lower has the lower key, or the same
  pub leaves_up : IsBeside a.key b.key → row_cmp x y ≡ Less → row_cmp (own_of a) (own_of b) ≢ Greater
  leaves_up beside less = elim (rows_lie less) [
    | inl below ↦ absurd (not_below a.key b.key beside below)
    | inr it ↦ rows_up a.key.term b.key.term a.block b.block here.bytes there.bytes it.1
  ]

  -- and the other way round
  pub leaves_less : IsBeside a.key b.key → row_cmp (own_of a) (own_of b) ≡ Less → row_cmp x y ≡ Less
  leaves_less beside less =
      let leaf = leaves_order a.key b.key a.block b.block here.bytes there.bytes ∙ own_lower (slice_cmp nat_cmp a.key.term b.key.term) (nat_cmp a.block b.block) (row_cmp (Blob here.bytes ∷ []) (Blob there.bytes ∷ [])) (sym (key_order a.key.term b.key.term a.block b.block) ∙ less) in
      let index : nat_cmp a.key.index b.key.index ≡ Equal = tie a.key.index b.key.index beside.0 in
      let code : nat_cmp (register_code a.key.register) (register_code b.key.register) ≡ Equal = tie (register_code a.key.register) (register_code b.key.register) (ap register_code beside.1) in
      ap₂ row_cmp here.is there.is ∙ rests_order a.key b.key a.block b.block here.bytes there.bytes
      ∙ ap₂ (λ o p. ordering_then o (ordering_then p (row_cmp (leaf_shown a.key a.block here.bytes) (leaf_shown b.key b.block there.bytes)))) index code ∙ leaf
    where
      tie : (m n : ℕ) → m ≡ n → nat_cmp m n ≡ Equal
      tie m n same = grind (arith, nat_tests, same)

-- a row between two of one register is of that register
pub leaves_between : (x y z : Row) (a b c : Leaf) → ShowsLeaf x a → ShowsLeaf y b → ShowsLeaf z c → IsBeside a.key c.key → row_cmp x y ≡ Less → row_cmp y z ≡ Less → IsBeside a.key b.key
leaves_between x y z a b c one two three beside low high = elim (rows_lie x y a b one two low) [
  | inr it ↦ it.0
  | inl below ↦ absurd (elim (rows_lie y z b c two three high) [
    | inr it ↦ not_below a.key b.key (beside.0 ∙ sym it.0.0, beside.1 ∙ sym it.0.1) below
    | inl above ↦ never below above
  ])
]
  where
    code : register_code a.key.register ≡ register_code c.key.register
    code = ap register_code beside.1

    never : IsBelow a.key b.key → IsBelow b.key c.key → ⊥
    never (inl low) (inl up) = omega (arith, beside.0, low, up)
    never (inl low) (inr up) = omega (arith, beside.0, low, up.0)
    never (inr low) (inl up) = omega (arith, beside.0, low.0, up)
    never (inr low) (inr up) = omega (arith, code, low.1, up.1)
