-- Tables that differ in one leaf say the same of each key that this leaf doesn't cover.
use Rattle.zeb_register.proofs.Cited.{Row, row_cmp, Trees, ◌≡◌, ◌≢◌, ◌∙◌, ◌⊎◌, ◌/◌, ◌++◌, ℕ, ℤ, pos, refl, sym, ap, subst, inl, inr, arith, Greater, int_cmp_total, Key, register_code, register_front, HasRow, blocks_tree, ◌*◌, Covers, leaf_key, own_key, IsLeafOf}
use Rattle.zeb_register.proofs.ContentChanges.{integers_apart}
use Rattle.zeb_register.proofs.RisingLists.{told_by}
use Rattle.zeb_register.proofs.SameLeaves.{AgreeAt, agree_back, lacks_sum_there, malformed_there, part_there, sums_there}
use Rattle.zeb_register.specs.DamagedLeaves.{AreAlikeBeside, CoversSome, CoversUnit, DifferInLeaf, leaf_row}

-- each leaf of L has its own key in M
abbrev HasOwnKeys : (L M : Row → Type 0) → Type 0
HasOwnKeys L M = (leaf : Row) → L leaf → ¬ ¬ ((other : Row) × M other × (own_key other ≡ own_key leaf))

own_keys_itself : (L : Row → Type 0) → HasOwnKeys L L
own_keys_itself L leaf there none = none (leaf, there, refl)

-- so a leaf covers what one with its own key covers
covers_by : (L M : Row → Type 0) → HasOwnKeys L M → (key leaf other : Row) → Covers M key other → L leaf → own_key leaf ≡ own_key other → Covers L key leaf
covers_by L M moved key leaf other covers there own = record {
  is = there;
  up_to = subst (λ (k : Row). row_cmp k key ≢ Greater) (sym own) covers.up_to;
  greatest = λ next here up above. moved next here (λ it. covers.greatest it.0 it.1
      (subst (λ (k : Row). row_cmp k key ≢ Greater) (sym it.2) up)
      (ap (λ (k : Row). row_cmp k (own_key other)) it.2 ∙ ap (row_cmp (own_key next)) (sym own) ∙ above));
}

differ_back : (db : ℤ) (key : Key) (leaf other : Row) (one two : Trees) → DifferInLeaf db key leaf other one two → DifferInLeaf db key other leaf two one
differ_back db key leaf other one two differ = record {
  one_has = differ.two_has;
  two_has = differ.one_has;
  own = sym differ.own;
  others = λ row not_other not_leaf. (let same = differ.others row not_leaf not_other in (same.1, same.0));
}

module _ (db : ℤ) (key : Key) (d : ℤ) (k : Key) where
  -- two keys are of one register of a database, or not
  abbrev IsSameFront : Type 0
  IsSameFront = register_front d k.index k.register ≡ register_front db key.index key.register

  front_by : (x y : Row) → leaf_row d k x ≡ leaf_row db key y → IsSameFront
  front_by x y same = cc

  rest_by : (x y : Row) → leaf_row d k x ≡ leaf_row db key y → x ≡ y
  rest_by x y same = cc

  fronts : IsSameFront ⊎ (¬ IsSameFront)
  fronts = elim (told_by int_cmp_total integers_apart d db) [
    | inr not ↦ inr (λ same. not (let e : d ≡ db = cc in e))
    | inl same ↦ elim (told_by int_cmp_total integers_apart (pos k.index) (pos key.index)) [
      | inr not ↦ inr (λ fronts. not (let e : pos k.index ≡ pos key.index = cc in e))
      | inl index ↦ elim (told_by int_cmp_total integers_apart (pos (register_code k.register)) (pos (register_code key.register))) [
        | inr not ↦ inr (λ fronts. not (let e : pos (register_code k.register) ≡ pos (register_code key.register) = cc in e))
        | inl code ↦ inl cc
      ]
    ]
  ]

  module _ (leaf other : Row) (one two : Trees) (differ : DifferInLeaf db key leaf other one two) where
    -- the leaf itself is one of the second key's register, where that is the same
    one_has : IsSameFront → IsLeafOf one d k leaf
    one_has same = (subst (λ (front : Row). HasRow one blocks_tree (front ++ leaf)) (sym same) differ.one_has.0, differ.one_has.1, differ.one_has.2)

    two_has : IsSameFront → IsLeafOf two d k other
    two_has same = (subst (λ (front : Row). HasRow two blocks_tree (front ++ other)) (sym same) differ.two_has.0, differ.two_has.1, differ.two_has.2)

    -- a leaf that isn't the changed one is there in the other tables
    kept : (x : Row) → leaf_row d k x ≢ leaf_row db key leaf → leaf_row d k x ≢ leaf_row db key other → IsLeafOf one d k x → IsLeafOf two d k x
    kept x not_leaf not_other there = ((differ.others (leaf_row d k x) not_leaf not_other).0 there.0, there.1, there.2)

    pub own_keys : HasOwnKeys (IsLeafOf one d k) (IsLeafOf two d k)
    own_keys x there none = none (
      x,
      kept x
          (λ same. none (other, two_has (front_by x leaf same), sym differ.own ∙ ap own_key (sym (rest_by x leaf same))))
          (λ same. none (other, two_has (front_by x other same), ap own_key (sym (rest_by x other same))))
          there,
      refl,
    )

    some : ((x : Row) × IsLeafOf one d k x) → (x : Row) × IsLeafOf two d k x
    some it = elim fronts [
      | inl same ↦ (other, two_has same)
      | inr not ↦ (it.0, kept it.0 (λ e. not (front_by it.0 leaf e)) (λ e. not (front_by it.0 other e)) it.1)
    ]

module _ (db : ℤ) (key : Key) (leaf other : Row) (one two : Trees) (differ : DifferInLeaf db key leaf other one two) where
  abbrev back : DifferInLeaf db key other leaf two one
  back = differ_back db key leaf other one two differ

  module _ (d : ℤ) (k : Key) (n : ℕ) (beside : ¬ CoversUnit one (leaf_row db key leaf) d k n) where
    abbrev at : Row
    at = leaf_key k.term (n / 256)

    -- no leaf with the changed one's own key covers the unit, in neither of the tables
    not_own : (L : Row → Type 0) → HasOwnKeys (IsLeafOf one d k) L → (x : Row) → Covers L at x → IsSameFront db key d k → own_key x ≡ own_key leaf → ⊥
    not_own L moved x covers same own = beside (
      leaf,
      ap (λ (front : Row). front ++ leaf) (sym same),
      covers_by (IsLeafOf one d k) L moved at leaf x covers (one_has db key d k leaf other one two differ same) (sym own),
    )

    apart : (L : Row → Type 0) → HasOwnKeys (IsLeafOf one d k) L → (x : Row) → Covers L at x → leaf_row d k x ≢ leaf_row db key leaf
    apart L moved x covers same = not_own L moved x covers (front_by db key d k x leaf same) (ap own_key (rest_by db key d k x leaf same))

    apart_other : (L : Row → Type 0) → HasOwnKeys (IsLeafOf one d k) L → (x : Row) → Covers L at x → leaf_row d k x ≢ leaf_row db key other
    apart_other L moved x covers same = not_own L moved x covers (front_by db key d k x other same) (ap own_key (rest_by db key d k x other same) ∙ sym differ.own)

    abbrev itself : HasOwnKeys (IsLeafOf one d k) (IsLeafOf one d k)
    itself = own_keys_itself (IsLeafOf one d k)

    abbrev over : HasOwnKeys (IsLeafOf one d k) (IsLeafOf two d k)
    over = own_keys db key d k leaf other one two differ

    covers_over : (x : Row) → Covers (IsLeafOf one d k) at x → Covers (IsLeafOf two d k) at x
    covers_over x covers = covers_by (IsLeafOf two d k) (IsLeafOf one d k) (own_keys db key d k other leaf two one back) at x x covers
        (kept db key d k leaf other one two differ x (apart (IsLeafOf one d k) itself x covers) (apart_other (IsLeafOf one d k) itself x covers) covers.is) refl

    covers_home : (x : Row) → Covers (IsLeafOf two d k) at x → Covers (IsLeafOf one d k) at x
    covers_home x covers = covers_by (IsLeafOf one d k) (IsLeafOf two d k) over at x x covers
        (kept db key d k other leaf two one back x (apart_other (IsLeafOf two d k) over x covers) (apart (IsLeafOf two d k) over x covers) covers.is) refl

    agree : AgreeAt (IsLeafOf one d k) (IsLeafOf two d k) at
    agree = record {
      covers = λ x. (covers_over x, covers_home x);
      some = (some db key d k leaf other one two differ, some db key d k other leaf two one back);
    }

    abbrev agree_home : AgreeAt (IsLeafOf two d k) (IsLeafOf one d k) at
    agree_home = agree_back (IsLeafOf one d k) (IsLeafOf two d k) at agree

  -- each block of a key is that of some unit
  blocks_agree : (d : ℤ) (k : Key) → ¬ CoversSome one (leaf_row db key leaf) d k → (block : ℕ) → AgreeAt (IsLeafOf one d k) (IsLeafOf two d k) (leaf_key k.term block)
  blocks_agree d k beside block =
      let number : (256 * block) / 256 ≡ block = omega arith in
      subst (λ (b : ℕ). AgreeAt (IsLeafOf one d k) (IsLeafOf two d k) (leaf_key k.term b)) number (agree d k (256 * block) (λ covers. beside (256 * block, covers)))

  blocks_home : (d : ℤ) (k : Key) → ¬ CoversSome one (leaf_row db key leaf) d k → (block : ℕ) → AgreeAt (IsLeafOf two d k) (IsLeafOf one d k) (leaf_key k.term block)
  blocks_home d k beside block = agree_back (IsLeafOf one d k) (IsLeafOf two d k) (leaf_key k.term block) (blocks_agree d k beside block)

  pub alike_beside : AreAlikeBeside (leaf_row db key leaf) one two
  alike_beside = record {
    reads = λ d k n beside places. (
      λ reads. (reads.0, part_there (IsLeafOf one d k) (IsLeafOf two d k) k.term (n / 256) (agree d k n beside) reads.0 reads.1, reads.2),
      λ reads. (reads.0, part_there (IsLeafOf two d k) (IsLeafOf one d k) k.term (n / 256) (agree_home d k n beside) reads.0 reads.1, reads.2),
    );
    malformed = λ d k n beside. (
      malformed_there (IsLeafOf one d k) (IsLeafOf two d k) k.term (n / 256) (agree d k n beside),
      malformed_there (IsLeafOf two d k) (IsLeafOf one d k) k.term (n / 256) (agree_home d k n beside),
    );
    counts = λ d k beside records. (
      sums_there (IsLeafOf one d k) (IsLeafOf two d k) k.term (blocks_agree d k beside) records,
      sums_there (IsLeafOf two d k) (IsLeafOf one d k) k.term (blocks_home d k beside) records,
    );
    miscounted = λ d k beside. (
      lacks_sum_there (IsLeafOf one d k) (IsLeafOf two d k) k.term (blocks_agree d k beside),
      lacks_sum_there (IsLeafOf two d k) (IsLeafOf one d k) k.term (blocks_home d k beside),
    );
  }
