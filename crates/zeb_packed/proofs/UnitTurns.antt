-- A key's units as changes turn them, one after the other: from the same units they come to the same, and only those of the changed records
-- are others.
use Rattle.zeb_packed.proofs.Cited.{packed_blocks, ◌≡◌, ◌≢◌, ◌⊎◌, ◌∙◌, ◌+◌, ◌/◌, ◌==◌, ◌≤◌, ℕ, zero, suc, Bool, List, [], ◌∷◌, ◌++◌, drop, length, take, refl, sym, ap, subst, inl, inr, arith, if◌then◌else◌, eq-eqb, eqb_tells, Has, has_either, has_left, has_right, Place, RecordChange, AreSame, CountsOn, IsBlockCounted, IsTouched, KeyUnits, TurnsUnit, TurnsUnits}

-- ---- the same units

pub same_back : (one two : KeyUnits) → AreSame one two → AreSame two one
same_back one two same = (λ n. sym (same.0 n), sym same.1)

pub same_through : (one two three : KeyUnits) → AreSame one two → AreSame two three → AreSame one three
same_through one two three left right = (λ n. right.0 n ∙ left.0 n, right.1 ∙ left.1)

counted_so : (block : ℕ) (one two : KeyUnits) → ((n : ℕ) → n / 256 ≡ block → two.places n ≡ one.places n) → two.records ≡ one.records → IsBlockCounted block one → IsBlockCounted block two
counted_so block one two places records counted n at some =
    subst (λ r. 1 ≤ r) (sym records) (counted n at (λ none. some (places n at ∙ none)))

-- a change turns other units in the same way that agree in its block
pub unit_so : (change : RecordChange) (a b c d : KeyUnits) → ((n : ℕ) → n / 256 ≡ change.sysno / 256 → c.places n ≡ a.places n) → c.records ≡ a.records → ((n : ℕ) → n / 256 ≡ change.sysno / 256 → d.places n ≡ b.places n) → d.records ≡ b.records
    → ((n : ℕ) → ¬ (n / 256 ≡ change.sysno / 256) → d.places n ≡ c.places n) → TurnsUnit packed_blocks change a b → TurnsUnit packed_blocks change c d
unit_so change a b c d first first_count last last_count beside turns = record {
  found = first change.sysno refl ∙ turns.found;
  put = last change.sysno refl ∙ turns.put;
  kept = λ n other. elim (eqb_tells (n / 256) (change.sysno / 256)) [
    | inl near ↦ last n near.1 ∙ turns.kept n other ∙ sym (first n near.1)
    | inr far ↦ beside n far.1
  ];
  count = record {
    counted = subst (λ r. CountsOn change.old.now change.new.now r d.records) (sym first_count) (subst (CountsOn change.old.now change.new.now a.records) (sym last_count) turns.count.counted);
    few = subst (λ r. r ≤ 999999999) (sym last_count) turns.count.few;
    had = counted_so (change.sysno / 256) a c first first_count turns.count.had;
    has = counted_so (change.sysno / 256) b d last last_count turns.count.has;
  };
}

pub turns_from : (changes : List RecordChange) (a b c : KeyUnits) → AreSame a b → TurnsUnits packed_blocks changes a c → TurnsUnits packed_blocks changes b c
turns_from [] a b c same turns = same_through b a c (same_back a b same) turns
turns_from (change ∷ changes) a b c same turns = (turns.0, from, turns.2)
  where
    from : TurnsUnit packed_blocks change b turns.0
    from = record {
      found = same.0 change.sysno ∙ turns.1.found;
      put = turns.1.put;
      kept = λ n other. turns.1.kept n other ∙ sym (same.0 n);
      count = record {
        counted = subst (λ r. CountsOn change.old.now change.new.now r turns.0.records) (sym same.1) turns.1.count.counted;
        few = turns.1.count.few;
        had = counted_so (change.sysno / 256) a b (λ n at. same.0 n) same.1 turns.1.count.had;
        has = turns.1.count.has;
      };
    }

pub turns_to : (changes : List RecordChange) (a b c : KeyUnits) → TurnsUnits packed_blocks changes a b → AreSame b c → TurnsUnits packed_blocks changes a c
turns_to [] a b c turns same = same_through a b c turns same
turns_to (change ∷ changes) a b c turns same = (turns.0, turns.1, turns_to changes turns.0 b c turns.2 same)

pub turns_then : (xs ys : List RecordChange) (a b c : KeyUnits) → TurnsUnits packed_blocks xs a b → TurnsUnits packed_blocks ys b c → TurnsUnits packed_blocks (xs ++ ys) a c
turns_then [] ys a b c one two = turns_from ys b a c (same_back a b one) two
turns_then (x ∷ xs) ys a b c one two = (one.0, one.1, turns_then xs ys one.0 b c one.2 two)

pub turns_parted : (xs ys : List RecordChange) (a c : KeyUnits) → TurnsUnits packed_blocks (xs ++ ys) a c → (b : KeyUnits) × TurnsUnits packed_blocks xs a b × TurnsUnits packed_blocks ys b c
turns_parted [] ys a c turns = (a, (λ n. refl, refl), turns)
turns_parted (x ∷ xs) ys a c turns = let it = turns_parted xs ys turns.0 c turns.2 in (it.0, (turns.0, turns.1, it.1), it.2)

-- ---- which units are turned, and to what

pub counts_same : (old new : List Place) (was a b : ℕ) → CountsOn old new was a → CountsOn old new was b → a ≡ b
counts_same [] [] was a b left right = left ∙ sym right
counts_same [] (q ∷ new) was a b left right = left ∙ sym right
counts_same (p ∷ old) [] was a b left right = omega (arith, left, right)
counts_same (p ∷ old) (q ∷ new) was a b left right = left ∙ sym right

-- a change turns the same units to the same
pub same_after : (change : RecordChange) (a b c : KeyUnits) → TurnsUnit packed_blocks change a b → TurnsUnit packed_blocks change a c → AreSame b c
same_after change a b c left right = (
  λ n. elim (eqb_tells n change.sysno) [
    | inl same ↦ subst (λ m. c.places m ≡ b.places m) (sym same.1) (right.put ∙ sym left.put)
    | inr other ↦ right.kept n other.1 ∙ sym (left.kept n other.1)
  ],
  counts_same change.old.now change.new.now a.records c.records b.records right.count.counted left.count.counted,
)

-- units that agree in these records, and in the count, are turned to units that agree in them
pub turns_agree : (P : ℕ → Type 0) (changes : List RecordChange) (a b c d : KeyUnits) → TurnsUnits packed_blocks changes a b → TurnsUnits packed_blocks changes c d → ((n : ℕ) → P n → c.places n ≡ a.places n) → c.records ≡ a.records
    → ((n : ℕ) → P n → d.places n ≡ b.places n) × (d.records ≡ b.records)
turns_agree P [] a b c d left right places records = (λ n is. right.0 n ∙ places n is ∙ sym (left.0 n), right.1 ∙ records ∙ sym left.1)
turns_agree P (change ∷ changes) a b c d left right places records =
    turns_agree P changes left.0 b right.0 d left.2 right.2
    (λ n is. elim (eqb_tells n change.sysno) [
      | inl same ↦ subst (λ m. right.0.places m ≡ left.0.places m) (sym same.1) (right.1.put ∙ sym left.1.put)
      | inr other ↦ right.1.kept n other.1 ∙ places n is ∙ sym (left.1.kept n other.1)
    ])
    (counts_same change.old.now change.new.now a.records right.0.records left.0.records (subst (λ r. CountsOn change.old.now change.new.now r right.0.records) records right.1.count.counted) left.1.count.counted)

pub turns_few : (changes : List RecordChange) (a b : KeyUnits) → TurnsUnits packed_blocks changes a b → a.records ≤ 999999999 → b.records ≤ 999999999
turns_few [] a b turns few = subst (λ r. r ≤ 999999999) (sym turns.1) few
turns_few (change ∷ changes) a b turns few = turns_few changes turns.0 b turns.2 turns.1.count.few

-- ---- units of one block beside those of the others

abbrev pub over : ℕ → (own others : KeyUnits) → KeyUnits
over block own others = record { places = λ n. if n / 256 == block then own.places n else others.places n; records = own.records }

module _ (block : ℕ) (own others : KeyUnits) (n : ℕ) where
  pub over_in : n / 256 ≡ block → (over block own others).places n ≡ own.places n
  over_in at = ap (λ (b : Bool). if b then own.places n else others.places n) (eq-eqb (n / 256) block at)

  pub over_out : n / 256 ≢ block → (over block own others).places n ≡ others.places n
  over_out far = elim (eqb_tells (n / 256) block) [
    | inl near ↦ absurd (far near.1)
    | inr other ↦ ap (λ (b : Bool). if b then own.places n else others.places n) other.0
  ]

-- the units of one block are turned as they are beside any others
pub turns_over : (block : ℕ) (run : List RecordChange) (a b c : KeyUnits) → ((change : RecordChange) → Has run change → change.sysno / 256 ≡ block) → ((n : ℕ) → n / 256 ≡ block → c.places n ≡ a.places n) → c.records ≡ a.records
    → TurnsUnits packed_blocks run a b → TurnsUnits packed_blocks run c (over block b c)
turns_over block [] a b c inside places records turns = (
  λ n. elim (eqb_tells (n / 256) block) [
    | inl near ↦ over_in block b c n near.1 ∙ turns.0 n ∙ sym (places n near.1)
    | inr far ↦ over_out block b c n far.1
  ],
  turns.1 ∙ sym records,
)
turns_over block (change ∷ run) a b c inside places records turns =
    let mid = turns.0 in
    let next = over block mid c in
    let here : change.sysno / 256 ≡ block = inside change (inl refl) in
    let rest = turns_over block run mid b next (λ x h. inside x (inr h)) (λ n at. over_in block mid c n at) refl turns.2 in (
      next,
      unit_so change a mid c next (λ n at. places n (at ∙ here)) records (λ n at. over_in block mid c n (at ∙ here)) refl (λ n far. over_out block mid c n (λ at. far (at ∙ sym here))) turns.1,
      turns_to run next (over block b next) (over block b c) rest (
        λ n. elim (eqb_tells (n / 256) block) [
          | inl near ↦ over_in block b c n near.1 ∙ sym (over_in block b next n near.1)
          | inr far ↦ over_out block b c n far.1 ∙ sym (over_out block b next n far.1 ∙ over_out block mid c n far.1)
        ],
        refl,
      ),
    )

-- and units of other blocks whatever one block has
pub turns_beside : (block : ℕ) (changes : List RecordChange) (own a b : KeyUnits) → ((change : RecordChange) → Has changes change → change.sysno / 256 ≢ block) → TurnsUnits packed_blocks changes a b
    → TurnsUnits packed_blocks changes (record { places = (over block own a).places; records = a.records }) (record { places = (over block own b).places; records = b.records })
turns_beside block [] own a b outside turns = (
  λ n. elim (eqb_tells (n / 256) block) [
    | inl near ↦ over_in block own b n near.1 ∙ sym (over_in block own a n near.1)
    | inr far ↦ over_out block own b n far.1 ∙ turns.0 n ∙ sym (over_out block own a n far.1)
  ],
  turns.1,
)
turns_beside block (change ∷ changes) own a b outside turns =
    let mid = turns.0 in
    let other : change.sysno / 256 ≢ block = outside change (inl refl) in (
      record { places = (over block own mid).places; records = mid.records },
      unit_so change a mid (record { places = (over block own a).places; records = a.records }) (record { places = (over block own mid).places; records = mid.records })
          (λ n at. over_out block own a n (λ near. other (sym at ∙ near))) refl (λ n at. over_out block own mid n (λ near. other (sym at ∙ near))) refl
          (λ n far. elim (eqb_tells (n / 256) block) [
            | inl near ↦ over_in block own mid n near.1 ∙ sym (over_in block own a n near.1)
            | inr out ↦ over_out block own mid n out.1 ∙ turns.1.kept n (λ same. far (ap (λ m. m / 256) same)) ∙ sym (over_out block own a n out.1)
          ]) turns.1,
      turns_beside block changes own mid b (λ x h. outside x (inr h)) turns.2,
    )

-- ---- touched blocks

pub touched_left : (xs ys : List RecordChange) (block : ℕ) → IsTouched xs block → IsTouched (xs ++ ys) block
touched_left xs ys block it = (it.0, has_left xs ys it.0 it.1, it.2)

pub touched_right : (xs ys : List RecordChange) (block : ℕ) → IsTouched ys block → IsTouched (xs ++ ys) block
touched_right xs ys block it = (it.0, has_right xs ys it.0 it.1, it.2)

pub touched_either : (xs ys : List RecordChange) (block : ℕ) → IsTouched (xs ++ ys) block → IsTouched xs block ⊎ IsTouched ys block
touched_either xs ys block it = elim (has_either xs ys it.0 it.1) [ inl first ↦ inl (it.0, first, it.2) | inr later ↦ inr (it.0, later, it.2) ]

-- ---- changes that are left

drop_none : (k : ℕ) → drop {A = RecordChange} k [] ≡ []
drop_none zero = refl
drop_none (suc k) = refl

-- a run, and what is left behind it
pub run_left : (changes : List RecordChange) (done n : ℕ) → drop done changes ≡ take n (drop done changes) ++ drop (done + length (take n (drop done changes))) changes
run_left changes zero n =
    let same : length (take n changes) ≡ 0 + length (take n changes) = omega arith in
    subst (λ k. changes ≡ take n changes ++ drop k changes) same (first changes n)
  where
    first : (xs : List RecordChange) (k : ℕ) → xs ≡ take k xs ++ drop (length (take k xs)) xs
    first [] zero = refl
    first [] (suc k) = refl
    first (x ∷ xs) zero = refl
    first (x ∷ xs) (suc k) = ap (λ l. x ∷ l) (first xs k)
run_left [] (suc done) zero = sym (drop_none (suc done + 0))
run_left [] (suc done) (suc n) = sym (drop_none (suc done + 0))
run_left (x ∷ changes) (suc done) n =
    let more : suc done + length (take n (drop done changes)) ≡ suc (done + length (take n (drop done changes))) = omega arith in
    run_left changes done n ∙ ap (λ k. take n (drop done changes) ++ drop k (x ∷ changes)) (sym more)
