-- Changes of a key in leaves as they turn its units: in turn, and those of one block beside those of others.
use Rattle.zeb_leaves.proofs.Cited.{◌≡◌, ◌≢◌, ◌⊎◌, ◌∙◌, ◌/◌, ◌++◌, ◌∷◌, ℕ, List, [], refl, sym, ap, inl, inr, eqb_tells, Has, packed_leaves, AreSame, KeyUnits, TurnsUnit, TurnsUnits, RecordChange}
use Rattle.std.proofs.Common.{Bool, ◌==◌, eq-eqb, if◌then◌else◌}

abbrev pub Turns : List RecordChange → KeyUnits → KeyUnits → Type 0
Turns = TurnsUnits packed_leaves

-- ---- in turn

turns_from : (changes : List RecordChange) (a b c : KeyUnits) → AreSame a b → Turns changes a c → Turns changes b c
turns_from [] a b c same turns = (λ n. turns.0 n ∙ sym (same.0 n), turns.1 ∙ sym same.1)
turns_from (change ∷ changes) a b c same turns = (
  turns.0,
  record { found = same.0 change.sysno ∙ turns.1.found; put = turns.1.put; kept = λ n other. turns.1.kept n other ∙ sym (same.0 n); count = tt },
  turns.2,
)

pub turns_then : (xs ys : List RecordChange) (a b c : KeyUnits) → Turns xs a b → Turns ys b c → Turns (xs ++ ys) a c
turns_then [] ys a b c one two = turns_from ys b a c (λ n. sym (one.0 n), sym one.1) two
turns_then (x ∷ xs) ys a b c one two = (one.0, one.1, turns_then xs ys one.0 b c one.2 two)

pub turns_parted : (xs ys : List RecordChange) (a c : KeyUnits) → Turns (xs ++ ys) a c → (b : KeyUnits) × Turns xs a b × Turns ys b c
turns_parted [] ys a c turns = (a, (λ n. refl, refl), turns)
turns_parted (x ∷ xs) ys a c turns = let it = turns_parted xs ys turns.0 c turns.2 in (it.0, (turns.0, turns.1, it.1), it.2)

-- ---- units of one block beside those of the others

abbrev pub over : ℕ → (own others : KeyUnits) → KeyUnits
over block own others = record { places = λ n. if n / 256 == block then own.places n else others.places n; records = 0 }

module _ (block : ℕ) (own others : KeyUnits) (n : ℕ) where
  pub over_in : n / 256 ≡ block → (over block own others).places n ≡ own.places n
  over_in at = ap (λ (b : Bool). if b then own.places n else others.places n) (eq-eqb (n / 256) block at)

  pub over_out : n / 256 ≢ block → (over block own others).places n ≡ others.places n
  over_out far = elim (eqb_tells (n / 256) block) [
    | inl near ↦ absurd (far near.1)
    | inr other ↦ ap (λ (b : Bool). if b then own.places n else others.places n) other.0
  ]

-- what turns one unit turns it among others, where these stay
unit_so : (change : RecordChange) (a b c d : KeyUnits) → TurnsUnit packed_leaves change a b → c.places change.sysno ≡ a.places change.sysno → d.places change.sysno ≡ b.places change.sysno
    → ((n : ℕ) → ((c.places n ≡ a.places n) × (d.places n ≡ b.places n)) ⊎ (d.places n ≡ c.places n)) → TurnsUnit packed_leaves change c d
unit_so change a b c d turns first last each = record {
  found = first ∙ turns.found;
  put = last ∙ turns.put;
  kept = λ n other. elim (each n) [ inl both ↦ both.1 ∙ turns.kept n other ∙ sym both.0 | inr stays ↦ stays ];
  count = tt;
}

-- changes in a block turn its units beside any others
pub turns_over : (block : ℕ) (changes : List RecordChange) (a b others : KeyUnits) → ((change : RecordChange) → Has changes change → change.sysno / 256 ≡ block) → Turns changes a b → Turns changes (over block a others) (over block b others)
turns_over block [] a b others inside turns = (
  λ n. elim (eqb_tells (n / 256) block) [
    | inl near ↦ over_in block b others n near.1 ∙ turns.0 n ∙ sym (over_in block a others n near.1)
    | inr far ↦ over_out block b others n far.1 ∙ sym (over_out block a others n far.1)
  ],
  refl,
)
turns_over block (change ∷ changes) a b others inside turns =
    let mid = turns.0 in
    let here : change.sysno / 256 ≡ block = inside change (inl refl) in (
      over block mid others,
      unit_so change a mid (over block a others) (over block mid others) turns.1 (over_in block a others change.sysno here) (over_in block mid others change.sysno here) (λ n. elim (eqb_tells (n / 256) block) [
        | inl near ↦ inl (over_in block a others n near.1, over_in block mid others n near.1)
        | inr far ↦ inr (over_out block mid others n far.1 ∙ sym (over_out block a others n far.1))
      ]),
      turns_over block changes mid b others (λ x h. inside x (inr h)) turns.2,
    )

-- and changes outside it the others, whatever it has
pub turns_beside : (block : ℕ) (changes : List RecordChange) (own a b : KeyUnits) → ((change : RecordChange) → Has changes change → change.sysno / 256 ≢ block) → Turns changes a b → Turns changes (over block own a) (over block own b)
turns_beside block [] own a b outside turns = (
  λ n. elim (eqb_tells (n / 256) block) [
    | inl near ↦ over_in block own b n near.1 ∙ sym (over_in block own a n near.1)
    | inr far ↦ over_out block own b n far.1 ∙ turns.0 n ∙ sym (over_out block own a n far.1)
  ],
  refl,
)
turns_beside block (change ∷ changes) own a b outside turns =
    let mid = turns.0 in
    let far : change.sysno / 256 ≢ block = outside change (inl refl) in (
      over block own mid,
      unit_so change a mid (over block own a) (over block own mid) turns.1 (over_out block own a change.sysno far) (over_out block own mid change.sysno far) (λ n. elim (eqb_tells (n / 256) block) [
        | inl near ↦ inr (over_in block own mid n near.1 ∙ sym (over_in block own a n near.1))
        | inr other ↦ inl (over_out block own a n other.1, over_out block own mid n other.1)
      ]),
      turns_beside block changes own mid b (λ x h. outside x (inr h)) turns.2,
    )

-- changes in a block turn all units that are the same there
pub turns_so : (block : ℕ) (changes : List RecordChange) (a b c : KeyUnits) → ((change : RecordChange) → Has changes change → change.sysno / 256 ≡ block) → ((n : ℕ) → n / 256 ≡ block → c.places n ≡ a.places n) → c.records ≡ 0 → Turns changes a b → Turns changes c (over block b c)
turns_so block changes a b c inside same none turns = turns_from changes (over block a c) c (over block b c) (
  λ n. elim (eqb_tells (n / 256) block) [
    | inl near ↦ same n near.1 ∙ sym (over_in block a c n near.1)
    | inr far ↦ sym (over_out block a c n far.1)
  ],
  none,
) (turns_over block changes a b c inside turns)
