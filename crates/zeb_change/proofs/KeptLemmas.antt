-- Lists of kept records: the one with an identifier, and the lists with one more, with other bytes of one, and without one.
use Rattle.zeb_change.proofs.Cited.{◌≡◌, ◌≢◌, ◌⊎◌, ◌∙◌, ℕ, Bool, true, false, List, [], ◌∷◌, ◌++◌, map, find, Option, Some, None, inl, inr, refl, sym, ap, arith, AllByRecursion, nat_cmp, Less, bytes_eq-Decides, nat_tests, Has, all_has, has_found, Base, Kept, has_ident, kept_as}
use Rattle.std.specs.List.Sorted.{IsStrictlySortedBy}

-- ---- by identifier

pub has_same : (ident : List ℕ) (kept : Kept) → has_ident ident kept ≡ true → kept.ident ≡ ident
has_same ident kept h = sym ((bytes_eq-Decides ident kept.ident).0 h)

pub same_has : (ident : List ℕ) (kept : Kept) → kept.ident ≡ ident → has_ident ident kept ≡ true
same_has ident kept same = (bytes_eq-Decides ident kept.ident).1 (sym same)

pub tests : (b : Bool) → (b ≡ true) ⊎ (b ≡ false)
tests true = inl refl
tests false = inr refl

pub is_ident : (ident : List ℕ) (kept : Kept) → (has_ident ident kept ≡ true) ⊎ (has_ident ident kept ≡ false)
is_ident ident kept = tests (has_ident ident kept)

pub other_ident : (ident : List ℕ) (kept : Kept) → has_ident ident kept ≡ false → kept.ident ≢ ident
other_ident ident kept h same = let e : true ≡ false = sym (same_has ident kept same) ∙ h in cc

pub kept_found : (ident : List ℕ) (base : Base) (kept : Kept) → kept_as ident base ≡ Some kept → Has base.records kept × (kept.ident ≡ ident)
kept_found ident base kept found =
    let there = has_found (has_ident ident) base.records kept found in
    (there.0, has_same ident kept there.1)

missing : (ident : List ℕ) (records : List Kept) (kept : Kept) → find (has_ident ident) records ≡ None → Has records kept → has_ident ident kept ≡ false
missing ident [] kept none there = absurd there
missing ident (first ∷ rest) kept none there =
    elim (tests (has_ident ident first)) [
      | inl passes ↦ absurd (let e : Some first ≡ None = sym (rw passes refl) ∙ none in cc)
      | inr fails ↦ elim there [
        | inl same ↦ rw same fails
        | inr later ↦ missing ident rest kept (sym (rw fails refl) ∙ none) later
      ]
    ]

pub none_kept : (ident : List ℕ) (base : Base) (kept : Kept) → kept_as ident base ≡ None → Has base.records kept → kept.ident ≢ ident
none_kept ident base kept none there = other_ident ident kept (missing ident base.records kept none there)

-- none is found where none has it, and the one that has it where it alone has it
pub none_found : (ident : List ℕ) (base : Base) → ((kept : Kept) → Has base.records kept → kept.ident ≢ ident) → kept_as ident base ≡ None
none_found ident base none = go (kept_as ident base) refl
  where
    go : (o : Option Kept) → kept_as ident base ≡ o → kept_as ident base ≡ None
    go None e = e
    go (Some kept) e = let there = kept_found ident base kept e in absurd (none kept there.0 there.1)

pub one_found : (ident : List ℕ) (base : Base) (kept : Kept) → Has base.records kept → kept.ident ≡ ident
    → ((a b : Kept) → Has base.records a → Has base.records b → a.ident ≡ b.ident → a ≡ b) → kept_as ident base ≡ Some kept
one_found ident base kept there same single = go (kept_as ident base) refl
  where
    go : (o : Option Kept) → kept_as ident base ≡ o → kept_as ident base ≡ Some kept
    go None e = absurd (none_kept ident base kept e there same)
    go (Some other) e = let it = kept_found ident base other e in e ∙ ap Some (single other kept it.0 there (it.1 ∙ sym same))

-- ---- by number

abbrev pub AreRisingKept : List Kept → Type 0
AreRisingKept = IsStrictlySortedBy (λ (a b : Kept). nat_cmp a.sysno b.sysno)

less_apart : (a b : ℕ) → nat_cmp a b ≡ Less → a ≢ b
less_apart a b = grind (arith, nat_tests)

pub one_number : (records : List Kept) → AreRisingKept records → (a b : Kept) → Has records a → Has records b → a.sysno ≡ b.sysno → a ≡ b
unfolding IsStrictlySortedBy
one_number [] rising a b here there same = absurd here
one_number (first ∷ rest) rising a b (inl is_a) (inl is_b) same = is_a ∙ sym is_b
one_number (first ∷ rest) rising a b (inl is_a) (inr later) same =
    absurd (less_apart first.sysno b.sysno (all_has _ rest b rising.0 later) (ap (λ (k : Kept). k.sysno) (sym is_a) ∙ same))
one_number (first ∷ rest) rising a b (inr later) (inl is_b) same =
    absurd (less_apart first.sysno a.sysno (all_has _ rest a rising.0 later) (ap (λ (k : Kept). k.sysno) (sym is_b) ∙ sym same))
one_number (first ∷ rest) rising a b (inr here) (inr there) same = one_number rest rising.1 a b here there same

all_push : (P : Kept → Type 0) (records : List Kept) (kept : Kept) → AllByRecursion P records → P kept → AllByRecursion P (records ++ kept ∷ [])
all_push P [] kept all one = (one, tt)
all_push P (first ∷ rest) kept all one = (all.0, all_push P rest kept all.1 one)

pub push_rises : (records : List Kept) (kept : Kept) → AreRisingKept records → ((k : Kept) → Has records k → nat_cmp k.sysno kept.sysno ≡ Less) → AreRisingKept (records ++ kept ∷ [])
unfolding IsStrictlySortedBy
push_rises [] kept rising below = (tt, tt)
push_rises (first ∷ rest) kept rising below =
    (all_push (λ k. nat_cmp first.sysno k.sysno ≡ Less) rest kept rising.0 (below first (inl refl)), push_rises rest kept rising.1 (λ k h. below k (inr h)))

module _ (f : Kept → Kept) (same : (k : Kept) → (f k).sysno ≡ k.sysno) where
  all_mapped : (n : ℕ) (records : List Kept) → AllByRecursion (λ (k : Kept). nat_cmp n k.sysno ≡ Less) records → AllByRecursion (λ (k : Kept). nat_cmp n k.sysno ≡ Less) (map f records)
  all_mapped n [] all = tt
  all_mapped n (first ∷ rest) all = (rw (same first) all.0, all_mapped n rest all.1)

  pub map_rises : (records : List Kept) → AreRisingKept records → AreRisingKept (map f records)
  unfolding IsStrictlySortedBy
  map_rises [] rising = tt
  map_rises (first ∷ rest) rising =
      (rw (same first) (all_mapped first.sysno rest rising.0), map_rises rest rising.1)
