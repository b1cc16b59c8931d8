-- What only the contracts of private functions speak of; no public clause reaches it: entries that are parted at a key.
use Rattle.std.specs.Prelude.{◌≡◌, ◌⊎◌, ◌++◌, ℕ, List, [], ◌∷◌, Option, Some, None}
use Rattle.std.specs.declared.cmp.Ordering.{Ordering}
use Rattle.std.specs.declared.cmp.Ordering.TheVariants.{Less, Equal}
use Rattle.std.specs.List.{AllByRecursion}
use Rattle.zeb_leaf.specs.Merging.{puts}
use Rattle.zeb_leaf.specs.Spans.{key_cmp}
use Rattle.zeb_leaf.specs.declared.entries.Entry.{Entry}
use Rattle.zeb_leaf.specs.declared.merging.BlockChange.{BlockChange}

module _ (term : List ℕ) (block : ℕ) where
  -- there is a first of them, and it lies so to the key
  abbrev pub Begins : Ordering → List Entry → Type 0
  Begins lies [] = ⊥
  Begins lies (e ∷ entries) = key_cmp e.term e.block term block ≡ lies

  -- the first is taken, if it is below the key
  abbrev pub TakesBelow : (old new : List Entry) → Option Entry → Type 0
  TakesBelow old new (Some e) = (old ≡ e ∷ new) × (key_cmp e.term e.block term block ≡ Less)
  TakesBelow old new None = (new ≡ old) × ¬ Begins Less old

  -- the entries below the key are moved from the front of those that are left behind the old ones, and the rest is left
  pub record MovesBelow (left rest old new : List Entry) : Type 0 where
    pub below : List Entry
    pub whole : left ≡ below ++ rest
    pub lower : AllByRecursion (λ (e : Entry). key_cmp e.term e.block term block ≡ Less) below
    pub next : ¬ Begins Less rest
    pub put : new ≡ old ++ below

  -- these are left of the entries where the first is left out if it is that of the key
  abbrev pub IsRestBehind : List Entry → List Entry → Type 0
  IsRestBehind entries rest =
      ((e : Entry) × (entries ≡ e ∷ rest) × (key_cmp e.term e.block term block ≡ Equal)) ⊎ ((rest ≡ entries) × ¬ Begins Equal entries)

  -- those below the key, and those behind its own
  pub record ArePartedAt (entries below behind : List Entry) : Type 0 where
    pub rest : List Entry
    pub whole : entries ≡ below ++ rest
    pub lower : AllByRecursion (λ (e : Entry). key_cmp e.term e.block term block ≡ Less) below
    pub next : ¬ Begins Less rest
    pub left : IsRestBehind rest behind

-- up to a changed block entries and what is put stand behind the old ones, and these are left
pub record Merges (c : BlockChange) (left old new rest : List Entry) : Type 0 where
  pub below : List Entry
  pub parted : ArePartedAt c.term c.block left below rest
  pub put : new ≡ old ++ (below ++ puts c)
