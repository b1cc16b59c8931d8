-- What entries become where blocks are changed.
use Rattle.std.specs.Prelude.{◌≡◌, ◌⊎◌, ◌↔◌, ℕ, List, [], ◌∷◌, Option, Some, None, Contains}
use Rattle.std.specs.declared.cmp.Ordering.{Ordering}
use Rattle.std.specs.List.{AllByRecursion}
use Rattle.std.specs.List.Sorted.{IsStrictlySortedBy}
use Rattle.zeb_leaf.specs.Order.{IsEntry, entry_cmp}
use Rattle.zeb_leaf.specs.Spans.{key_cmp}
use Rattle.zeb_leaf.specs.declared.entries.Entry.{Entry}
use Rattle.zeb_leaf.specs.declared.merging.BlockChange.{BlockChange}
use Rattle.zeb_leaf.specs.declared.merging.NewBlock.{NewBlock}

-- ---- one change

abbrev pub change_cmp : BlockChange → BlockChange → Ordering
change_cmp p q = key_cmp p.term p.block q.term q.block

-- the entry is of the block that is changed
abbrev pub IsOf : BlockChange → Entry → Type 0
IsOf c e = (e.term ≡ c.term) × (e.block ≡ c.block)

-- the entry that the block of a term has with this in it: none without
abbrev pub entry_with : List ℕ → ℕ → Option NewBlock → List Entry
entry_with term block None = []
entry_with term block (Some new) = record { term = term; block = block; records = new.records; bytes = new.bytes } ∷ []

-- what a change puts in the place of its block's entry
abbrev pub puts : BlockChange → List Entry
puts c = entry_with c.term c.block c.new

-- ---- many

-- the changes are of different blocks, and rise as entries do; what they put are entries
pub record AreChanges (changes : List BlockChange) : Type 0 where
  pub rising : IsStrictlySortedBy change_cmp changes
  pub each : AllByRecursion (λ c. AllByRecursion IsEntry (puts c)) changes

-- one of the changes is of the entry's block
abbrev pub IsTouched : List BlockChange → Entry → Type 0
IsTouched changes e = (c : BlockChange) × Contains changes c × IsOf c e

-- one of the changes puts the entry
abbrev pub IsPut : List BlockChange → Entry → Type 0
IsPut changes e = (c : BlockChange) × Contains changes c × Contains (puts c) e

-- they are the old entries, but those of changed blocks, and what is put; they rise
pub record AreMerged (changes : List BlockChange) (old new : List Entry) : Type 0 where
  pub has : (e : Entry) → Contains new e ↔ ((Contains old e × ¬ IsTouched changes e) ⊎ IsPut changes e)
  pub rising : IsStrictlySortedBy entry_cmp new
  pub each : AllByRecursion IsEntry new
