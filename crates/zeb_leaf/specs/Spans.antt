-- Which entries of a leaf have keys, each a term and a block, from one on and below another.
use Rattle.std.specs.Prelude.{◌≡◌, ◌≢◌, ◌⊎◌, ℕ, List, [], ◌∷◌}
use Rattle.std.specs.declared.cmp.Ordering.{Ordering}
use Rattle.std.specs.declared.cmp.Ordering.TheVariants.{Less}
use Rattle.std.specs.Ordering.{nat_cmp, ordering_then}
use Rattle.std.specs.Cmp.Lexicographic.{slice_cmp}
use Rattle.zeb_leaf.specs.Answers.{entry_of}
use Rattle.zeb_leaf.specs.declared.entries.Entry.{Entry}
use Rattle.zeb_leaf.specs.declared.entries.Held.{Held}

-- how the key of a block of a term lies to another one, as entries rise
abbrev pub key_cmp : List ℕ → ℕ → List ℕ → ℕ → Ordering
key_cmp term block other number = ordering_then (slice_cmp nat_cmp term other) (nat_cmp block number)

module _ (first : List ℕ) (least : ℕ) (end : List ℕ) (number : ℕ) where
  -- the entry's key isn't below the first one, and is below the end
  pub record IsInSpan (e : Entry) : Type 0 where
    pub from : key_cmp e.term e.block first least ≢ Less
    pub below : key_cmp e.term e.block end number ≡ Less

  -- these are the entries that are so, in their order, by what they have beside their terms
  abbrev pub AreInSpan : List Entry → List Held → Type 0
  AreInSpan [] held = held ≡ []
  AreInSpan (e ∷ entries) held =
      (IsInSpan e × (found : Held) × (rest : List Held) × (e ≡ entry_of e.term found) × (held ≡ found ∷ rest) × AreInSpan entries rest)
      ⊎ ((¬ IsInSpan e) × AreInSpan entries held)
