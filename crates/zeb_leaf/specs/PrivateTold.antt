-- What only the contracts of private functions speak of; no public clause reaches it.
-- The parts in which an entry is told, and when they tell one; which entries are chosen.
use Rattle.std.specs.Prelude.{◌≡◌, ◌≢◌, ◌⊎◌, ℕ, ◌+◌, ◌^◌, ◌<◌, ◌≤◌, List, [], ◌∷◌, ◌++◌, length, drop, take}
use Rattle.std.specs.declared.cmp.Ordering.TheVariants.{Less}
use Rattle.std.specs.Ordering.{nat_cmp}
use Rattle.std.specs.Cmp.Lexicographic.{slice_cmp}
use Rattle.zeb_blocks.specs.Numbers.{uleb}
use Rattle.zeb_leaf.specs.Spans.{IsInSpan, key_cmp}
use Rattle.zeb_leaf.specs.Answers.{entry_of}
use Rattle.zeb_leaf.specs.Leaves.{counted, shared_of}
use Rattle.zeb_leaf.specs.Walks.{Place, Steps, Walk}
use Rattle.zeb_leaf.specs.declared.entries.Entry.{Entry}
use Rattle.zeb_leaf.specs.declared.entries.Held.{Held}
use Rattle.zeb_leaf.specs.declared.spans.Side.{Side}
use Rattle.zeb_leaf.specs.declared.spans.Side.TheVariants.{Below, Near, Past}
use Rattle.zeb_leaf.specs.declared.telling.Told.{Told}
use Rattle.zeb_leaf.specs.declared.walking.Step.{Step}

-- the parts of an entry
pub record Parts : Type 0 where
  pub shared : ℕ
  pub suffix : List ℕ
  pub block : ℕ
  pub records : ℕ
  pub bytes : List ℕ

abbrev pub parts_told : Told → Parts
parts_told told = record { shared = told.shared; suffix = told.suffix.now; block = told.block; records = told.records; bytes = told.bytes.now }

unfoldable pub parts_bytes : Parts → List ℕ
parts_bytes p = uleb p.shared ++ (counted p.suffix ++ (uleb p.block ++ (uleb p.records ++ counted p.bytes)))

-- each number fits 64 bits
pub record AreSmall (p : Parts) : Type 0 where
  pub shared : p.shared < 2 ^ 64
  pub suffix : length p.suffix < 2 ^ 64
  pub block : p.block < 2 ^ 64
  pub records : p.records < 2 ^ 64
  pub bytes : length p.bytes < 2 ^ 64

-- what is left of a term and of the one before it, behind all that they share, rises; where both end there, the blocks do
abbrev pub Rises : List ℕ → List ℕ → ℕ → ℕ → Type 0
Rises [] [] least block = least ≤ block
Rises [] (y ∷ ys) least block = Unit {0}
Rises (x ∷ xs) [] least block = ⊥
Rises (x ∷ xs) (y ∷ ys) least block = x < y

-- their numbers are those of an entry
pub record Sound (p : Parts) : Type 0 where
  pub term : p.shared + length p.suffix < 2 ^ 64
  pub block : p.block < 2 ^ 56
  pub records : (1 ≤ p.records) × (p.records ≤ 256)

-- they tell an entry that may come at the place, if its term is text
pub record Fit (place : Place) (p : Parts) : Type 0 where
  pub shared : p.shared ≤ length place.term
  pub rises : Rises (drop p.shared place.term) p.suffix place.least p.block
  pub sound : Sound p

-- the entry that they tell behind a term
abbrev pub entry_told : List ℕ → Parts → Entry
entry_told before p = record { term = take p.shared before ++ p.suffix; block = p.block; records = p.records; bytes = p.bytes }

-- a step of a walk over an entry, whose term shares so many bytes with the one before it
abbrev pub StepsBy : Walk → Step → Walk → Type 0
StepsBy old step new = Steps old (entry_of new.place.term step.held) new × (step.shared ≡ shared_of old.place.term new.place.term)

-- ---- entries that are chosen

-- the entry beside a span of keys: its term is below that of the first key and shares so many bytes with it, or it isn't below the end
abbrev pub IsOnSide : (first end : List ℕ) → ℕ → (term : List ℕ) → ℕ → Side → Type 0
IsOnSide first end number term block (Below count) = (slice_cmp nat_cmp term first ≡ Less) × (count ≡ shared_of term first)
IsOnSide first end number term block Near = Unit {0}
IsOnSide first end number term block Past = key_cmp term block end number ≢ Less

-- an entry behind it that shares so many bytes with it is outside of the span
abbrev pub IsOutside : Side → ℕ → Type 0
IsOutside (Below count) shared = count < shared
IsOutside Near shared = ⊥
IsOutside Past shared = Unit {0}

-- the entry is put behind the others, if its key is from one on and below another
abbrev pub TakesIfInSpan : List ℕ → ℕ → List ℕ → ℕ → Entry → (old new : List Held) → Type 0
TakesIfInSpan first least end number e old new =
    (IsInSpan first least end number e × (found : Held) × (e ≡ entry_of e.term found) × (new ≡ old ++ found ∷ []))
    ⊎ ((¬ IsInSpan first least end number e) × (new ≡ old))
