-- Into which leaves a list of entries is cut.
use Rattle.std.specs.Prelude.{◌≡◌, ◌/◌, ◌<◌, ◌≤◌, ℕ, List, [], ◌∷◌, ◌++◌, length}
use Rattle.zeb_leaf.specs.Leaves.{IsLeaf, leaf_bytes}
use Rattle.zeb_leaf.specs.declared.parting.Filling.{Filling}
use Rattle.zeb_leaf.specs.declared.parting.Filling.TheVariants.{Even, Full}
use Rattle.zeb_leaf.specs.declared.parting.NewLeaf.{NewLeaf}
use Rattle.zeb_leaf.specs.declared.entries.Entry.{Entry}
use Rattle.zeb_leaf.specs.declared.entries.TheConstants.{FULL_BYTES}

-- with the first entry of the next leaf a leaf takes more bytes than this: half of FULL_BYTES, or FULL_BYTES where leaves are filled
abbrev pub bytes_above : Filling → ℕ
bytes_above Even = FULL_BYTES / 2
bytes_above Full = FULL_BYTES

-- the key is that of the first entry
abbrev pub BeginsAt : NewLeaf → List Entry → Type 0
BeginsAt leaf [] = ⊥
BeginsAt leaf (e ∷ entries) = (leaf.term ≡ e.term) × (leaf.block ≡ e.block)

-- the leaf with the next entry takes more bytes than these
abbrev pub TakesMore : ℕ → (own rest : List Entry) → Type 0
TakesMore above own [] = Unit {0}
TakesMore above own (e ∷ rest) = above < length (leaf_bytes (own ++ e ∷ []))

-- a leaf begins at its first entry's key and has these entries, several of them in at most FULL_BYTES bytes; with the first of the rest it would
-- take more than so many bytes
pub record IsCutOff (above : ℕ) (leaf : NewLeaf) (own rest : List Entry) : Type 0 where
  pub first : BeginsAt leaf own
  pub spelled : IsLeaf leaf.bytes own
  pub small : 2 ≤ length own → length leaf.bytes ≤ FULL_BYTES
  pub full : TakesMore above own rest

-- the leaves have the entries, one behind the other
abbrev pub AreCut : ℕ → List NewLeaf → List Entry → Type 0
AreCut above [] entries = entries ≡ []
AreCut above (leaf ∷ leaves) entries =
    (own : List Entry) × (rest : List Entry) × (entries ≡ own ++ rest) × IsCutOff above leaf own rest × AreCut above leaves rest
