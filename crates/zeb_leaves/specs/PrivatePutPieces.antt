-- What only the contracts of private functions speak of; no public clause reaches it: the pieces of a run that lie in what one leaf covers.
use Rattle.std.specs.Prelude.{◌≡◌, ◌≢◌, ◌⊎◌, ℕ, List, [], Some, None, IsUtf8}
use Rattle.std.specs.declared.cmp.Ordering.TheVariants.{Greater}
use Rattle.sqlite.specs.Order.{Row, row_cmp}
use Rattle.sqlite_rules.specs.Lists.{Has}
use Rattle.zeb_keys.specs.declared.keys.Key.{Key}
use Rattle.zeb_leaves.specs.PrivatePieces.{ArePieces, block_of}
use Rattle.zeb_leaves.specs.PrivateTermReads.{End}
use Rattle.zeb_register.specs.Covering.{IsUpTo, leaf_key, own_key}
use Rattle.zeb_register.specs.declared.registers.KeyChanges.{KeyChanges}

-- what the leaf covers ends at the own key of the next one, which is the least above its own, or nowhere
abbrev pub EndsLeaf : (Row → Type 0) → Row → End → Type 0
EndsLeaf Leaves leaf None = (other : Row) → Leaves other → IsUpTo (own_key leaf) other
EndsLeaf Leaves leaf (Some end) =
    (next : Row) × Leaves next × (own_key next ≡ leaf_key end.0 end.1) × ¬ IsUpTo (own_key leaf) next
    × ((other : Row) → Leaves other → IsUpTo (own_key leaf) other ⊎ (row_cmp (own_key next) (own_key other) ≢ Greater))

-- There is a piece. All are of the key's register, with terms that are text, and lie in blocks that are Own.
pub record ArePiecesIn (key : Key) (Own : List ℕ → ℕ → Type 0) (pieces : List KeyChanges) : Type 0 where
  pub some : pieces ≢ []
  pub are : ArePieces pieces
  pub index : (piece : KeyChanges) → Has pieces piece → piece.key.now.index ≡ key.index
  pub register : (piece : KeyChanges) → Has pieces piece → piece.key.now.register ≡ key.register
  pub text : (piece : KeyChanges) → Has pieces piece → IsUtf8 piece.key.now.term
  pub own : (piece : KeyChanges) → Has pieces piece → Own piece.key.now.term (block_of piece.changes.now)
