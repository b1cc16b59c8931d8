-- What only the contracts of private functions speak of; no public clause reaches it.
-- Parts of a key's list changed block by block, and what is written of them.
use Rattle.std.specs.Prelude.{◌≡◌, ◌↔◌, ◌⊎◌, ◌≤◌, ◌^◌, ℕ, ℤ, Bool, false, List, Result}
use Rattle.sqlite.specs.declared.types.Value.TheVariants.{Blob}
use Rattle.sqlite.specs.Order.{Row, column}
use Rattle.sqlite.specs.Tree.{Trees}
use Rattle.zeb_blocks.specs.declared.postings.Posting.{Posting}
use Rattle.zeb_blocks.specs.Blocks.{BlockSpells}
use Rattle.zeb_keys.specs.declared.keys.Key.{Key}
use Rattle.zeb_packed.specs.declared.packed_changes.Known.{Known}
use Rattle.zeb_register.specs.Answers.{Answers, IfDamaged}
use Rattle.zeb_register.specs.UnitChanges.{IsBlockIn, IsTold}
use Rattle.zeb_register.specs.PackedBlocks.{block_row}
use Rattle.zeb_register.specs.Sql.{HasRow}
use Rattle.zeb_register.specs.Store.{blocks_tree}
use Rattle.zeb_register.specs.declared.faults.RegFault.{RegFault}

-- ---- the row of a key and a block

-- the row of the key and the block spells the list, and there is none where the list is empty
abbrev pub PutsBlock : ℤ → Key → ℕ → List Posting → ℕ → Trees → Trees → Type 0
PutsBlock db key block list tree old new =
    (row : Row) → HasRow new tree row
    ↔ ((HasRow old tree row × ¬ IsBlockIn db key block row) ⊎ ((bytes : List ℕ) × BlockSpells block list bytes × (row ≡ block_row db key block bytes)))

-- where this is told rightly, rows are changed so
abbrev pub IfTold : Bool → (Row → Type 0) → (ℕ → Trees → Trees → Type 0) → ℕ → Trees → Trees → Type 0
IfTold is_there P Rows tree old new = IsTold is_there P tree old → Rows tree old new

-- an accepted call tells that no row of `blocks` is P, and Damaged is told only where one is
abbrev pub TellsNone : {A : Type 0} → (Row → Type 0) → Trees → Result A RegFault → Type 0
TellsNone P trees result = Answers (IfDamaged (¬ IsTold false P blocks_tree trees)) (λ _. IsTold false P blocks_tree trees) result

-- the row shows bytes that spell the list in the block
abbrev pub SpellsIn : ℕ → Row → List Posting → Type 0
SpellsIn block row list = (bytes : List ℕ) × (column row 0 ≡ Blob bytes) × BlockSpells block list bytes

-- ---- what is known of a key

-- Nothing is known of the blocks of a key that some record has. One that none has is known to have no row of any block.
pub record IsClearFrom (known : Known) : Type 0 where
  pub none : known.records ≡ 0 → known.clear_from ≡ 0
  pub some : 1 ≤ known.records → 2 ^ 56 ≤ known.clear_from
