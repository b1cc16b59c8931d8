-- What only the contracts of private functions speak of; no public clause reaches it.
-- Postings and terms as rows of the packed tables show them. zeb_packed speaks of them too.
use Rattle.std.specs.Prelude.{◌≡◌, List, [], ◌∷◌, ◌++◌, ◌↔◌, ◌/◌, ℕ, ℤ}
use Rattle.sqlite.specs.Order.{Row}
use Rattle.zeb_blocks.specs.declared.postings.Posting.{Posting}
use Rattle.zeb_register.specs.PackedBlocks.{SpellsPart, IsBlockRow}
use Rattle.sqlite.specs.Tree.{Trees}
use Rattle.sqlite_rules.specs.Lists.{Has}
use Rattle.zeb_blocks.specs.Blocks.{IsNumbered}
use Rattle.zeb_keys.specs.declared.keys.Key.{Key}
use Rattle.zeb_register.specs.declared.registers.RecordChange.{RecordChange}
use Rattle.zeb_register.specs.Content.{Content, HasRisingLists}
use Rattle.zeb_register.specs.Sql.{HasRow}
use Rattle.zeb_register.specs.Store.{blocks_tree}

-- each row spells some postings, and these are they, one part behind the other
abbrev pub AreSpelled : List Row → List Posting → Type 0
AreSpelled [] list = list ≡ []
AreSpelled (row ∷ rows) list = (part : List Posting) × (rest : List Posting) × SpellsPart row part × AreSpelled rows rest × (list ≡ part ++ rest)

-- the change is of a record of the block
abbrev pub IsInBlock : ℕ → RecordChange → Type 0
IsInBlock block change = change.sysno / 256 ≡ block

-- the rows of `blocks` hold the content, whatever those of `dict` say
pub record HoldsBlockRows (trees : Trees) (content : Content) : Type 0 where
  pub rising : HasRisingLists content
  pub numbered : (db : ℤ) (key : Key) (p : Posting) → Has (content db key) p → IsNumbered p
  pub blocks : (row : Row) → HasRow trees blocks_tree row ↔ IsBlockRow content row
