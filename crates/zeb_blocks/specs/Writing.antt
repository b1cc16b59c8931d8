-- What the parts of a writer of a block hold together.
use Rattle.std.specs.Prelude.{◌≡◌, ℕ, ◌^◌, ◌<◌, List}
use Rattle.zeb_blocks.specs.declared.postings.Posting.{Posting}
use Rattle.zeb_blocks.specs.Blocks.{LiesIn, start_of}
use Rattle.zeb_blocks.specs.Left.{SpellsFrom, last_from}

-- the parts of a block's writer: a block below 2^56, a list that lies in it, the list's bytes, and its last posting, or the block's start where it
-- is empty
pub record IsWritten (block : ℕ) (list : List Posting) (end : Posting) (bytes : List ℕ) : Type 0 where
  pub small : block < 2 ^ 56
  pub lies : LiesIn block list
  pub spells : SpellsFrom (start_of block) list bytes
  pub last : last_from (start_of block) list ≡ end
