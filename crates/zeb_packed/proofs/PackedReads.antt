-- What one row of the packed tables says of a key.
use Rattle.zeb_packed.proofs.Cited.{key_row, BlockReads, IsBlockIn, ◌≡◌, ℕ, ℤ, pos, List, [], ◌++◌, slice_get, Some, false, refl, ap, Int, Row, Trees, LiesIn, Key, register_code, KeyOf, IsOfNumbered, numbered_columns, IsTold, block_key, IsListOf, IsRest, blocks_tree, first_is}
use Rattle.std.specs.List.Sorted.{IsStrictlySortedBy}

abbrev pub block_front : ℤ → Key → ℕ → Row
block_front db key block = block_key db (pos key.index) (pos (register_code key.register)) key.term (pos block)

-- ---- blocks

-- a row that is shown is one of the key and the block
pub block_is_there : (trees : Trees) (at : KeyOf) (stored number : ℤ) → stored ≡ number → (rows : List Row) (row : Row) → IsListOf (IsRest blocks_tree (numbered_columns at stored) trees) rows → slice_get rows 0 ≡ Some row
    → ¬ IsTold false (IsOfNumbered at number) blocks_tree trees
block_is_there trees at stored number is rows row list first told =
    told (numbered_columns at stored ++ row) (first_is (IsRest blocks_tree (numbered_columns at stored) trees) rows row list first) (refl, refl, refl, refl, ap Int is)

pub empty_lies : (block : ℕ) → LiesIn block []
unfolding IsStrictlySortedBy
empty_lies block = record { rising = tt; numbered = tt; inside = tt }

-- a block without a row reads as no postings
pub lacks_reads : (trees : Trees) (db : ℤ) (key : Key) (block : ℕ) → IsTold false (IsBlockIn db key block) blocks_tree trees → BlockReads trees db key block []
lacks_reads trees db key block told = record {
  spelled = λ row of. absurd (told (key_row db key ++ row) of.0 (refl, refl, refl, refl, of.1));
  there = λ some. absurd (some refl);
}
