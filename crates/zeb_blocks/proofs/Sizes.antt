-- How many bytes a block takes at most.
use Rattle.zeb_blocks.proofs.Cited.{ℕ, ◌*◌, ◌≤◌, List, [], ◌∷◌, ◌++◌, length, ap, arith, length-append, Gaps, Posting, BlockSpells, gaps_of, start_of}
use Rattle.zeb_blocks.specs.Blocks.{bytes_of, spelled_from}
use Rattle.zeb_blocks.specs.Numbers.{uleb}
use Rattle.zeb_blocks.proofs.Bytes.{length-uleb}

-- three numbers of ten bytes at most
length-bytes_of : (gaps : Gaps) → length (bytes_of gaps) ≤ 30
unfolding bytes_of
length-bytes_of gaps =
    omega (arith, length-append (uleb gaps.sysno) (uleb gaps.seq ++ uleb gaps.pos), length-append (uleb gaps.seq) (uleb gaps.pos), length-uleb gaps.sysno, length-uleb gaps.seq, length-uleb gaps.pos)

length-spelled_from : (before : Posting) (list : List Posting) → length (spelled_from before list) ≤ 30 * length list
unfolding spelled_from
length-spelled_from before [] = omega arith
length-spelled_from before (p ∷ list) = omega (arith, length-append (bytes_of (gaps_of before p)) (spelled_from p list), length-bytes_of (gaps_of before p), length-spelled_from p list)

-- a posting takes thirty bytes at most
pub length-block : (block : ℕ) (list : List Posting) (bytes : List ℕ) → BlockSpells block list bytes → length bytes ≤ 30 * length list
length-block block list bytes spells = omega (arith, ap length spells.spelled, length-spelled_from (start_of block) list)
