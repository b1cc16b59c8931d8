-- How a block of a key's postings is spelled in bytes. This coding is the project's own; its numbers are those of ULEB128.
use Rattle.std.specs.Prelude.{◌≡◌, ◌≢◌, ℕ, ◌-◌, ◌*◌, ◌/◌, ◌^◌, ◌<◌, ◌≤◌, ◌==◌, if◌then◌else◌, List, [], ◌∷◌, ◌++◌}
use Rattle.std.specs.List.{AllByRecursion}
use Rattle.std.specs.List.Sorted.{IsStrictlySortedBy}
use Rattle.zeb_blocks.specs.declared.postings.Posting.{Posting}
use Rattle.zeb_blocks.specs.declared.gaps.Gaps.{Gaps}
use Rattle.zeb_blocks.specs.Numbers.{uleb}
use Rattle.zeb_blocks.specs.Order.{posting_cmp}

-- each number of the posting is at least 1 and fits 64 bits
pub record IsNumbered (p : Posting) : Type 0 where
  pub sysno : (1 ≤ p.sysno) × (p.sysno < 2 ^ 64)
  pub seq : (1 ≤ p.seq) × (p.seq < 2 ^ 64)
  pub pos : (1 ≤ p.pos) × (p.pos < 2 ^ 64)

-- a rising list of postings whose system numbers div 256 are the block
pub record LiesIn (block : ℕ) (list : List Posting) : Type 0 where
  pub rising : IsStrictlySortedBy posting_cmp list
  pub numbered : AllByRecursion IsNumbered list
  pub inside : AllByRecursion (λ p. p.sysno / 256 ≡ block) list

-- from where the first posting of a block is counted: from 256 times the block; unit and place are counted from 0
abbrev pub start_of : ℕ → Posting
start_of block = record { sysno = 256 * block; seq = 0; pos = 0 }

-- the three numbers that tell a posting from the one before it in the same record: no gap of the system number; the gap of the unit;
-- the place, as its gap where the unit is the same
abbrev pub gaps_in_record : Posting → Posting → Gaps
gaps_in_record before p =
    if p.seq == before.seq
    then record { sysno = 0; seq = 0; pos = p.pos - before.pos }
    else record { sysno = 0; seq = p.seq - before.seq; pos = p.pos }

-- the three numbers that tell any posting from the one before it: of system number, unit and place, 0 for those that are the same, the gap for the
-- first that differs, and those behind it as they are
abbrev pub gaps_of : Posting → Posting → Gaps
gaps_of before p =
    if p.sysno == before.sysno
    then gaps_in_record before p
    else record { sysno = p.sysno - before.sysno; seq = p.seq; pos = p.pos }

-- the bytes of the three numbers
unfoldable pub bytes_of : Gaps → List ℕ
bytes_of gaps = uleb gaps.sysno ++ (uleb gaps.seq ++ uleb gaps.pos)

-- the bytes of each posting's three numbers, one posting behind the other
unfoldable pub spelled_from : Posting → List Posting → List ℕ
spelled_from before [] = []
spelled_from before (p ∷ list) = bytes_of (gaps_of before p) ++ spelled_from p list

-- the list isn't empty and lies in the block, and these are its bytes
pub record BlockSpells (block : ℕ) (list : List Posting) (bytes : List ℕ) : Type 0 where
  pub some : list ≢ []
  pub lies : LiesIn block list
  pub spelled : bytes ≡ spelled_from (start_of block) list
