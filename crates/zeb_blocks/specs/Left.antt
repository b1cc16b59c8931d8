-- What is left of a block that is read, and what was written of one: the list that its bytes spell, taken from them.
use Rattle.std.specs.Prelude.{◌≡◌, ℕ, zero, suc, ◌+◌, ◌*◌, ◌%◌, ◌==◌, nat_lt, if◌then◌else◌, List, [], ◌∷◌}
use Rattle.zeb_blocks.specs.declared.postings.Posting.{Posting}
use Rattle.zeb_blocks.specs.declared.gaps.Gaps.{Gaps}
use Rattle.std.specs.declared.cmp.Ordering.TheVariants.{Less}
use Rattle.zeb_blocks.specs.Order.{posting_cmp}
use Rattle.zeb_blocks.specs.Blocks.{IsNumbered, spelled_from}

-- the number at the front of the bytes
unfoldable pub number_at : List ℕ → ℕ
number_at [] = 0
number_at (byte ∷ bytes) = if nat_lt byte 128 then byte else byte % 128 + 128 * number_at bytes

-- the bytes behind it
unfoldable pub behind : List ℕ → List ℕ
behind [] = []
behind (byte ∷ bytes) = if nat_lt byte 128 then bytes else behind bytes

-- the posting with these gaps from the one before it, in the same record and in any
abbrev pub posting_in_record : Posting → Gaps → Posting
posting_in_record before gaps =
    if gaps.seq == 0
    then record { sysno = before.sysno; seq = before.seq; pos = before.pos + gaps.pos }
    else record { sysno = before.sysno; seq = before.seq + gaps.seq; pos = gaps.pos }

abbrev pub posting_after : Posting → Gaps → Posting
posting_after before gaps =
    if gaps.sysno == 0
    then posting_in_record before gaps
    else record { sysno = before.sysno + gaps.sysno; seq = gaps.seq; pos = gaps.pos }

abbrev pub gaps_at : List ℕ → Gaps
gaps_at bytes = record { sysno = number_at bytes; seq = number_at (behind bytes); pos = number_at (behind (behind bytes)) }

-- so many postings, read one after the other from the front of the bytes, the first by its gaps from this one
unfoldable pub postings_at : ℕ → Posting → List ℕ → List Posting
postings_at zero before bytes = []
postings_at (suc more) before bytes =
    posting_after before (gaps_at bytes) ∷ postings_at more (posting_after before (gaps_at bytes)) (behind (behind (behind bytes)))

-- a numbered posting above another
pub record Follows (before p : Posting) : Type 0 where
  pub above : posting_cmp before p ≡ Less
  pub numbered : IsNumbered p

-- each posting is above the one before it, and its numbers are at least 1 and fit 64 bits
abbrev pub EachFollows : Posting → List Posting → Type 0
EachFollows before [] = Unit {0}
EachFollows before (p ∷ list) = Follows before p × EachFollows p list

-- the last posting of a list behind another, or that one
abbrev pub last_from : Posting → List Posting → Posting
last_from before [] = before
last_from before (p ∷ list) = last_from p list

-- the bytes are those of a rising list behind a posting
pub record SpellsFrom (before : Posting) (list : List Posting) (bytes : List ℕ) : Type 0 where
  pub follow : EachFollows before list
  pub spelled : bytes ≡ spelled_from before list

-- the number of a block that is being written, and its list so far
pub record Written : Type 0 where
  pub block : ℕ
  pub list : List Posting
