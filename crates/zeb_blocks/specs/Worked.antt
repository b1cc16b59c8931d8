-- Worked blocks: what their lists and their bytes are made of.
use Rattle.std.specs.Prelude.{ℕ, List, [], ◌∷◌, ◌++◌, replicate}
use Rattle.zeb_blocks.specs.declared.postings.Posting.{Posting}

-- the posting with these numbers
abbrev pub at : ℕ → ℕ → ℕ → Posting
at sysno seq pos = record { sysno = sysno; seq = seq; pos = pos }

-- nine bytes of one value, and then another: the longest numbers are of this form
abbrev pub ten_bytes : ℕ → ℕ → List ℕ
ten_bytes byte last = replicate 9 byte ++ last ∷ []
