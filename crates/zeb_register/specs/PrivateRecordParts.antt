-- What only the contracts of private functions speak of; no public clause reaches it: one record's part of a list of postings.
use Rattle.std.specs.Prelude.{◌≡◌, ◌==◌, ◌<◌, ℕ, nat_lt, List, [], ◌∷◌, ◌++◌, filter, map}
use Rattle.zeb_blocks.specs.declared.postings.Posting.{Posting}
use Rattle.zeb_register.specs.Content.{posting_at}
use Rattle.zeb_register.specs.declared.record_parts.Parted.{Parted}
use Rattle.zeb_register.specs.declared.registers.RecordChange.{RecordChange}

-- the postings of a list, parted at a record
pub record IsParted (sysno : ℕ) (list : List Posting) (parted : Parted) : Type 0 where
  pub before : parted.before.items ≡ filter (λ p. nat_lt p.sysno sysno) list
  pub own : map (posting_at sysno) parted.own.items ≡ filter (λ p. p.sysno == sysno) list
  pub behind : parted.behind.items ≡ filter (λ p. nat_lt sysno p.sysno) list

-- ---- a change behind all postings

-- the list ends with a posting of a record below this one
abbrev pub EndsBelow : ℕ → List Posting → Type 0
EndsBelow sysno list = (front : List Posting) × (last : Posting) × (list ≡ front ++ last ∷ []) × (last.sysno < sysno)

-- and the change puts places of a record that had none
abbrev pub ComesLast : RecordChange → List Posting → Type 0
ComesLast change list = (change.old.now ≡ []) × EndsBelow change.sysno list
