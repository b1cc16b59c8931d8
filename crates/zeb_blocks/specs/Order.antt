-- The order of postings.
use Rattle.std.specs.declared.cmp.Ordering.{Ordering}
use Rattle.std.specs.Ordering.{nat_cmp, ordering_then}
use Rattle.zeb_blocks.specs.declared.postings.Posting.{Posting}

-- by system number, then unit, then place in the unit
abbrev pub posting_cmp : Posting → Posting → Ordering
posting_cmp p q = ordering_then (nat_cmp p.sysno q.sysno) (ordering_then (nat_cmp p.seq q.seq) (nat_cmp p.pos q.pos))
