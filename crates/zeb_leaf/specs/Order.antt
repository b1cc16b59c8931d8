-- Entries of a leaf, and their order. Leaves are this project's own.
use Rattle.std.specs.Prelude.{◌^◌, ◌<◌, ◌≤◌, IsUtf8, length}
use Rattle.std.specs.declared.cmp.Ordering.{Ordering}
use Rattle.std.specs.Ordering.{nat_cmp, ordering_then}
use Rattle.std.specs.Cmp.Lexicographic.{slice_cmp}
use Rattle.zeb_leaf.specs.declared.entries.Entry.{Entry}

-- the term is text; it and the block's bytes can be counted; the block's number is a system number div 256; 1 to 256 records are in it
pub record IsEntry (e : Entry) : Type 0 where
  pub text : IsUtf8 e.term
  pub term : length e.term < 2 ^ 64
  pub block : e.block < 2 ^ 56
  pub records : (1 ≤ e.records) × (e.records ≤ 256)
  pub bytes : length e.bytes < 2 ^ 64

-- by the bytes of the term, then by the block's number
abbrev pub entry_cmp : Entry → Entry → Ordering
entry_cmp p q = ordering_then (slice_cmp nat_cmp p.term q.term) (nat_cmp p.block q.block)
