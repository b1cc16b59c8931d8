-- What only the contracts of private functions speak of; no public clause reaches it.
-- Postings whose numbers fit 64 bits.
use Rattle.std.specs.Prelude.{◌^◌, ◌<◌}
use Rattle.zeb_blocks.specs.declared.postings.Posting.{Posting}

-- its numbers fit 64 bits
abbrev pub Fits : Posting → Type 0
Fits p = (p.sysno < 2 ^ 64) × (p.seq < 2 ^ 64) × (p.pos < 2 ^ 64)
