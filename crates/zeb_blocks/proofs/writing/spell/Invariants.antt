-- The postings so far were written.
use Rattle.zeb_blocks.proofs.Cited.{◌≡◌, take}
use Rattle.zeb_blocks.proofs.writing.spell.Given as goal

abbrev pub invariant-loop-posting : goal.invariant-loop-posting
invariant-loop-posting l = l.writer ≡ record { block = l.block; list = take l.posting-index l.list }
