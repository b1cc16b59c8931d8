-- The records of the postings so far, and the number of the last of them.
use Rattle.zeb_blocks.proofs.Cited.{take}
use Rattle.zeb_blocks.proofs.CountedRecords.{AreCounted}
use Rattle.zeb_blocks.proofs.records.records_in.Given as goal

abbrev pub invariant-loop-posting : goal.invariant-loop-posting
invariant-loop-posting l = AreCounted (take l.posting-index l.list) l.records l.newest
