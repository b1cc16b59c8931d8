-- Each posting is counted behind those before it.
use Rattle.zeb_blocks.proofs.Cited.{◌∙◌, ap, take, arith}
use Rattle.std.proofs.lemmas.List.{length-take-le, take_all}
use Rattle.zeb_blocks.specs.Records.{record_count}
use Rattle.zeb_blocks.proofs.CountedRecords.{counted_more, counted_none, few_records}
use Rattle.zeb_blocks.proofs.records.records_in.Goals as goal

pub loop-posting-init : goal.loop-posting-init
loop-posting-init c = counted_none

pub records_after-records-requires : goal.records_after-records-requires
records_after-records-requires c =
    let i = c.loop-posting.posting-index in
    omega (arith, c.loop-posting.invariant.of, few_records (take i c.args.list.now), length-take-le i c.args.list.now c.loop-posting.auto.posting-index-end)

pub loop-posting-preserved : goal.loop-posting-preserved
loop-posting-preserved c =
    rw c.records_after-records.ensures (counted_more c.args.list.now c.loop-posting.posting-index c.loop-posting.records c.loop-posting.newest c.loop-posting-test.true c.loop-posting.invariant)

pub returns : goal.returns
returns c = c.loop-posting.invariant.of ∙ ap record_count (take_all _ c.args.list.now c.loop-posting-test.false)
