-- The postings of the entry's block are of as many records as it says, or of others.
use Rattle.zeb_leaves.proofs.Cited.{◌∙◌, sym, subst, HasRecordOf, IsCount, one_count, records_counted}
use Rattle.zeb_blocks.specs.Records.{record_count}
use Rattle.zeb_leaves.proofs.said_postings.push_said.Goals as goal

pub returns-in-Ok : goal.returns-in-Ok
returns-in-Ok c =
    let it = rw c.in-Ok.is at c.in_ok-records.ensures.spelled in
    let counted = (rw c.in-Ok.is at c.in_ok-records.ensures.counted) it.0 it.1 in
    (it.0, (it.1, subst (IsCount (HasRecordOf it.0)) (sym counted ∙ c.if-records-held.true) (records_counted it.0 it.1.lies.rising)), it.2)

pub returns-in-Ok-2 : goal.returns-in-Ok-2
returns-in-Ok-2 c =
    let counted = rw c.in-Ok.is at c.in_ok-records.ensures.counted in
    λ told part says. c.if-records-held.false (counted part says.0 ∙ one_count (HasRecordOf part) (record_count part) c.args.held.now.records (records_counted part says.0.lies.rising) says.1)
