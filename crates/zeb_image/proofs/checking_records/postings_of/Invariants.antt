use Rattle.zeb_image.proofs.Cited.{map, take, AreRecordsPostings, CanKeepAll, bare}
use Rattle.zeb_image.proofs.checking_records.postings_of.Given as goal

abbrev pub invariant-loop-kept : goal.invariant-loop-kept
invariant-loop-kept l = record {
  sound : CanKeepAll l.profile l.last (take l.kept-index l.records);
  postings : AreRecordsPostings l.profile (take l.kept-index l.records) (map bare l.postings.items);
}
