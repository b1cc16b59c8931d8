use Rattle.zeb_search.proofs.Cited.{length, ◌≤◌, posting_cmp, IsStrictlySortedBy}
use Rattle.zeb_search.proofs.FollowingPostings.{AreFollowed}
use Rattle.zeb_search.proofs.lists.with_one_within.Given as goal

abbrev pub invariant-loop-posting : goal.invariant-loop-posting
invariant-loop-posting l = record {
  within : l.at ≤ length l.others;
  followed : IsStrictlySortedBy posting_cmp l.postings → IsStrictlySortedBy posting_cmp l.others
      → AreFollowed l.words l.postings l.others l.posting-index l.at l.list.items;
}
