-- The lemmas on a leaf that is replaced, one for each clause.
use Rattle.zeb_leaves.proofs.Cited.{IsLeafOf}
use Rattle.zeb_leaves.proofs.ReplacedLeaves.{alone_stays, malformed_stays, own_malformed, own_reads, part_stays}
use Rattle.zeb_leaves.proofs.replacing.leaves_take_the_place_of_one.Goals as goal

pub returns-clause-reads : goal.returns-clause-reads
returns-clause-reads c old new db key was entries it block covers = own_reads (IsLeafOf old db key) (IsLeafOf new db key) was entries it.replaces it.after key.term block covers

pub returns-clause-malformed : goal.returns-clause-malformed
returns-clause-malformed c old new db key was entries it block covers = own_malformed (IsLeafOf old db key) (IsLeafOf new db key) was entries it.replaces it.after key.term block covers

pub returns-clause-stays : goal.returns-clause-stays
returns-clause-stays c old new db key was entries it block beside = part_stays (IsLeafOf old db key) (IsLeafOf new db key) was entries it.replaces it.before key.term block beside

pub returns-clause-still_malformed : goal.returns-clause-still_malformed
returns-clause-still_malformed c old new db key was entries it block beside = malformed_stays (IsLeafOf old db key) (IsLeafOf new db key) was entries it.replaces it.before key.term block beside

pub returns-clause-alone : goal.returns-clause-alone
returns-clause-alone c old new db key was entries it = alone_stays (IsLeafOf old db key) (IsLeafOf new db key) was entries it.replaces it.before
