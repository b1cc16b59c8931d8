-- The lemmas on first leaves, one for each clause.
use Rattle.zeb_leaves.proofs.Cited.{IsLeafOf}
use Rattle.zeb_leaves.proofs.ReplacedLeaves.{first_alone, first_malformed, first_reads}
use Rattle.zeb_leaves.proofs.replacing.leaves_begin_a_register.Goals as goal

pub returns-clause-reads : goal.returns-clause-reads
returns-clause-reads c new db key entries it block = first_reads (IsLeafOf new db key) entries it.begins key.term block it.after

pub returns-clause-malformed : goal.returns-clause-malformed
returns-clause-malformed c new db key entries it block = first_malformed (IsLeafOf new db key) entries it.begins key.term block

pub returns-clause-alone : goal.returns-clause-alone
returns-clause-alone c new db key entries it = first_alone (IsLeafOf new db key) entries it.begins
