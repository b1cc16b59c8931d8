use Rattle.zeb_laws.proofs.Accepted.{change_accepted}
use Rattle.zeb_laws.proofs.FoldCounts.{all_taken, all_counted}
use Rattle.zeb_laws.proofs.FoldRecords.{all_kept}
use Rattle.zeb_laws.proofs.definition_laws.counts_add_up.Goals as goal

pub returns-clause-accepted : goal.returns-clause-accepted
returns-clause-accepted c = change_accepted

pub returns-clause-taken : goal.returns-clause-taken
returns-clause-taken c = all_taken

pub returns-clause-told : goal.returns-clause-told
returns-clause-told g c kind files base p is = (all_counted c kind files base p is).told

pub returns-clause-each : goal.returns-clause-each
returns-clause-each g c kind files base p is = (all_counted c kind files base p is).each

pub returns-clause-kept : goal.returns-clause-kept
returns-clause-kept c = all_kept

pub returns-clause-last : goal.returns-clause-last
returns-clause-last g c kind files base p is = (all_counted c kind files base p is).last
