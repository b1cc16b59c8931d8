use Rattle.zeb_search.proofs.DictCounts.{named_plan}
use Rattle.zeb_search.proofs.plans.named_entries_read_no_terms.Goals as goal

pub returns : goal.returns
returns c row_work content db plan n rows named = named_plan row_work content db plan n rows named
