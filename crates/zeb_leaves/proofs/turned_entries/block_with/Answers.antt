-- The postings rise, and so what is counted is their records.
use Rattle.zeb_leaves.proofs.Cited.{rules, sym, subst, HasRecordOf, IsCount, records_counted}
use Rattle.zeb_leaves.proofs.turned_entries.block_with.Goals as goal

pub returns : goal.returns
returns c = (search rules, subst (IsCount (HasRecordOf c.args.list.now)) (sym c.records_in.ensures) (records_counted c.args.list.now c.requires.rising), search rules)
