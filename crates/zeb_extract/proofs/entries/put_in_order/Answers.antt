use Rattle.zeb_extract.proofs.Cited.{rising_from_dedup, members_from_dedup}
use Rattle.zeb_extract.proofs.entries.put_in_order.Goals as goal

pub returns-clause-rising : goal.returns-clause-rising
returns-clause-rising g c =
    rising_from_dedup g.met.T.Ord.total g.met.T.Ord.matches_eq _ _ c.in_ok-sort.ensures.sorted c.dedup.ensures.filtered

pub returns-clause-members : goal.returns-clause-members
returns-clause-members g c =
    members_from_dedup g.met.T.Ord.total g.met.T.Ord.matches_eq c.requires _ _ _ c.in_ok-sort.ensures.permutation c.dedup.ensures.filtered
