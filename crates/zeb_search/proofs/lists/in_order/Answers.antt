use Rattle.zeb_search.proofs.OrderedLists.{numbers_in_order}
use Rattle.zeb_search.proofs.lists.in_order.Goals as goal

pub returns : goal.returns
returns c = numbers_in_order c.args.numbers.items c.sort_unstable.new.self.items c.dedup.new.self.items c.sort_unstable.ensures.permutation c.sort_unstable.ensures.sorted c.dedup.ensures.filtered
