-- What follows the last place follows the last entry.
use Rattle.zeb_leaf.proofs.Order.{follows_rising}
use Rattle.zeb_leaf.proofs.laws.rising_entries_follow.Goals as goal

pub returns : goal.returns
returns c = follows_rising
