use Rattle.zeb_search.proofs.Cited.{rules, ◌≡◌, map, Posting}
use Rattle.zeb_search.proofs.OrderedLists.{numbers_from_dedup}
use Rattle.zeb_search.proofs.lists.numbers_of.Goals as goal

pub returns : goal.returns
returns c =
    let mapped : c.in_ok-numbers.numbers.items ≡ map (λ (p : Posting). p.sysno) c.args.postings.now = search rules in
    numbers_from_dedup c.args.postings.now c.in_ok-numbers.numbers.items c.dedup.new.self.items mapped c.dedup.ensures.filtered
