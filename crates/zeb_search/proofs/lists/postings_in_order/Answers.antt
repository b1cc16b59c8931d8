use Rattle.zeb_search.proofs.Cited.{rules, answers_always, Posting}
use Rattle.zeb_search.proofs.OrderedLists.{postings_sorted, tuples_sorted}
use Rattle.zeb_search.proofs.lists.postings_in_order.Goals as goal

pub returns : goal.returns
returns c =
    let sorted = c.sort_unstable_by_key.ensures.sorted (λ (p : Posting). (p.sysno, p.seq, p.pos)) (answers_always _ _ _ (λ f a r f' called. search rules)) in
    postings_sorted c.args.postings.items c.sort_unstable_by_key.new.self.items c.dedup.new.self.items c.sort_unstable_by_key.ensures.permutation (tuples_sorted _ sorted) c.dedup.ensures.filtered
