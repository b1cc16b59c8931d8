use Rattle.zeb_image.proofs.Cited.{rules, map, sym, subst, is_lt, answers_always, ranks_by, IsPermutation-map, IsPermutation-trans, KeyPosting, key_posting_order, bare}
use Rattle.std.proofs.Common.{IsPermutation}
use Rattle.zeb_image.proofs.OrderedPostings.{order_total, put_members, put_rises}
use Rattle.zeb_image.proofs.checking_records.in_order.Goals as goal

pub returns-clause-rising : goal.returns-clause-rising
returns-clause-rising c =
    let given = map bare c.args.postings.items in
    let listed = subst (IsPermutation given) (sym c.in_ok-list.ensures) (IsPermutation-map bare c.args.postings.items c.sorted.result.items c.sorted.ensures) in
    let moved = IsPermutation-trans given c.in_ok-list.list.items c.sort_unstable_by.new.self.items listed c.sort_unstable_by.ensures.permutation in
    let sorted = c.sort_unstable_by.ensures.sorted (λ (a b : KeyPosting). is_lt (key_posting_order a b)) (ranks_by order_total (λ (it : KeyPosting). it)) (answers_always _ _ _ (λ f a r f' called. search rules)) in
    put_rises given c.sort_unstable_by.new.self.items c.dedup.new.self.items moved c.dedup.ensures.filtered sorted

pub returns-clause-members : goal.returns-clause-members
returns-clause-members c =
    let given = map bare c.args.postings.items in
    let listed = subst (IsPermutation given) (sym c.in_ok-list.ensures) (IsPermutation-map bare c.args.postings.items c.sorted.result.items c.sorted.ensures) in
    let moved = IsPermutation-trans given c.in_ok-list.list.items c.sort_unstable_by.new.self.items listed c.sort_unstable_by.ensures.permutation in
    put_members given c.sort_unstable_by.new.self.items c.dedup.new.self.items moved c.dedup.ensures.filtered
