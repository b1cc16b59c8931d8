use Rattle.zeb_leaves.proofs.Cited.{List, drop, subst, sym, Entry, Leaf, TakeEntries, leaf_of}
use Rattle.zeb_leaves.proofs.DatabaseRows.{one_leaf_shown}
use Rattle.zeb_leaves.proofs.agreeing_walk.leaf_behind.Goals as goal

pub returns-in_default-2 : goal.returns-in_default-2
returns-in_default-2 c rising leaf rest takes =
    let left = drop c.args.at c.args.postings.now in
    let own = leaf_of c.in-Some.leaf in
    let shown = rw c.in-Some.is at c.in_ok-leaf.ensures in
    let same = one_leaf_shown c.args.row.now leaf own takes.shows shown.0 in
    let none = rw c.in_default-2.is at c.in_ok-end.ensures in
    none rest (subst (λ (l : List Entry). TakeEntries own.key l left rest) (sym c.deref.ensures.value) (subst (λ (l : Leaf). TakeEntries l.key l.entries left rest) same takes.takes))
