-- What is moved, and what the change puts, are the entries up to the changed block.
use Rattle.zeb_leaf.proofs.Cited.{ℕ, List, subst, IsRestBehind, MovesBelow}
use Rattle.std.proofs.lemmas.Result.{on_ok_weaker}
use Rattle.zeb_leaf.proofs.MovedLists.{one_merges}
use Rattle.zeb_leaf.proofs.merging.push_up_to.Goals as goal

pub returns : goal.returns
returns c =
    let change = c.args.change in
    let left = c.args.left.now.items in
    let mid = c.move_below.new.left.items in
    let rest = c.drop_own.new.left.items in
    let old = c.args.merged.now.items in
    let was = c.move_below.new.merged.items in
    let moves = subst (λ (t : List ℕ). MovesBelow t change.block left mid old was) c.as_slice.ensures c.in_ok-move_below.ensures in
    let behind = subst (λ (t : List ℕ). IsRestBehind t change.block mid rest) c.as_slice.ensures c.drop_own.ensures in
    on_ok_weaker c.push_new.result (one_merges change left mid rest old was c.push_new.new.merged.items moves behind) c.push_new.ensures
