use Rattle.zeb_leaves.proofs.Cited.{rules, state}
use Rattle.zeb_leaf_rows.proofs.CoveringCalls.{gone_at, still_uncovered}
use Rattle.zeb_register.proofs.LooksInside.{found_inside, inside_then}
use Rattle.zeb_leaves.proofs.inside.leaf_inside.Goals as goal

pub returns-in-Some : goal.returns-in-Some
returns-in-Some g c = record { same = search rules; looks = found_inside _ _ _ _ _ _ _ _ c.in_ok-leaf.ensures.looks (λ store covers. rw c.in-Some.is at covers) }

pub returns-in-None : goal.returns-in-None
returns-in-None g c =
    let trees = (state g.S.Store c.args.tx.now.conn.now).now.trees in
    record {
      same = search rules;
      looks = inside_then _ _ _ _ _ _ _ _ _ _ c.no_leaf.result c.in_ok-leaf.ensures.looks c.no_leaf.ensures.looks
          (λ store covers fault damage told. still_uncovered trees c.args.at c.args.term.now c.args.block (rw c.in-None.is at covers) (damage told))
          (λ store covers found gone. gone_at trees c.args.at c.args.term.now c.args.block (rw c.in-None.is at covers) found gone.0 gone.1);
    }
