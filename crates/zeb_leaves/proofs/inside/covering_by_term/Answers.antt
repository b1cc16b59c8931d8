use Rattle.zeb_leaves.proofs.Cited.{rules, IsUpTo, own_key, state, up_to_next, covers_below, covers_own, IsOfTermBelow}
use Rattle.zeb_register.proofs.LooksInside.{found_inside, inside_then}
use Rattle.zeb_leaves.proofs.inside.covering_by_term.Goals as goal

pub returns-in-Some : goal.returns-in-Some
returns-in-Some g c =
    let s = state g.S.Store c.args.tx.now.conn.now in
    record {
      same = search rules;
      looks = found_inside _ _ _ _ _ _ _ _ c.in_ok-leaf.ensures.looks (λ store found.
          covers_own s store c.args.at.db.0 c.args.at.index c.args.at.register c.args.term.now c.args.block c.in-Some.leaf
          (rw c.in-Some.is at (up_to_next (λ z. IsOfTermBelow c.args.at c.args.term.now z s.now.trees) (λ row other. IsUpTo (own_key row) other) c.args.block _ c.requires found)));
    }

pub returns-in-None : goal.returns-in-None
returns-in-None g c =
    let s = state g.S.Store c.args.tx.now.conn.now in
    record {
      same = search rules;
      looks = inside_then _ _ _ _ _ _ _ _ _ _ c.leaf_of_terms_below_inside.result c.in_ok-leaf.ensures.looks c.leaf_of_terms_below_inside.ensures.looks (λ store found fault refused. tt) (λ store found leaf below.
          covers_below s store c.args.at.db.0 c.args.at.index c.args.at.register c.args.term.now c.args.block
          (rw c.in-None.is at (up_to_next (λ z. IsOfTermBelow c.args.at c.args.term.now z s.now.trees) (λ row other. IsUpTo (own_key row) other) c.args.block _ c.requires found)) leaf below);
    }
