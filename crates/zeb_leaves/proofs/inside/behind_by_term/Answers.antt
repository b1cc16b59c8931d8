use Rattle.zeb_leaves.proofs.Cited.{rules, None, Some, IsLeafIn, IsLeast, IsNextBehind, IsUpTo, leaf_key, own_key, state, next_number, up_to_next, IsOfTermFrom}
use Rattle.zeb_leaves.proofs.KeysTold.{leaf_told, none_told, told_so}
use Rattle.zeb_leaves.proofs.LeavesBehind.{behind_above, behind_own}
use Rattle.zeb_register.proofs.LooksInside.{found_inside, inside_then}
use Rattle.zeb_leaves.proofs.inside.behind_by_term.Goals as goal

pub returns-in-Some : goal.returns-in-Some
returns-in-Some g c =
    let s = state g.S.Store c.args.tx.now.conn.now in
    record {
      same = search rules;
      looks = found_inside _ _ _ _ _ _ _ _ c.in_ok-own.ensures.looks (λ store told.
          let one = leaf_told (IsLeast (IsOfTermFrom c.args.at c.args.term.now (next_number c.args.block) s.now.trees)) _ c.in-Some.own c.in-Some.is told in (
            Some one.0,
            one.1,
            behind_own s store c.args.at.db.0 c.args.at.index c.args.at.register c.args.term.now c.args.block one.0
                (up_to_next (λ z. IsOfTermFrom c.args.at c.args.term.now z s.now.trees) (λ row other. IsUpTo (own_key other) row) c.args.block (Some one.0) c.requires one.2),
          ));
    }

pub returns-in-None : goal.returns-in-None
returns-in-None g c =
    let s = state g.S.Store c.args.tx.now.conn.now in
    record {
      same = search rules;
      looks = inside_then _ _ _ _ _ _ _ _ _ _ c.key_of_terms_above.result c.in_ok-own.ensures.looks c.key_of_terms_above.ensures.looks (λ store told fault refused. tt) (λ store told key above.
          let none = up_to_next (λ z. IsOfTermFrom c.args.at c.args.term.now z s.now.trees) (λ row other. IsUpTo (own_key other) row) c.args.block None c.requires
          (none_told (IsLeast (IsOfTermFrom c.args.at c.args.term.now (next_number c.args.block) s.now.trees)) _ c.in-None.is told) in
          told_so _ (IsNextBehind (IsLeafIn s.now.trees c.args.at) (leaf_key c.args.term.now c.args.block)) key
          (behind_above s store c.args.at.db.0 c.args.at.index c.args.at.register c.args.term.now c.args.block none) above);
    }
