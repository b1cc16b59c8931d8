use Rattle.zeb_leaves.proofs.Cited.{rules, ◌∙◌, ℕ, List, state, subst, IsGreatest, IsUpTo, leaf_key, IsOfTermsBelow}
use Rattle.zeb_leaves.proofs.NextLeaves.{covers_up_to}
use Rattle.zeb_register.proofs.LooksInside.{found_inside, inside_then}
use Rattle.zeb_leaves.proofs.inside.covering_leaf.Goals as goal

pub returns-then-is_up_to : goal.returns-then-is_up_to
returns-then-is_up_to g c =
    let s = state g.S.Store c.args.tx.now.conn.now in
    record {
      same = search rules;
      looks = found_inside _ _ _ _ _ _ _ _ c.in_ok-last.ensures.looks (λ store found.
          covers_up_to s store c.args.at.db.0 c.args.at.index c.args.at.register c.args.term.now c.args.block c.in_ok-last.last
          (subst (λ (end : List ℕ). IsGreatest (IsOfTermsBelow c.args.at end s.now.trees) c.in_ok-last.last) (c.as_str.ensures.value ∙ c.in_ok-end.ensures) found)
          (λ leaf is. subst (λ (t : List ℕ). IsUpTo (leaf_key t c.args.block) leaf) c.as_bytes.ensures.value (c.is_up_to.ensures c.if-is_up_to.true leaf is)));
    }

pub returns : goal.returns
returns g c = record {
  same = search rules;
  looks = inside_then _ _ _ _ _ _ _ _ _ _ c.covering_by_term.result c.in_ok-last.ensures.looks c.covering_by_term.ensures.looks (λ store last fault refused. tt) (λ store last found covers. covers);
}
