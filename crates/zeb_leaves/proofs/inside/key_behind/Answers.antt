use Rattle.zeb_leaves.proofs.Cited.{rules, ◌∙◌, ℕ, List, ap, state, subst, IsUpTo, leaf_key, own_key, option_map}
use Rattle.zeb_leaves.proofs.NextLeaves.{behind_from}
use Rattle.zeb_register.proofs.LooksInside.{found_inside, inside_then}
use Rattle.zeb_leaves.proofs.inside.key_behind.Goals as goal

pub returns-then-is_above : goal.returns-then-is_above
returns-then-is_above g c =
    let s = state g.S.Store c.args.tx.now.conn.now in
    record {
      same = search rules;
      looks = found_inside _ _ _ _ _ _ _ _ c.in_ok-next.ensures.looks (λ store told. (
        told.0,
        told.1,
        behind_from s store c.args.at.db.0 c.args.at.index c.args.at.register c.args.term.now c.args.block told.0 told.2
            (λ leaf is. subst (λ (t : List ℕ). ¬ IsUpTo (leaf_key t c.args.block) leaf) c.as_bytes.ensures.value (c.is_above.ensures c.if-is_above.true (own_key leaf) (told.1 ∙ ap (option_map own_key) is))),
      ));
    }

pub returns : goal.returns
returns g c = record {
  same = search rules;
  looks = inside_then _ _ _ _ _ _ _ _ _ _ c.behind_by_term.result c.in_ok-next.ensures.looks c.behind_by_term.ensures.looks (λ store next fault refused. tt) (λ store next key behind. behind);
}
