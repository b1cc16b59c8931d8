use Rattle.zeb_leaves.proofs.Cited.{rules, ◌∙◌, ℕ, List, IsLeast, TellsKey, state, subst, IsRowFrom}
use Rattle.zeb_register.specs.Answers.{LooksInside}
use Rattle.zeb_leaves.proofs.inside.key_of_terms_above.Goals as goal

pub returns : goal.returns
returns g c =
    let a = state g.S.Store c.args.tx.now.conn.now in
    let b = state g.S.Store c.key_of_terms_from.new.tx.conn.now in
    record {
      same = search rules;
      looks = subst (λ (first : List ℕ). LooksInside (λ _ _. Unit {0}) (λ trees. TellsKey (IsLeast (IsRowFrom c.args.at first trees))) a b c.key_of_terms_from.result) (c.as_str.ensures.value ∙ c.in_ok-first.ensures) c.key_of_terms_from.ensures.looks;
    }
