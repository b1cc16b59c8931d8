use Rattle.zeb_register.proofs.Cited.{state, ◌≡◌, false, true, dict_tree, postings_tree}
use Rattle.zeb_register.proofs.AsksInTurn.{asks_handed, asks_so, asks_then}
use Rattle.zeb_register.proofs.AgreeingRows.{empty_belongs, no_dict, no_postings}
use Rattle.zeb_register.proofs.agreeing.postings_and_dict_lack_rows.Goals as goal

pub returns-in_err-belongs : goal.returns-in_err-belongs
returns-in_err-belongs g c = asks_handed _ _ _ c.from_residual.result _ _ c.in_err-belongs.ensures c.from_residual.ensures.1

pub returns-then-not-branch : goal.returns-then-not-branch
returns-then-not-branch g c =
    asks_so _ _ _ _ _ _ c.in_ok-belongs.ensures (λ store one. (
      λ h. absurd (let e : false ≡ true = h in cc),
      λ lacks.
          let yes' : c.in_ok-belongs.field-0 ≡ true = one.1 (empty_belongs postings_tree (state g.S.Store c.args.conn.now).now.trees lacks.0) in
          let no' : c.in_ok-belongs.field-0 ≡ false = c.if-not-branch.true in
          absurd cc,
    ))

pub returns : goal.returns
returns g c =
    let s = state g.S.Store c.args.conn.now in
    asks_then _ _ _ _ c.belongs-2.result _ _ _ c.in_ok-belongs.ensures c.belongs-2.ensures (λ store one answer two. (
      λ yes'. (no_postings s store (one.0 c.if-not-branch.false), no_dict s store (two.0 yes')),
      λ lacks. two.1 (empty_belongs dict_tree s.now.trees lacks.1),
    ))
