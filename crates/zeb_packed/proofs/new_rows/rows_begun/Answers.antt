use Rattle.zeb_packed.proofs.Cited.{◌∙◌, ◌++◌, [], ◌∷◌, List, ap, refl, rules, subst, sym, CountsAs, NewCount}
use Rattle.zeb_packed.proofs.BegunKeys.{key_begun}
use Rattle.zeb_packed.proofs.KeyPuts.{blocks_allowed}
use Rattle.zeb_packed.proofs.new_rows.rows_begun.Goals as goal

pub returns-in_err-blocks-clause-damaged : goal.returns-in_err-blocks-clause-damaged
returns-in_err-blocks-clause-damaged c told db trees counts were are allows =
    let key = c.args.key.now in
    c.in_err-blocks.ensures.damaged (search rules) db trees
    (blocks_allowed db key c.args.changes.now c.args.known trees were are c.requires.changes.clear (subst (CountsAs trees db key) (sym c.requires.changes.none) counts) c.requires.changes.stored allows)

pub returns-clause-begun : goal.returns-clause-begun
returns-clause-begun c =
    let it = c.requires.changes in
    let count : NewCount = record { key = c.args.key; records = c.in_ok-blocks.records } in
    key_begun c.args.key.now c.args.changes.now c.args.known c.in_ok-blocks.blocks.items c.in_ok-blocks.records c.requires.text it.stored it.rising it.leaves c.requires.some it.none (it.clear.none it.none)
    c.in_ok-blocks.ensures.begun count refl refl _ refl (c.in_ok-push.ensures.items ∙ ap (λ (l : List NewCount). l ++ count ∷ []) c.new-counts.ensures.items)
