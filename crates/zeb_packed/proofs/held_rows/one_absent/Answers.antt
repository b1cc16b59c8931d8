use Rattle.zeb_packed.proofs.Cited.{ℤ, pos, false, subst, Trees, register_code, IsNumberedRow, IsTold, blocks_tree, IfDamaged, column_is}
use Rattle.zeb_register.specs.Connections.{LooksInsideOf}
use Rattle.zeb_packed.proofs.held_rows.one_absent.Goals as goal

pub returns : goal.returns
returns g c =
    let key = c.args.one.now.key.now in
    let Lacks = λ (n : ℤ) (trees : Trees). IsTold false (IsNumberedRow c.args.db.0 (pos key.index) (pos (register_code key.register)) key.term n) blocks_tree trees in
    subst (λ n. LooksInsideOf g.S.Store c.args.tx.now.conn c.block_absent.new.tx.conn c.block_absent.result (λ trees. IfDamaged (¬ Lacks n trees)) (λ trees _. Lacks n trees)) (column_is c.in_ok-number.ensures.ok.1 c.in_ok-number.ensures.ok.0) c.block_absent.ensures
