use Rattle.zeb_packed.proofs.Cited.{rules, subst, sym, state, IsTold, IsOfNumbered, blocks_tree, false, to_z-of_z, w64, refused_so}
use Rattle.zeb_packed.proofs.OpenLooks.{look_behind, look_failed, rule_looks}
use Rattle.zeb_packed.proofs.packed_changes.block_put.Goals as goal

pub returns-in_err-block_absent-in-Err : goal.returns-in_err-block_absent-in-Err
returns-in_err-block_absent-in-Err g c =
    let broken = c.breaks_rule.ensures.broken c.if-not-breaks_rule.false in
    let look = look_behind (rule_looks c.in-Err.ensures.call (λ clean inside. c.in-Err.ensures.violated clean inside broken.0 broken.1)) c.in_err-block_absent-in-Err.ensures in
    record {
      call = look_failed _ look c.from_residual.ensures.1;
      told = λ clean inside store. refused_so _ _ c.from_residual.result c.in_err-block_absent-in-Err.field-0.0 (search rules) (λ is told. look.looks.finds clean inside store is
          (subst (λ n. IsTold false (IsOfNumbered c.args.at n) blocks_tree (state g.S.Store c.args.tx.now.conn.now).now.trees) (sym (to_z-of_z {w = w64} {z = c.args.number} c.ranges.number)) told));
    }
