use Rattle.zeb_packed.proofs.Cited.{◌∙◌, rules, ap, refused_so, bound, AreValuesOf, new_block_row}
use Rattle.zeb_packed.proofs.OpenLooks.{look_behind, look_failed, rule_looks}
use Rattle.zeb_packed.proofs.held_rows.many_put.Goals as goal

pub returns-in-Ok-clause-put : goal.returns-in-Ok-clause-put
returns-in-Ok-clause-put g c clean inside store =
    let are : AreValuesOf (new_block_row c.args.db.0) c.args.blocks.now (bound c.deref.result.now) = (c.requires, ap bound c.deref.ensures.value ∙ c.in_ok-values.ensures.values) in
    (c.in-Ok.ensures.put c.args.db.0 c.args.blocks.now are clean inside store, c.in-Ok.ensures.lacking c.args.db.0 c.args.blocks.now are clean inside store)

pub returns-in_err-all_absent-in-Err : goal.returns-in_err-all_absent-in-Err
returns-in_err-all_absent-in-Err g c =
    let broken = c.breaks_rule.ensures.broken c.if-not-breaks_rule.false in
    let look = look_behind (rule_looks c.in-Err.ensures.call (λ clean inside. c.in-Err.ensures.violated clean inside broken.0 broken.1)) c.in_err-all_absent-in-Err.ensures in
    record {
      call = look_failed _ look c.from_residual-in_err-all_absent-in-Err.ensures.1;
      put = λ clean inside store. refused_so _ _ c.from_residual-in_err-all_absent-in-Err.result c.in_err-all_absent-in-Err.field-0.0 (search rules) (look.looks.finds clean inside store);
    }
