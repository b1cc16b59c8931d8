use Rattle.zeb_register.proofs.Cited.{arith}
use Rattle.zeb_register.proofs.CallsInTurn.{made_store}
use Rattle.zeb_register.proofs.tables.make_tables.Goals as goal

pub returns-clause-made : goal.returns-clause-made
returns-clause-made g c clean inside has =
    let lists = c.in_ok-tables_make.ensures.made (omega (arith, clean, c.tables_make-2.ensures.call.does.crash.clean)) inside (has, tt) in
    made_store _ (c.in_ok-tables_make-2.ensures.made clean lists.inside (lists.is, lists.empty))
