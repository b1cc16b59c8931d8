use Rattle.zeb_register.proofs.Cited.{rules, Empties, tree_at}
use Rattle.zeb_register.proofs.Calls.{written}
use Rattle.zeb_register.proofs.WholeStatements.{wiped}
use Rattle.zeb_register.proofs.statements.whole.table_wipe.Goals as goal

pub returns : goal.returns
returns g c = record { call = record { same = search rules; does = written (tree_at c.args.table) Empties _ _ c.write.result (λ count store ran. wiped c.args.table _ _ count store ran) (simp (c.wipe_text.ensures) at c.write.ensures.ran) } }
