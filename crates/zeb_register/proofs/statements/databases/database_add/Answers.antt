use Rattle.zeb_register.proofs.Cited.{rules, state, AddsDatabase, databases_tree, refl}
use Rattle.zeb_register.proofs.Calls.{inside_so, written}
use Rattle.zeb_register.proofs.DatabaseStatements.{adds}
use Rattle.zeb_register.proofs.BoundColumns.{none_bound, number_bound, ran_so, value_bound}
use Rattle.zeb_register.proofs.statements.databases.database_add.Goals as goal

pub returns : goal.returns
returns g c = record { call = record { same = search rules; does = let last = (state g.S.Store c.write.new.tx.conn.now).last_rowid in inside_so _ _ c.write.result _ _ (λ _ done. done) (written databases_tree (AddsDatabase last c.args.name.now c.args.last) _ _ c.write.result (λ count store ran. adds c.args.name.now c.args.last _ _ count store ran) (ran_so c.write.ensures.ran (value_bound c.params-to_sql.ensures refl (number_bound c.ranges.last refl c.params-to_sql-2.ensures none_bound)))) } }
