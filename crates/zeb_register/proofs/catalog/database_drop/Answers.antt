use Rattle.zeb_register.proofs.Cited.{rules, TakesDatabase, databases_tree}
use Rattle.zeb_register.proofs.Calls.{written}
use Rattle.zeb_register.proofs.DatabaseStatements.{cuts}
use Rattle.zeb_register.proofs.BoundColumns.{none_bound, number_bound, ran_so}
use Rattle.zeb_register.proofs.catalog.database_drop.Goals as goal

pub returns : goal.returns
returns g c = record { call = record { same = search rules; does = written databases_tree (TakesDatabase c.args.db.0) _ _ c.write.result (λ count store ran. cuts c.args.db.0 _ _ count store ran) (ran_so c.write.ensures.ran (number_bound c.column-id.ensures.fits c.column-id.ensures.value c.params-to_sql.ensures none_bound)) } }
