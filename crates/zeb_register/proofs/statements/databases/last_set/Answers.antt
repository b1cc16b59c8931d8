use Rattle.zeb_register.proofs.Cited.{rules, SetsLast, databases_tree, refl}
use Rattle.zeb_register.proofs.Calls.{written}
use Rattle.zeb_register.proofs.DatabaseStatements.{sets_last}
use Rattle.zeb_register.proofs.BoundColumns.{none_bound, number_bound, ran_so}
use Rattle.zeb_register.proofs.statements.databases.last_set.Goals as goal

pub returns : goal.returns
returns g c = record { call = record { same = search rules; does = written databases_tree (SetsLast c.args.id c.args.last) _ _ c.write.result (λ count store ran. sets_last c.args.id c.args.last _ _ count store ran) (ran_so c.write.ensures.ran (number_bound c.ranges.id refl c.params-to_sql.ensures (number_bound c.ranges.last refl c.params-to_sql-2.ensures none_bound))) } }
