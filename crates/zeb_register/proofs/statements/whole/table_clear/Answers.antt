use Rattle.zeb_register.proofs.Cited.{rules, tree_of, Loses, IsOfDatabase}
use Rattle.zeb_register.proofs.Calls.{written}
use Rattle.zeb_register.proofs.WholeStatements.{cleared}
use Rattle.zeb_register.proofs.BoundColumns.{none_bound, number_bound, ran_as}
use Rattle.zeb_register.proofs.statements.whole.table_clear.Goals as goal

pub returns : goal.returns
returns g c = record {
  call = record {
    same = search rules;
    does = written (tree_of c.args.table) (Loses (IsOfDatabase c.args.db.0)) _ _ c.write.result (λ count store ran. cleared c.args.table c.args.db.0 _ _ count store ran)
        (ran_as c.write.ensures.ran c.clear_text.ensures (number_bound c.column-id.ensures.fits c.column-id.ensures.value c.params-to_sql.ensures none_bound));
  };
}
