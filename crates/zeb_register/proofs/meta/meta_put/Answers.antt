use Rattle.zeb_register.proofs.Cited.{rules, Replaces, IsEntryOf, entry, meta_tree, refl}
use Rattle.zeb_register.proofs.Calls.{written}
use Rattle.zeb_register.proofs.TextStatements.{sets}
use Rattle.zeb_register.proofs.BoundColumns.{none_bound, ran_so, value_bound}
use Rattle.zeb_register.proofs.meta.meta_put.Goals as goal

pub returns : goal.returns
returns g c = record {
  call = record {
    same = search rules;
    does = written meta_tree (Replaces (IsEntryOf c.args.name.now) (entry c.args.name.now c.args.value.now)) _ _ c.write.result (λ count store ran. sets c.args.name.now c.args.value.now _ _ count store ran)
        (ran_so c.write.ensures.ran (value_bound c.params-to_sql.ensures refl (value_bound c.params-to_sql-2.ensures refl none_bound)));
  };
}
