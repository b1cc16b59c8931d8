use Rattle.zeb_register.proofs.Cited.{state, rules}
use Rattle.zeb_register.proofs.Calls.{goes_then}
use Rattle.zeb_register.proofs.HandedOn.{behind_inside}
use Rattle.zeb_register.proofs.PlaceLemmas.{DropsTwo, drops}
use Rattle.zeb_register.proofs.dropping.registers_drop.Goals as goal

pub returns : goal.returns
returns g c = record {
  call = record {
    same = search rules;
    does = behind_inside _ _ _ _ c.table_clear-3.result _ _ _ (λ one. one.on)
        (λ one x both. (goes_then _ _ _ one.on (goes_then _ _ _ both.0.on both.1.on), λ store. let was = one.rows store in let then' = both.0.rows was.layout in drops c.args.db.0 _ _ _ _ was then' (both.1.rows then'.layout)))
        c.in_ok-table_clear.ensures.call.does
        (behind_inside _ _ _ _ c.table_clear-3.result _ _ (λ _ _ _. DropsTwo c.args.db.0 (state g.S.Store c.table_clear.new.tx.conn.now) (state g.S.Store c.table_clear-2.new.tx.conn.now) (state g.S.Store c.table_clear-3.new.tx.conn.now))
        (λ two. two.on) (λ two x three. (two, three)) c.in_ok-table_clear-2.ensures.call.does c.table_clear-3.ensures.call.does);
  };
}
