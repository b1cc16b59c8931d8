use Rattle.zeb_register.proofs.Cited.{Alters, Empties, state, rules}
use Rattle.zeb_register.proofs.HandedOn.{behind_inside}
use Rattle.zeb_register.proofs.Wiped.{lists_wiped}
use Rattle.zeb_register.proofs.wiping.lists_wipe.Goals as goal

pub returns : goal.returns
returns g c = record {
  call = record {
    same = search rules;
    does = behind_inside _ _ _ _ c.table_wipe-3.result _ _ _ (λ one. one.on) (λ one x both. lists_wiped _ _ _ _ one both.0 both.1) c.in_ok-table_wipe.ensures.call.does
        (behind_inside _ _ _ _ c.table_wipe-3.result _ _ (λ _ _ _. Alters 2 Empties (state g.S.Store c.table_wipe.new.tx.conn.now) (state g.S.Store c.table_wipe-2.new.tx.conn.now)
        × Alters 4 Empties (state g.S.Store c.table_wipe-2.new.tx.conn.now) (state g.S.Store c.table_wipe-3.new.tx.conn.now))
        (λ two. two.on) (λ two x three. (two, three)) c.in_ok-table_wipe-2.ensures.call.does c.table_wipe-3.ensures.call.does);
  };
}
