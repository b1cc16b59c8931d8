use Rattle.zeb_register.proofs.Cited.{GoesOn, state, HasCleanDisk, rules, arith, IfOk-weaker}
use Rattle.zeb_register.proofs.Calls.{goes_then}
use Rattle.zeb_register.proofs.FormatLemmas.{registers_without}
use Rattle.zeb_register.proofs.HandedOn.{behind_inside}
use Rattle.zeb_register.proofs.PlaceLemmas.{taken_whole}
use Rattle.zeb_register.proofs.dropping.database_drop_whole.Goals as goal

pub returns-clause-call : goal.returns-clause-call
returns-clause-call g c = record {
  same = search rules;
  does = behind_inside _ _ _ _ c.database_drop.result _ (λ _. GoesOn) (λ _. GoesOn) (λ one. one.0) (λ one x more. goes_then _ _ _ one.0 more) c.in_ok-registers_drop.ensures.call.does
      (behind_inside _ _ _ _ c.database_drop.result _ _ (λ _. GoesOn) (λ two. two.on) (λ two x three. goes_then _ _ _ two.on three.on) c.in_ok-table_clear.ensures.call.does c.database_drop.ensures.call.does);
}

pub returns-clause-taken : goal.returns-clause-taken
returns-clause-taken g c clean inside store =
    let db = c.args.db.0 in
    let first = state g.S.Store c.args.tx.now.conn.now in
    let second = state g.S.Store c.registers_drop.new.tx.conn.now in
    let third = state g.S.Store c.table_clear.new.tx.conn.now in
    let last = state g.S.Store c.database_drop.new.tx.conn.now in
    let clean2 : HasCleanDisk third = omega (arith, c.database_drop.ensures.call.does.crash.clean) in
    let clean1 : HasCleanDisk second = omega (arith, c.database_drop.ensures.call.does.crash.clean, c.table_clear.ensures.call.does.crash.clean) in
    let done1 = c.in_ok-registers_drop.ensures.call.does.ok clean1 inside in
    let one = done1.1 store in
    let done2 = c.in_ok-table_clear.ensures.call.does.ok clean2 done1.0.mode in
    let two = done2.rows one.store in
    IfOk-weaker c.database_drop.result _ _ (λ _ done3.
    let three = done3.rows two.layout in (
      taken_whole db first second third last one two three,
      λ format before after holds without. registers_without format db first second third last one two three before after holds without,
    )) (c.database_drop.ensures.call.does.ok clean done2.on.mode)
