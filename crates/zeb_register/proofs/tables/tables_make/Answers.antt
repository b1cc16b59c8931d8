use Rattle.zeb_register.proofs.Cited.{unchanged_then, Database, state, HasCleanDisk, rules, subst, ◌∙◌, ap, arith, IfOk-weaker, Schema, HasEmpty, schema_before}
use Rattle.zeb_register.proofs.Calls.{goes_then, on_ok_so}
use Rattle.zeb_register.proofs.CreateKeepsTables.{keeps_then}
use Rattle.zeb_register.proofs.tables.tables_make.Goals as goal

pub returns-clause-made : goal.returns-clause-made
returns-clause-made g c clean inside has =
    let clean2 : HasCleanDisk (state g.S.Store c.table_make-2.new.tx.conn.now) = omega (arith, clean, c.table_make-3.ensures.call.does.crash.clean) in
    let clean1 : HasCleanDisk (state g.S.Store c.table_make.new.tx.conn.now) = omega (arith, clean2, c.table_make-2.ensures.call.does.crash.clean) in
    let one = c.in_ok-table_make.ensures.made clean1 inside has in
    let behind : HasEmpty (schema_before c.args.second) (state g.S.Store c.table_make.new.tx.conn.now) = subst (λ (s : Schema). HasEmpty s (state g.S.Store c.table_make.new.tx.conn.now)) c.requires.follow.0 (one.is, one.empty) in
    let two = c.in_ok-table_make-2.ensures.made clean2 one.inside behind in
    c.table_make-3.ensures.made clean two.inside (subst (λ (s : Schema). HasEmpty s (state g.S.Store c.table_make-2.new.tx.conn.now)) c.requires.follow.1 (two.is, two.empty))

pub returns-clause-there : goal.returns-clause-there
returns-clause-there g c clean inside has =
    let clean2 : HasCleanDisk (state g.S.Store c.table_make-2.new.tx.conn.now) = omega (arith, clean, c.table_make-3.ensures.call.does.crash.clean) in
    let clean1 : HasCleanDisk (state g.S.Store c.table_make.new.tx.conn.now) = omega (arith, clean2, c.table_make-2.ensures.call.does.crash.clean) in
    let one = c.in_ok-table_make.ensures.there clean1 inside has in
    let has1 = ap (λ (d : Database). d.schema) one.0.now_is ∙ has in
    let mode1 = one.0.mode ∙ inside in
    let two = c.in_ok-table_make-2.ensures.there clean2 mode1 has1 in
    let both = unchanged_then _ _ _ one two in
    on_ok_so c.table_make-3.result _ _ (λ three. unchanged_then _ _ _ both three) (c.table_make-3.ensures.there clean (both.0.mode ∙ inside) (ap (λ (d : Database). d.schema) both.0.now_is ∙ has))

pub returns-clause-kept : goal.returns-clause-kept
returns-clause-kept g c clean inside =
    let clean2 : HasCleanDisk (state g.S.Store c.table_make-2.new.tx.conn.now) = omega (arith, clean, c.table_make-3.ensures.call.does.crash.clean) in
    let clean1 : HasCleanDisk (state g.S.Store c.table_make.new.tx.conn.now) = omega (arith, clean2, c.table_make-2.ensures.call.does.crash.clean) in
    let one = c.in_ok-table_make.ensures.call.does.ok clean1 inside in
    let two = c.in_ok-table_make-2.ensures.call.does.ok clean2 one.mode in
    let both = keeps_then _ _ _ (c.in_ok-table_make.ensures.kept clean1 inside) (c.in_ok-table_make-2.ensures.kept clean2 one.mode) in
    on_ok_so c.table_make-3.result _ _ (λ three. keeps_then _ _ _ both three) (c.table_make-3.ensures.kept clean two.mode)

pub returns-clause-call : goal.returns-clause-call
returns-clause-call g c = record {
  same = search rules;
  does = record {
    ok = λ clean inside.
        let clean2 : HasCleanDisk (state g.S.Store c.table_make-2.new.tx.conn.now) = omega (arith, clean, c.table_make-3.ensures.call.does.crash.clean) in
        let clean1 : HasCleanDisk (state g.S.Store c.table_make.new.tx.conn.now) = omega (arith, clean2, c.table_make-2.ensures.call.does.crash.clean) in
        let one = c.in_ok-table_make.ensures.call.does.ok clean1 inside in
        let two = goes_then _ _ _ one (c.in_ok-table_make-2.ensures.call.does.ok clean2 one.mode) in
        IfOk-weaker c.table_make-3.result _ _ (λ _ three. goes_then _ _ _ two three) (c.table_make-3.ensures.call.does.ok clean two.mode);
    err = search rules;
    crash = search rules;
  };
}
