use Rattle.zeb_packed.proofs.Cited.{pos, Err, ap, subst, sym, option_copied, state, blocks_tree, LiesIn, first_is, first_got, BlockReads, column_is, numbered_rows, refused_rows}
use Rattle.zeb_packed.proofs.KeyRows.{absent_shown}
use Rattle.zeb_packed.proofs.OpenLooks.{rows_tell}
use Rattle.zeb_packed.proofs.PackedReads.{empty_lies, lacks_reads}
use Rattle.zeb_packed.proofs.UnitLists.{shown_malformed, shown_reads}
use Rattle.zeb_packed.proofs.packed_changes.block_list.Goals as goal

pub returns-in-Some-clause-found : goal.returns-in-Some-clause-found
returns-in-Some-clause-found g c = rows_tell c.in_ok-rows.ensures.call (λ store held.
    let first = state g.S.Store c.args.tx.now.conn.now in
    let items = c.in_ok-rows.rows.items in
    let rows = numbered_rows first.now.trees blocks_tree c.args.db.0 c.args.key.now _ c.args.block (column_is c.in_ok-number.ensures.ok.1 c.in_ok-number.ensures.ok.0) items held in
    shown_reads first store c.args.db.0 c.args.key.now c.args.block c.in-Some.row.now (first_is _ items c.in-Some.row.now rows (first_got c.first.ensures.value c.deref.ensures.value (ap option_copied c.in-Some.is))) c.in_ok-spelled_list-in-Some.field-0.items c.in_ok-spelled_list-in-Some.ensures.ok)

pub returns-in_err-spelled_list-in-Some-clause-found : goal.returns-in_err-spelled_list-in-Some-clause-found
returns-in_err-spelled_list-in-Some-clause-found g c = rows_tell c.in_ok-rows.ensures.call (λ store held.
    let first = state g.S.Store c.args.tx.now.conn.now in
    let items = c.in_ok-rows.rows.items in
    let rows = numbered_rows first.now.trees blocks_tree c.args.db.0 c.args.key.now _ c.args.block (column_is c.in_ok-number.ensures.ok.1 c.in_ok-number.ensures.ok.0) items held in
    refused_rows c.in_err-spelled_list-in-Some.field-0.0 c.from_residual-in_err-spelled_list-in-Some.result c.from_residual-in_err-spelled_list-in-Some.ensures.1 _ _
    (λ told. shown_malformed first store c.args.db.0 c.args.key.now c.args.block c.in-Some.row.now (first_is _ items c.in-Some.row.now rows (first_got c.first.ensures.value c.deref.ensures.value (ap option_copied c.in-Some.is))) (c.in_err-spelled_list-in-Some.ensures.honest (ap Err told))))

pub returns-clause-found : goal.returns-clause-found
returns-clause-found g c = rows_tell c.in_ok-rows.ensures.call (λ store held.
    let trees = (state g.S.Store c.args.tx.now.conn.now).now.trees in
    let items = c.in_ok-rows.rows.items in
    let lacks = absent_shown trees (record { db = c.args.db; key = c.args.key }) _ (pos c.args.block) (column_is c.in_ok-number.ensures.ok.1 c.in_ok-number.ensures.ok.0) items held (first_got c.first.ensures.value c.deref.ensures.value (ap option_copied c.in-None.is)) in
    subst (BlockReads trees c.args.db.0 c.args.key.now c.args.block) (sym c.new.ensures.items) (lacks_reads trees c.args.db.0 c.args.key.now c.args.block lacks))

pub returns-clause-lies : goal.returns-clause-lies
returns-clause-lies g c = subst (LiesIn c.args.block) (sym c.new.ensures.items) (empty_lies c.args.block)
