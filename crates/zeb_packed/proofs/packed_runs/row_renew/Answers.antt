use Rattle.zeb_packed.proofs.Cited.{packed_blocks, ◌≡◌, ◌∙◌, ◌==◌, ap, arith, length, not, rules, subst, sym, state, HasCleanDisk, Changes, blocks_tree, changes_after, changes_so, goes_then, reads_goes, store_same, TurnsBlock, units_of, IfTold, PutsBlock, IsBlockIn, IsTold, LacksBlock, TurnsUnits, malformed_block, one_block_read}
use Rattle.zeb_register.proofs.PackedKeyLaws.{reads_told}
use Rattle.zeb_packed.proofs.UnitTurns.{turns_few}
use Rattle.zeb_packed.proofs.packed_runs.row_renew.Goals as goal

pub returns : goal.returns
returns g c = record {
  same = search rules;
  does = record {
    ok = λ clean inside. let first = state g.S.Store c.args.tx.now.conn.now in
        let second = state g.S.Store c.block_list.new.tx.conn.now in
        let third = state g.S.Store c.block_write.new.tx.conn.now in
        let clean1 : HasCleanDisk second = omega (arith, c.block_write.ensures.call.does.crash.clean) in
        let reads = c.in_ok-list.ensures.found.looks.call.ok clean1 inside in
        let put = c.in_ok-block_write.ensures.call.does.ok clean reads.mode in
        let db = c.args.db.0 in
        let key = c.args.key.now in
        let block = c.args.block in
        let held = c.in_ok-list.list.items in
        let list = c.in_ok-after.after.list.items in
        let is_empty = c.is_empty-is_there.result in
        let Writes = IfTold (not is_empty) (IsBlockIn db key block) (PutsBlock db key block list) in
        let empty : (length held == 0) ≡ is_empty = ap (λ n. n == 0) (sym c.in_ok-list.list.ok.0) ∙ sym c.is_empty-is_there.ensures in
        record {
          on = goes_then first second third (reads_goes first second reads) put.on;
          rows = λ store.
              let was = c.in_ok-list.ensures.found.looks.finds clean1 inside store in
              let told = subst (λ b. IsTold (not b) (IsBlockIn db key block) blocks_tree first.now.trees) empty (reads_told first.now.trees db key block held was) in
              let puts = subst (λ l. Changes blocks_tree (IfTold (not is_empty) (IsBlockIn db key block) (PutsBlock db key block l)) second third) c.deref.ensures.value (put.rows (store_same first second reads.now_is store)) in
              changes_so blocks_tree Writes (λ tree a b. TurnsBlock db key block c.args.run.now c.args.records c.in_ok-after.after.records a b × (⊥ → LacksBlock db key block a)) first third (λ writes. (
                record {
                  part = held;
                  next = list;
                  reads = was;
                  turns = c.in_ok-after.ensures.turned;
                  lies = c.in_ok-after.ensures.lies;
                  row = writes told;
                },
                λ clear. absurd clear,
              )) (changes_after blocks_tree Writes first second third reads inside puts);
        };
    err = search rules;
    crash = search rules;
  };
  honest = search rules;
  few = turns_few c.args.run.now (units_of c.in_ok-list.list.items c.args.records) (units_of c.in_ok-after.after.list.items c.in_ok-after.after.records) c.in_ok-after.ensures.turned c.requires.changes.few;
}

pub returns-in_err-list : goal.returns-in_err-list
returns-in_err-list g c = record {
  same = search rules;
  does = search rules;
  honest = λ clean inside store is lacks allows.
      let trees = (state g.S.Store c.args.tx.now.conn.now).now.trees in
      malformed_block trees c.args.db.0 c.args.key.now c.args.block allows.0 (c.in_err-list.ensures.found.looks.finds clean inside store (search rules)) allows.2;
  few = search rules;
}

pub returns-in_err-after : goal.returns-in_err-after
returns-in_err-after g c = record {
  same = search rules;
  does = search rules;
  honest = λ clean inside store is lacks allows.
      let first = state g.S.Store c.args.tx.now.conn.now in
      let reads = c.in_ok-list.ensures.found.looks.finds clean inside store in
      let same = one_block_read first.now.trees c.args.db.0 c.args.key.now c.args.block allows.0 c.in_ok-list.list.items allows.2 reads in
      c.in_err-after.ensures.turned (search rules) allows.1 (subst (λ l. TurnsUnits packed_blocks c.args.run.now (units_of l c.args.records) allows.1) same allows.3);
  few = search rules;
}
