use Rattle.zeb_packed.proofs.Cited.{packed_blocks, ◌∙◌, [], false, rules, subst, sym, state, LiesIn, Changes, blocks_tree, changes_so, TurnsBlock, units_of, IfTold, PutsBlock, BlockReads, IsBlockIn, LacksBlock, TurnsUnits, one_block_read}
use Rattle.zeb_packed.proofs.PackedReads.{empty_lies, lacks_reads}
use Rattle.zeb_packed.proofs.UnitTurns.{turns_few}
use Rattle.zeb_packed.proofs.packed_runs.row_begin.Goals as goal

pub changed_by-requires-clause-lies : goal.changed_by-requires-clause-lies
changed_by-requires-clause-lies g c = subst (LiesIn c.args.block) (sym c.new.ensures.items) (empty_lies c.args.block)

pub returns-in_err-after : goal.returns-in_err-after
returns-in_err-after g c = record {
  same = search rules;
  does = search rules;
  honest = λ clean inside store is lacks allows.
      let trees = (state g.S.Store c.args.tx.now.conn.now).now.trees in
      let db = c.args.db.0 in
      let key = c.args.key.now in
      let same = one_block_read trees db key c.args.block allows.0 [] allows.2 (lacks_reads trees db key c.args.block (lacks tt)) ∙ sym c.new.ensures.items in
      c.in_err-after.ensures.turned (search rules) allows.1 (subst (λ l. TurnsUnits packed_blocks c.args.run.now (units_of l c.args.records) allows.1) same allows.3);
  few = search rules;
}

pub returns-in_err-block_begin : goal.returns-in_err-block_begin
returns-in_err-block_begin g c = record {
  same = search rules;
  does = search rules;
  honest = λ clean inside store is lacks allows. c.in_err-block_begin.ensures.told clean inside store (search rules) (lacks tt);
  few = search rules;
}

pub returns : goal.returns
returns g c = record {
  same = search rules;
  does = record {
    ok = λ clean inside. let first = state g.S.Store c.args.tx.now.conn.now in
        let second = state g.S.Store c.block_begin.new.tx.conn.now in
        let put = c.in_ok-block_begin.ensures.call.does.ok clean inside in
        let db = c.args.db.0 in
        let key = c.args.key.now in
        let block = c.args.block in
        let list = c.in_ok-after.after.list.items in
        let Writes = IfTold false (IsBlockIn db key block) (PutsBlock db key block list) in
        record {
          on = put.on;
          rows = λ store.
              let told = c.in_ok-block_begin.ensures.told clean inside store in
              let puts = subst (λ l. Changes blocks_tree (IfTold false (IsBlockIn db key block) (PutsBlock db key block l)) first second) c.deref.ensures.value (put.rows store) in
              changes_so blocks_tree Writes (λ tree a b. TurnsBlock db key block c.args.run.now c.args.records c.in_ok-after.after.records a b × (Unit {0} → LacksBlock db key block a)) first second (λ writes. (
                record {
                  part = c.new.result.items;
                  next = list;
                  reads = subst (BlockReads first.now.trees db key block) (sym c.new.ensures.items) (lacks_reads first.now.trees db key block told);
                  turns = c.in_ok-after.ensures.turned;
                  lies = c.in_ok-after.ensures.lies;
                  row = writes told;
                },
                λ clear. told,
              )) puts;
        };
    err = search rules;
    crash = search rules;
  };
  honest = search rules;
  few = turns_few c.args.run.now (units_of c.new.result.items c.args.records) (units_of c.in_ok-after.after.list.items c.in_ok-after.after.records) c.in_ok-after.ensures.turned c.requires.changes.few;
}
