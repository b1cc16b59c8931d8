use Rattle.zeb_packed.proofs.Cited.{rules, map, store_schema, Changes, blocks_tree, changed_so, refused_keeps, violated, state, AreLacking, GainsAll, new_block_row}
use Rattle.zeb_packed.proofs.ManyBlocks.{adds_blocks, blocks_lacked}
use Rattle.zeb_packed.proofs.ManyRows.{GainsNumbered, gains_all, ran_goes, ran_so}
use Rattle.zeb_packed.proofs.statements.many.blocks_add.Goals as goal

pub returns-clause-call : goal.returns-clause-call
returns-clause-call g c = record {
  same = search rules;
  does = record {
    ok = λ clean inside. ran_goes _ _ _ _ c.execute.result (c.execute.ensures.runs clean inside);
    err = λ clean inside. refused_keeps _ _ _ _ c.execute.result (c.execute.ensures.runs clean inside);
    crash = search rules;
  };
}

pub returns-clause-put : goal.returns-clause-put
returns-clause-put g c db news are clean inside store =
    let old = state g.S.Store c.args.tx.now.conn.now in
    let new = state g.S.Store c.execute.new.self.conn.now in
    let rows = map (new_block_row db) news in
    ran_so _ _ old new c.execute.result (Changes blocks_tree (GainsAll rows) old new)
    (λ count ran. changed_so store_schema blocks_tree (GainsNumbered rows) (GainsAll rows) old new (gains_all rows blocks_tree old.now.trees new.now.trees) (adds_blocks db news _ are old new count store ran))
    (c.execute.ensures.runs clean inside)

pub returns-clause-lacking : goal.returns-clause-lacking
returns-clause-lacking g c db news are clean inside store =
    let old = state g.S.Store c.args.tx.now.conn.now in
    let new = state g.S.Store c.execute.new.self.conn.now in
    ran_so _ _ old new c.execute.result (AreLacking db news old.now.trees) (λ count ran. blocks_lacked db news _ are old new count store ran) (c.execute.ensures.runs clean inside)

pub returns-clause-violated : goal.returns-clause-violated
returns-clause-violated g c clean inside = violated _ _ _ _ c.execute.result (c.execute.ensures.runs clean inside) inside
