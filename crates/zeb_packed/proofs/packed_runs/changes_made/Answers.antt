use Rattle.zeb_packed.proofs.Cited.{◌≡◌, ◌∙◌, [], ap, rules, subst, sym, Database, state, store_same, PutsAny, packed_blocks}
use Rattle.zeb_packed.proofs.KeyPuts.{puts_any}
use Rattle.zeb_packed.proofs.PackedWrites.{none_of}
use Rattle.zeb_packed.proofs.packed_runs.changes_made.Goals as goal

pub returns-then-is_empty-clause-units : goal.returns-then-is_empty-clause-units
returns-then-is_empty-clause-units g c clean inside store =
    let first = state g.S.Store c.args.tx.now.conn.now in
    let second = state g.S.Store c.nothing_inside.new.tx.conn.now in
    let same = (c.in_ok-nothing_inside.ensures.call.does.ok clean inside).now_is in
    let none : c.args.changes.now ≡ [] = none_of c.args.changes.now (sym c.is_empty.ensures ∙ c.if-is_empty.true) in
    (store_same first second same store, subst (λ l. PutsAny packed_blocks c.args.db.0 c.args.key.now l first.now.trees second.now.trees) (sym none) (λ tree. ap (λ (d : Database). d.trees tree) same))

pub returns-clause-units : goal.returns-clause-units
returns-clause-units g c clean inside store = let it = c.in_ok-changes_put.ensures.units clean inside store in (it.0, puts_any c.args.db.0 c.args.key.now c.args.changes.now _ _ (search rules) it.1)
