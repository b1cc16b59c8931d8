use Rattle.zeb_packed.proofs.Cited.{packed_blocks, rules, state, refused_so, Trees, Answers, IsRefusedAs, IsStore, PutsUnits}
use Rattle.zeb_packed.proofs.OpenCalls.{reads_then}
use Rattle.zeb_packed.proofs.OpenLooks.{behind_look}
use Rattle.zeb_packed.proofs.packed_runs.changes_put.Goals as goal

pub returns-clause-call : goal.returns-clause-call
returns-clause-call g c = reads_then c.in_ok-known.ensures.found c.known_put.ensures.call

pub returns-clause-units : goal.returns-clause-units
returns-clause-units g c =
    let last = state g.S.Store c.known_put.new.tx.conn.now in
    let Changed = λ (trees : Trees). Answers (IsRefusedAs packed_blocks c.args.db.0 c.args.key.now c.args.changes.now trees) (λ done. IsStore last × PutsUnits packed_blocks c.args.db.0 c.args.key.now c.args.changes.now trees last.now.trees) c.known_put.result in
    behind_look Changed c.in_ok-known.ensures.found c.known_put.ensures.call c.known_put.ensures.units

pub returns-in_err-known-clause-units : goal.returns-in_err-known-clause-units
returns-in_err-known-clause-units g c clean inside store = refused_so _ _ c.from_residual.result c.in_err-known.field-0.0 (search rules) (
  λ none. absurd (none c.requires.stored),
  λ told. (c.requires.stored, λ were are allows. c.in_err-known.ensures.found.looks.finds clean inside store told were.records allows.count.is),
)
