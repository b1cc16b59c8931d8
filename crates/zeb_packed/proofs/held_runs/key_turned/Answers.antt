use Rattle.zeb_packed.proofs.Cited.{packed_blocks, state, Trees, Answers, IsRefusedAs, IsStore, TurnsKey}
use Rattle.zeb_packed.proofs.OpenCalls.{open_of, reads_then}
use Rattle.zeb_packed.proofs.OpenLooks.{behind_look}
use Rattle.zeb_packed.proofs.held_runs.key_turned.Goals as goal

pub returns-clause-turned : goal.returns-clause-turned
returns-clause-turned g c opened clean inside store told =
    let key = c.args.key.now in
    let changes = c.args.changes.now in
    let last = state g.S.Store c.known_turned.new.tx.conn.now in
    let Turned = λ (trees : Trees). Answers (IsRefusedAs packed_blocks c.args.db.0 key changes trees) (λ done. IsStore last × TurnsKey c.args.db.0 key changes trees last.now.trees c.args.held.now c.known_turned.new.held) c.known_turned.result in
    behind_look Turned c.in_ok-known.ensures.found c.known_turned.ensures.call c.known_turned.ensures.turned clean inside store

pub returns-then-are_new-clause-turned : goal.returns-then-are_new-clause-turned
returns-then-are_new-clause-turned g c opened clean inside store told = c.new_turned.ensures.turned opened clean inside store (told c.if-are_new.true)

pub returns-clause-call : goal.returns-clause-call
returns-clause-call g c = open_of (reads_then c.in_ok-known.ensures.found c.known_turned.ensures.call) (λ x opened goes. goes)
