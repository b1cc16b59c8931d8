use Rattle.zeb_engine.proofs.Cited.{◌≤◌, Ok, state}
use Rattle.zeb_engine.proofs.AskingInTurn.{SearchesUncounted}
use Rattle.zeb_engine.proofs.ReadingOn.{ReadTo}
use Rattle.zeb_engine.proofs.dump.bytes_of.Given as goal

abbrev pub invariant-loop-turn : goal.invariant-loop-turn
invariant-loop-turn g l = record {
  searched : SearchesUncounted (λ trees. ⊥) (λ trees (done : Unit {0}). (l._turn ≤ l.next) × ReadTo trees l.database.0 l.next l.bytes.items) (state g.S.Store l.fn.connection) (state g.S.Store l.connection) (Ok tt);
}
