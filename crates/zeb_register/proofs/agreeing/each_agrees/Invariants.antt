use Rattle.zeb_register.proofs.Cited.{state, ◌≡◌, ◌<◌, ℕ, Ok, true, slice_get, Some, Asks, ListedDatabase, ExpectedDatabase, AreInOrder, AsExpected}
use Rattle.zeb_register.proofs.agreeing.each_agrees.Given as goal

abbrev pub invariant-loop-at : goal.invariant-loop-at
invariant-loop-at g l = record {
  asks : Asks (state g.S.Store l.fn.conn) (state g.S.Store l.conn) (Ok true)
      (λ trees _. AreInOrder l.expected → (k : ℕ) (one : ListedDatabase) (database : ExpectedDatabase) → k < l.at → slice_get l.listed k ≡ Some one → slice_get l.expected k ≡ Some database
      → AsExpected l.table one.id.0 database trees);
}
