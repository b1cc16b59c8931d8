use Rattle.zeb_leaves.proofs.Cited.{state, ◌≡◌, ◌<◌, ℕ, Some, Ok, true, Asks, slice_get, HasLeaves, OthersAreEmpty, PostingsRise, ListedDatabase, ExpectedDatabase}
use Rattle.zeb_leaves.proofs.agreeing_tables.ids_agree.Given as goal

abbrev pub invariant-loop-at : goal.invariant-loop-at
invariant-loop-at g l = record {
  asks : Asks (state g.S.Store l.fn.conn) (state g.S.Store l.conn) (Ok true) (λ trees _. OthersAreEmpty l.listed trees
      × (PostingsRise l.expected → (k : ℕ) (one : ListedDatabase) (database : ExpectedDatabase) → k < l.at → slice_get l.listed k ≡ Some one → slice_get l.expected k ≡ Some database → HasLeaves one.id.0 database.postings.items trees));
}
