-- Pieces that are put part by part: what is left leads to any end as all do from the start.
use Rattle.zeb_leaves.proofs.Cited.{◌≢◌, ◌+◌, ◌<◌, ◌≤◌, ℕ, ℤ, List, [], Ok, Err, length, drop, sym, ap, subst, arith, Trees, ◌-◌, take, drop-drop, length-drop, take-append-drop, take_rest, ArePieces, packed_leaves, IsRunRefusedAs, PutsKeys, RegFault, KeyChanges}
use Rattle.zeb_register.proofs.RunCounts.{none_run}
use Rattle.zeb_register.proofs.RunTurns.{Answered, LeadsOn, none_put}
use Rattle.zeb_leaves.proofs.PiecesInTurn.{answered_in_turn}
use Rattle.zeb_leaves.proofs.PiecesOfRuns.{back_pieces}

-- what is left, as the code cuts it
abbrev left : List KeyChanges → ℕ → List KeyChanges
left pieces done = take (length pieces - done) (drop done pieces)

module _ (pieces : List KeyChanges) (done : ℕ) where
  pub some_left : done < length pieces → left pieces done ≢ []
  some_left below none = let all = ap length (take_rest pieces done) in let gone = ap length none in absurd (omega (arith, below, all, gone, length-drop done pieces))

  pub count_within : (count : ℕ) → done ≤ length pieces → count ≤ length (left pieces done) → done + count ≤ length pieces
  count_within count within few = let all = ap length (take_rest pieces done) in omega (arith, within, few, all, length-drop done pieces)

  module _ (are : ArePieces pieces) where
    rest_are : ArePieces (drop done pieces)
    rest_are = back_pieces (take done pieces) (drop done pieces) (subst ArePieces (sym (take-append-drop done pieces)) are)

    pub left_are : ArePieces (left pieces done)
    left_are = subst ArePieces (sym (take_rest pieces done)) rest_are

    module _ (db : ℤ) (old mid : Trees) (leads : LeadsOn packed_leaves db pieces done old mid) where
      pub leads_more : (count : ℕ) (new : Trees) → PutsKeys packed_leaves db (take count (left pieces done)) mid new → LeadsOn packed_leaves db pieces (done + count) old new
      leads_more count new puts end result answers =
          let rest = drop done pieces in
          let whole = take-append-drop count rest in
          leads end result (subst (λ l. Answered packed_leaves db l mid end result) whole (answered_in_turn db (take count rest) (drop count rest) (subst ArePieces (sym whole) rest_are) mid new end result
          (subst (λ l. PutsKeys packed_leaves db (take count l) mid new) (take_rest pieces done) puts)
          (subst (λ l. Answered packed_leaves db l new end result) (sym (drop-drop count done pieces)) answers)))

      pub left_refused : (fault : RegFault) → IsRunRefusedAs packed_leaves db (left pieces done) mid fault → IsRunRefusedAs packed_leaves db pieces old fault
      left_refused fault told = leads mid (Err fault) (subst (λ l. IsRunRefusedAs packed_leaves db l mid fault) (take_rest pieces done) told)

      pub all_put : length pieces ≤ done → PutsKeys packed_leaves db pieces old mid
      all_put end = leads mid (Ok tt) (subst (λ l. PutsKeys packed_leaves db l mid mid) (sym (none_run done pieces end)) (none_put packed_leaves db mid))
