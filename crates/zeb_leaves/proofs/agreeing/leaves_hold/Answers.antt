-- The walk takes the postings just where the leaves hold them.
use Rattle.zeb_leaves.proofs.Cited.{state, Int, None, ◌∷◌, [], IsRest, blocks_tree, subst, to_z-of_z, w64, IfOk-weaker, AreWalked, HoldsPostings, IsListOf}
use Rattle.zeb_leaves.proofs.HeldWalk.{held_walked}
use Rattle.zeb_leaves.proofs.OwnKeys.{own_keys}
use Rattle.zeb_leaves.proofs.WalkedHold.{walked_hold}
use Rattle.zeb_register.proofs.YesNoAnswers.{told_so}
use Rattle.zeb_leaves.proofs.agreeing.leaves_hold.Goals as goal

pub returns : goal.returns
returns g c =
    let s = state g.S.Store c.args.conn.now in
    let postings = c.args.postings.now in
    let it = c.leaves_walked.ensures in
    record {
      call = record { idle = it.call.idle; ok = λ clean. IfOk-weaker c.leaves_walked.result _ _ (λ b read. read.0) (it.call.ok clean); same = it.call.same; crash = it.call.crash };
      value = λ clean store. IfOk-weaker c.leaves_walked.result _ _ (λ b read up.
          let rows = read.1 store in
          let rests = IsRest blocks_tree (Int c.args.db ∷ []) s.now.trees in
          let keys = own_keys s store c.args.db in
          let are = subst (λ i. IsListOf (IsRest blocks_tree (Int i ∷ []) s.now.trees) rows.0) (to_z-of_z {w = w64} {z = c.args.db} c.ranges.db) rows.1 in
          told_so (AreWalked None rows.0 postings) (HoldsPostings rests postings) b (walked_hold rests rows.0 are keys postings up, held_walked rests rows.0 are keys postings up) rows.2) (it.call.ok clean);
      refused = it.refused;
    }
