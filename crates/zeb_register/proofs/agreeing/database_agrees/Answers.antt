use Rattle.zeb_register.proofs.Cited.{state, Int, ◌≡◌, ◌∙◌, [], ◌∷◌, subst, w64, to_z, of_z, to_z-of_z, IfOk-weaker, AsExpected, tree_of, Fits, IsListOf, IsRest}
use Rattle.zeb_register.proofs.RowReads.{fits_expected}
use Rattle.zeb_register.proofs.YesNoAnswers.{told_so}
use Rattle.zeb_register.proofs.agreeing.database_agrees.Goals as goal

pub returns : goal.returns
returns g c =
    let s = state g.S.Store c.args.conn.now in
    let t = c.args.table in
    let d = c.args.database.now in
    let it = c.rests_agree.ensures in
    let known : to_z w64 (of_z w64 c.column.result) ≡ c.args.db.0 = to_z-of_z {w = w64} {z = c.column.result} c.column.ensures.fits ∙ c.column.ensures.value in
    record {
      call = record { idle = it.call.idle; ok = λ clean. IfOk-weaker c.rests_agree.result _ _ (λ b read. read.0) (it.call.ok clean); same = it.call.same; crash = it.call.crash };
      value = λ clean store. IfOk-weaker c.rests_agree.result _ _ (λ b read order.
          let rest = read.1 store in
          let are = subst (λ i. IsListOf (IsRest (tree_of t) (Int i ∷ []) s.now.trees) rest.0) known rest.1 in
          told_so (Fits t d rest.0 0) (AsExpected t c.args.db.0 d s.now.trees) b (fits_expected t s store c.args.db.0 d order rest.0 are) (rest.2 order)) (it.call.ok clean);
      refused = it.refused;
    }
