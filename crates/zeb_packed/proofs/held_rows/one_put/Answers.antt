use Rattle.zeb_packed.proofs.Cited.{◌++◌, [], ◌∷◌, Ok, Err, Result, pos, inl, refl, subst, Blob, Int, state, IfOk-weaker, IfOk, Alters, key_row, Gains, blocks_tree, changes_so, column_is, Answers, IfDamaged, RegFault, GainsAll, new_block_row}
use Rattle.zeb_packed.proofs.HeldPuts.{gains_one, one_lacking}
use Rattle.zeb_packed.proofs.KeyRows.{none_told}
use Rattle.zeb_packed.proofs.OpenCalls.{works_so}
use Rattle.zeb_packed.proofs.held_rows.one_put.Goals as goal

pub returns-clause-call : goal.returns-clause-call
returns-clause-call g c = works_so c.block_put.ensures.call (λ x inside added. added.on)

both : {A : Type 0} (r : Result A RegFault) (P : A → Type 0) (L Q D : Type 0) → IfOk r P → Answers (IfDamaged (¬ L)) (λ _. L) r → (L → Q) → (¬ L → D) → Answers (IfDamaged D) (λ x. P x × Q) r
both (Ok x) P L Q D put lacks all some = (put, all lacks)
both (Err e) P L Q D put stands all some = λ told. some (stands told)

pub returns-clause-put : goal.returns-clause-put
returns-clause-put g c clean inside store =
    let first = state g.S.Store c.args.tx.now.conn.now in
    let second = state g.S.Store c.block_put.new.tx.conn.now in
    let one = c.args.one.now in
    let db = c.args.db.0 in
    let key = one.key.now in
    let number = column_is c.in_ok-number.ensures.ok.1 c.in_ok-number.ensures.ok.0 in
    both c.block_put.result _ _ _ _ (IfOk-weaker c.block_put.result _ _ (λ _ put.
    let added = subst (λ n. Alters blocks_tree (Gains (key_row db key ++ Int n ∷ Blob c.deref.result.now ∷ [])) first second) number put in
    let row = subst (λ b. Alters blocks_tree (Gains (key_row db key ++ Int (pos one.block) ∷ Blob b ∷ [])) first second) c.deref.ensures.value added in
    changes_so blocks_tree (Gains (new_block_row db one)) (GainsAll (new_block_row db one ∷ [])) first second (gains_one (new_block_row db one) blocks_tree first.now.trees second.now.trees) (row.rows store)) (c.block_put.ensures.call.does.ok clean inside))
    (none_told db key one.block _ first.now.trees c.block_put.result number (c.block_put.ensures.told clean inside store)) (one_lacking db one first.now.trees) (λ stands. (one, inl refl, stands))
