use Rattle.zeb_leaves.proofs.Cited.{state, ℤ, [], refl, sym, subst, to_z-of_z, w64, to_z, of_z, IfOk-weaker, HasLeaves, IsEmptyBeside, quiet_still, still, IsListedId}
use Rattle.std.specs.List.Sorted.{IsStrictlySortedBy}
use Rattle.zeb_register.proofs.YesNoAnswers.{told_so}
use Rattle.zeb_leaves.proofs.agreeing_tables.is_empty_beside.Goals as goal

pub returns-then-is_listed-clause-call : goal.returns-then-is_listed-clause-call
returns-then-is_listed-clause-call g c =
    let s = state g.S.Store c.args.conn.now in
    record { idle = λ i. i; ok = λ clean. still s; same = λ clean i open'. (open', refl, refl); crash = quiet_still s }

pub returns-then-is_listed-clause-value : goal.returns-then-is_listed-clause-value
returns-then-is_listed-clause-value g c clean store =
    let here = subst (IsListedId c.args.listed.now) (to_z-of_z {w = w64} {z = c.args.id} c.ranges.id) (c.is_listed.ensures.same c.if-is_listed.true) in
    (λ _ other. absurd (other here), λ _. refl)

pub returns-then-is_listed-clause-refused : goal.returns-then-is_listed-clause-refused
returns-then-is_listed-clause-refused g c clean store = tt

pub returns-clause-call : goal.returns-clause-call
returns-clause-call g c =
    let it = c.leaves_hold.ensures.call in
    record { idle = it.idle; ok = λ clean. IfOk-weaker c.leaves_hold.result _ _ (λ b same open'. same) (it.ok clean); same = it.same; crash = it.crash }

pub returns-clause-value : goal.returns-clause-value
unfolding IsStrictlySortedBy
returns-clause-value g c clean store =
    let trees = (state g.S.Store c.args.conn.now).now.trees in
    let same = to_z-of_z {w = w64} {z = c.args.id} c.ranges.id in
    let empty = λ (id : ℤ). HasLeaves id [] trees in
    IfOk-weaker c.leaves_hold.result _ _ (λ b is. told_so (empty (to_z w64 (of_z w64 c.args.id))) (IsEmptyBeside c.args.listed.now trees c.args.id) b
    (λ h _. subst empty same h, λ beside. subst empty (sym same) (beside (subst (λ (id : ℤ). ¬ IsListedId c.args.listed.now id) same (c.is_listed.ensures.other c.if-is_listed.false)))) (is tt)) (c.leaves_hold.ensures.value clean store)

pub returns-clause-refused : goal.returns-clause-refused
returns-clause-refused g c = c.leaves_hold.ensures.refused
