use Rattle.zeb_leaves.proofs.Cited.{state, Trees, rules, ◌≡◌, ◌↔◌, ℤ, List, Err, Bool, sym, subst, arith, to_z-of_z, blocks_tree, FitsSigned, false, true, to_z, w64, IsEmptyBeside, ListedDatabase}
use Rattle.std.specs.Bool.{IsTrue}
use Rattle.std.proofs.lemmas.Int.{ints}
use Rattle.zeb_leaves.proofs.LeavesOfIds.{next_there, others_empty}
use Rattle.zeb_leaves.proofs.OpenCalls.{asks_open, asks_open_behind}
use Rattle.zeb_leaves.proofs.ReachedIds.{IsReached, all_reached, first_reached, next_reached, none_next}
use Rattle.zeb_register.proofs.AsksInTurn.{asks_behind, asks_handed, asks_handed_behind, asks_so}
use Rattle.zeb_leaves.proofs.agreeing_tables.others_are_empty.Goals as goal

-- the answer tells whether the leaves under the id hold nothing, if none of the databases has it
abbrev Beside : List ListedDatabase → ℤ → Trees → Bool → Type 0
Beside listed id trees answer = IsTrue answer ↔ IsEmptyBeside listed trees id

pub returns-in_err-ends : goal.returns-in_err-ends
returns-in_err-ends g c = asks_handed _ _ _ c.from_residual.result _ _ c.in_err-ends.ensures c.from_residual.ensures.1

pub returns-in_default : goal.returns-in_default
returns-in_default g c =
    asks_so _ _ _ _ _ _ c.in_ok-ends.ensures (λ store ends.
    let none = rw c.in_default.is at ends in
    (λ _. others_empty (state g.S.Store c.args.conn.now) store c.args.listed.now (λ id owns. absurd (none id owns)), λ _. search rules))

pub ids-init : goal.ids-init
ids-init g c = record {
  asks = asks_so _ _ _ true _ _ c.in_ok-ends.ensures (λ store ends.
      let trees = (state g.S.Store c.args.conn.now).now.trees in
      let fits : FitsSigned w64 c.in-Some.ends.first = search rules in
      subst (λ i. IsReached blocks_tree trees (IsEmptyBeside c.args.listed.now trees) c.in-Some.ends.last i) (sym (to_z-of_z {w = w64} {z = c.in-Some.ends.first} fits))
      (first_reached blocks_tree trees (IsEmptyBeside c.args.listed.now trees) c.in-Some.ends (rw c.in-Some.is at ends)));
}

pub returns-in_err-is_empty_beside : goal.returns-in_err-is_empty_beside
returns-in_err-is_empty_beside g c =
    let it = c.in_err-is_empty_beside.ensures in
    asks_handed_behind _ _ _ _ _ c.from_residual-in_err-is_empty_beside.result _ _ _ c.ids.invariant.asks (asks_open _ _ _ _ _ (Beside c.args.listed.now (to_z w64 c.ids.id-bits)) c.ids.invariant.asks (Err c.in_err-is_empty_beside.field-0.0) it.call it.value it.refused)
    c.from_residual-in_err-is_empty_beside.ensures.1

pub returns-then-not-branch : goal.returns-then-not-branch
returns-then-not-branch g c =
    let it = c.in_ok-is_empty_beside.ensures in
    asks_open_behind _ _ _ _ _ (Beside c.args.listed.now (to_z w64 c.ids.id-bits)) c.ids.invariant.asks _ _ _ it.call it.value (λ store reached value. (
      λ h. absurd (let e : false ≡ true = h in cc),
      λ all.
          let yes' : c.in_ok-is_empty_beside.field-0 ≡ true = value.1 (all (to_z w64 c.ids.id-bits)) in
          let no' : c.in_ok-is_empty_beside.field-0 ≡ false = c.if-not-branch.true in
          absurd (cc),
    ))

pub returns-then-id-ends : goal.returns-then-id-ends
returns-then-id-ends g c =
    let s = state g.S.Store c.args.conn.now in
    let it = c.in_ok-is_empty_beside.ensures in
    asks_open_behind _ _ _ _ _ (Beside c.args.listed.now (to_z w64 c.ids.id-bits)) c.ids.invariant.asks _ _ _ it.call it.value (λ store reached value. (
      λ _. others_empty s store c.args.listed.now
          (all_reached blocks_tree s.now.trees (IsEmptyBeside c.args.listed.now s.now.trees) c.in-Some.ends.last (to_z w64 c.ids.id-bits) reached (value.0 c.if-not-branch.false) (omega (arith, ints, c.if-id-ends.true, c.ids.id-is))),
      λ _. search rules,
    ))

pub returns-in_err-next : goal.returns-in_err-next
returns-in_err-next g c =
    let it = c.in_ok-is_empty_beside.ensures in
    asks_handed_behind _ _ _ true _ c.from_residual-in_err-next.result _ _ _ (asks_open_behind _ _ _ _ _ (Beside c.args.listed.now (to_z w64 c.ids.id-bits)) c.ids.invariant.asks _ true (λ _ _. Unit {0}) it.call it.value (λ store reached value. tt)) c.in_err-next.ensures c.from_residual-in_err-next.ensures.1

pub returns-in_default-2 : goal.returns-in_default-2
returns-in_default-2 g c =
    let s = state g.S.Store c.args.conn.now in
    let id = to_z w64 c.ids.id-bits in
    let last = c.in-Some.ends.last in
    let it = c.in_ok-is_empty_beside.ensures in
    asks_behind _ _ _ true _ _ (λ trees _. IsReached blocks_tree trees (IsEmptyBeside c.args.listed.now trees) last id × IsEmptyBeside c.args.listed.now trees id) _ _
    (asks_open_behind _ _ _ _ _ (Beside c.args.listed.now (to_z w64 c.ids.id-bits)) c.ids.invariant.asks _ true _ it.call it.value (λ store reached value. (reached, value.0 c.if-not-branch.false))) c.in_ok-next.ensures (λ store passed least.
    let fits : FitsSigned w64 last = search rules in
    let behind = next_there s.now.trees _ id c.in_ok-next.field-0 (omega (arith, ints, c.ids.id-is, c.if-id-ends.false, fits)) least in
    (λ _. others_empty s store c.args.listed.now (none_next blocks_tree s.now.trees (IsEmptyBeside c.args.listed.now s.now.trees) last id passed.0 passed.1 (rw c.in_default-2.is at behind)), λ _. search rules))

pub ids-preserved : goal.ids-preserved
ids-preserved g c =
    let trees = (state g.S.Store c.args.conn.now).now.trees in
    let id = to_z w64 c.ids.id-bits in
    let last = c.in-Some.ends.last in
    let it = c.in_ok-is_empty_beside.ensures in
    record {
      asks = asks_behind _ _ _ true _ true (λ trees _. IsReached blocks_tree trees (IsEmptyBeside c.args.listed.now trees) last id × IsEmptyBeside c.args.listed.now trees id) _ _
          (asks_open_behind _ _ _ _ _ (Beside c.args.listed.now (to_z w64 c.ids.id-bits)) c.ids.invariant.asks _ true _ it.call it.value (λ store reached value. (reached, value.0 c.if-not-branch.false))) c.in_ok-next.ensures (λ store passed least.
          let fits : FitsSigned w64 last = search rules in
          let behind = next_there trees _ id c.in_ok-next.field-0 (omega (arith, ints, c.ids.id-is, c.if-id-ends.false, fits)) least in
          let next_fits : FitsSigned w64 c.in-Some-2.next = search rules in
          subst (λ i. IsReached blocks_tree trees (IsEmptyBeside c.args.listed.now trees) last i) (sym (to_z-of_z {w = w64} {z = c.in-Some-2.next} next_fits))
          (next_reached blocks_tree trees (IsEmptyBeside c.args.listed.now trees) last id passed.0 passed.1 c.in-Some-2.next (rw c.in-Some-2.is at behind)));
    }

pub returns : goal.returns
returns g c =
    let call = c.ids.invariant.asks.call in
    record { call = record { idle = call.idle; ok = λ clean. tt; same = call.same; crash = call.crash }; value = λ clean store. tt; refused = search rules }
