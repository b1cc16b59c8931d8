use Rattle.zeb_register.proofs.Cited.{state, rules, ◌≡◌, ◌+◌, true, false, FitsSigned, w64, to_z, sym, subst, arith, to_z-of_z, ints, tree_of}
use Rattle.zeb_register.proofs.AsksInTurn.{asks_behind, asks_handed, asks_handed_behind, asks_so}
use Rattle.zeb_register.proofs.OwnersListed.{IsReached, all_reached, below_few, first_reached, from_next, next_reached, none_next}
use Rattle.zeb_register.proofs.belonging.belongs.Goals as goal

pub returns-in_err-ends : goal.returns-in_err-ends
returns-in_err-ends g c = asks_handed _ _ _ c.from_residual.result _ _ c.in_err-ends.ensures c.from_residual.ensures.1

pub returns-in_default : goal.returns-in_default
returns-in_default g c = asks_so _ _ _ _ _ _ c.in_ok-ends.ensures (λ store ends. let none = rw c.in_default.is at ends in (λ _ id owns. absurd (none id owns), λ _. search rules))

pub ids-init : goal.ids-init
ids-init g c = record {
  asks = asks_so _ _ _ true _ _ c.in_ok-ends.ensures (λ store ends.
      let trees = (state g.S.Store c.args.conn.now).now.trees in
      let fits : FitsSigned w64 c.in-Some.ends.first = search rules in
      subst (λ i. IsReached (tree_of c.args.table) trees c.args.listed.now c.in-Some.ends.last i 0) (sym (to_z-of_z {w = w64} {z = c.in-Some.ends.first} fits))
      (first_reached (tree_of c.args.table) trees c.args.listed.now c.in-Some.ends (rw c.in-Some.is at ends)));
}

pub returns-then-not-is_listed : goal.returns-then-not-is_listed
returns-then-not-is_listed g c = asks_so _ _ _ _ _ _ c.ids.invariant.asks (λ store reached. (
  λ h. absurd (let e : false ≡ true = h in cc),
  λ belongs. absurd (c.is_listed.ensures.other c.if-not-is_listed.true (belongs (to_z w64 c.ids.id-bits) reached.owns)),
))

pub returns-then-id-ends : goal.returns-then-id-ends
returns-then-id-ends g c = asks_so _ _ _ _ _ _ c.ids.invariant.asks (λ store reached. (
  λ _. all_reached (tree_of c.args.table) (state g.S.Store c.args.conn.now).now.trees c.args.listed.now c.in-Some.ends.last (to_z w64 c.ids.id-bits) c.ids._turn reached (c.is_listed.ensures.same c.if-not-is_listed.false) (omega (arith, ints, c.if-id-ends.true, c.ids.id-is)),
  λ _. search rules,
))

pub returns-in_err-next : goal.returns-in_err-next
returns-in_err-next g c = asks_handed_behind _ _ _ _ _ c.from_residual-in_err-next.result _ _ _ c.ids.invariant.asks c.in_err-next.ensures c.from_residual-in_err-next.ensures.1

pub returns-in_default-2 : goal.returns-in_default-2
returns-in_default-2 g c =
    let id = to_z w64 c.ids.id-bits in
    let fits : FitsSigned w64 c.in-Some.ends.last = search rules in
    asks_behind _ _ _ _ _ _ _ _ _ c.ids.invariant.asks c.in_ok-next.ensures (λ store reached found.
    let from = from_next _ id c.in_ok-next.field-0 found (omega (arith, ints, c.ids.id-is, c.if-id-ends.false, fits)) in (
      λ _. none_next (tree_of c.args.table) (state g.S.Store c.args.conn.now).now.trees c.args.listed.now c.in-Some.ends.last id c.ids._turn reached (c.is_listed.ensures.same c.if-not-is_listed.false) (rw c.in_default-2.is at from),
      λ _. search rules,
    ))

pub ids-preserved : goal.ids-preserved
ids-preserved g c =
    let trees = (state g.S.Store c.args.conn.now).now.trees in
    let id = to_z w64 c.ids.id-bits in
    let fits : FitsSigned w64 c.in-Some.ends.last = search rules in
    let next_fits : FitsSigned w64 c.in-Some-2.next = search rules in
    record {
      asks = asks_behind _ _ _ _ _ true _ _ _ c.ids.invariant.asks c.in_ok-next.ensures (λ store reached found.
          let from = from_next _ id c.in_ok-next.field-0 found (omega (arith, ints, c.ids.id-is, c.if-id-ends.false, fits)) in
          subst (λ i. IsReached (tree_of c.args.table) trees c.args.listed.now c.in-Some.ends.last i (c.ids._turn + 1)) (sym (to_z-of_z {w = w64} {z = c.in-Some-2.next} next_fits))
          (next_reached (tree_of c.args.table) trees c.args.listed.now c.in-Some.ends.last id c.ids._turn reached (c.is_listed.ensures.same c.if-not-is_listed.false) c.in-Some-2.next (rw c.in-Some-2.is at from)));
    }

pub returns-in-Some-2 : goal.returns-in-Some-2
returns-in-Some-2 g c =
    let id = to_z w64 c.ids.id-bits in
    let fits : FitsSigned w64 c.in-Some.ends.last = search rules in
    asks_behind _ _ _ _ _ _ _ _ _ c.ids.invariant.asks c.in_ok-next.ensures (λ store reached found.
    let from = from_next _ id c.in_ok-next.field-0 found (omega (arith, ints, c.ids.id-is, c.if-id-ends.false, fits)) in
    let next = next_reached (tree_of c.args.table) (state g.S.Store c.args.conn.now).now.trees c.args.listed.now c.in-Some.ends.last id c.ids._turn reached (c.is_listed.ensures.same c.if-not-is_listed.false) c.in-Some-2.next (rw c.in-Some-2.is at from) in
    absurd (omega (arith, next.turns, below_few c.args.listed.now c.in-Some-2.next, c.if-turn-turn-end.false)))
