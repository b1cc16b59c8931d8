use Rattle.zeb_leaves.proofs.Cited.{◌∙◌, sym, state}
use Rattle.zeb_leaves.proofs.HandedOn.{looks_ended}
use Rattle.zeb_leaves.proofs.SpanCalls.{none_in_turn, none_listed}
use Rattle.zeb_leaves.proofs.between.postings_between.Goals as goal

pub ordered_between-requires : goal.ordered_between-requires
ordered_between-requires g c = sym c.comes_before.ensures ∙ c.if-comes_before.false

pub returns-then-comes_before-clause-units : goal.returns-then-comes_before-clause-units
returns-then-comes_before-clause-units g c =
    looks_ended _ _ c.none_between.result _ _ _ _ c.none_between.ensures (λ store never. absurd never)
    (λ store list. none_listed (state g.S.Store c.args.conn.now) store c.args.at c.args.first.now c.args.last.now (sym c.comes_before.ensures ∙ c.if-comes_before.true) list.items)

pub returns-then-comes_before-clause-turn : goal.returns-then-comes_before-clause-turn
returns-then-comes_before-clause-turn g c clean store =
    let s = state g.S.Store c.args.conn.now in
    none_in_turn s store c.args.at c.args.first.now c.args.last.now (sym c.comes_before.ensures ∙ c.if-comes_before.true) c.none_between.result (c.none_between.ensures.finds clean store)

pub returns-clause-units : goal.returns-clause-units
returns-clause-units g c = c.ordered_between.ensures.units

pub returns-clause-turn : goal.returns-clause-turn
returns-clause-turn g c = c.ordered_between.ensures.turn
