use Rattle.zeb_extract.proofs.Cited.{rules, ◌∙◌, apart_by, rising_by, occurrences_apart}
use Rattle.zeb_extract.proofs.Listed.{found_are_occurrences}
use Rattle.zeb_extract.proofs.entries.occurrences.Goals as goal

pub put_in_order-requires : goal.put_in_order-requires
put_in_order-requires c = apart_by (λ x y. search rules) occurrences_apart

pub returns-clause-rising : goal.returns-clause-rising
returns-clause-rising c = rising_by (λ x y. search rules) _ c.in_ok-put_in_order.ensures.rising

pub returns-clause-members : goal.returns-clause-members
returns-clause-members c =
    found_are_occurrences _ _ _ _ _ _ c.loop-unit.invariant c.in-None.ensures.steps.0 (c.into_iter-unit-iterator.ensures.into_iter_gives ∙ c.units-unit-items.ensures)
    c.in_ok-put_in_order.ensures.members
